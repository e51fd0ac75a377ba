-- The names that were settled so far, and one more.
use Rattle.std.proofs.Common.{◌≡◌, ℕ, All, List, [], ◌∷◌, ◌++◌, map, Option, Some, None, IfSome, IsSomeAnd, option_to_list, flat_map, inl, inr, refl, sym, ap, ap₂, subst, ◌∙◌, append_assoc, append-nil}
use Rattle.std.proofs.lemmas.List.{map-append}
use Rattle.std.proofs.lemmas.List.Elements.{All-append, All-weaker}
use Rattle.std.proofs.lemmas.Grind.{flat_map-append}
use Rattle.dev_traits.specs.declared.inbox.Arrival.TheVariants as arrivals
use Rattle.dev_traits.specs.declared.inbox.Verdict.{Verdict}
use Rattle.dev_traits.specs.Door.{first_of}
use Rattle.dev_traits.specs.Inbox.{after_next, after_settle, inbox_lines, Post, with_lines}
use Rattle.dev_traits.specs.Lines.{Tells, Told}
use Rattle.dev_traits.specs.Files.{found_of}
use Rattle.fm_model.specs.declared.limit.TheConstants.{MAX_FILE_BYTES}
use Rattle.fm_model.specs.declared.op.Op.{Op}
use Rattle.fm_model.specs.declared.proto.Proto.{Proto}
use Rattle.pub_look.specs.History.{Continues, History}
use Rattle.srv_verdict.specs.Attempts.{looked_number, published_number, Sees}
use Rattle.srv_verdict.proofs.LaterLemmas.{IsVerdictOnFile-later, IsVerdictOnRetraction-later}
use Rattle.srv_verdict.proofs.SeesLemmas.{Sees-itself, Sees-then}
use Rattle.srv_ingest.specs.Ingests.{AllRight, IsRight, line_on, looked_numbers, MovesOn, MovesIn, published_numbers, Settled, Settlement, TellsAll}
use Rattle.srv_ingest.specs.Verdicts.{file_or_verdict, IsVerdict, taken_back}
use Rattle.srv_ingest.proofs.LineLemmas.{TellsAll-later, TellsAll-none, TellsAll-one, TellsAll-then}
use Rattle.srv_ingest.proofs.TurnLemmas.{AllRight-none, AllRight-one, first-is, lines-itself, MovesIn-itself, Sees-one}

-- a verdict on a name stays right
pub IsVerdict-later : (proto : Proto) (ops ops' : List Op) (content : List ℕ → Option (List ℕ)) (name : List ℕ)
    (back : Option (List ℕ)) (verdict : Verdict) → Continues ops ops'
    → IsVerdict proto ops content name back verdict → IsVerdict proto ops' content name back verdict
unfolding IsVerdict
IsVerdict-later proto ops ops' content name (Some back) verdict later is = elim is [
  | inl short ↦ inl short
  | inr right ↦ inr (IsVerdictOnRetraction-later ops ops' back verdict later right)
]
IsVerdict-later proto ops ops' content name None verdict later is = elim is [
  | inl short ↦ inl short
  | inr right ↦ inr (IsVerdictOnFile-later ops ops'
      (file_or_verdict proto name (found_of MAX_FILE_BYTES (content name))) verdict later right)
]

-- the names that are left, where some were settled and then others
left-then : (xs ys : List Settlement) (end names names' names'' : List (List ℕ))
    → names ≡ (map (λ it. it.name) xs ++ []) ++ names' → names' ≡ (map (λ it. it.name) ys ++ end) ++ names''
    → names ≡ (map (λ it. it.name) (xs ++ ys) ++ end) ++ names''
left-then xs ys end names names' names'' first second =
    let name : Settlement → List ℕ = λ it. it.name in
    first ∙ ap₂ (λ (f g : List (List ℕ)). f ++ g) (append-nil (map name xs)) second
    ∙ sym (append_assoc (map name xs) (map name ys ++ end) names'')
    ∙ ap (λ (l : List (List ℕ)). l ++ names'') (sym (append_assoc (map name xs) (map name ys) end)
    ∙ ap (λ (l : List (List ℕ)). l ++ end) (sym (map-append name xs ys)))

-- the verdicts, where some were given and then others
verdicts-then : (xs ys : List Settlement) (given given' given'' : List Verdict)
    → given' ≡ given ++ map (λ it. it.verdict) xs → given'' ≡ given' ++ map (λ it. it.verdict) ys
    → given'' ≡ given ++ map (λ it. it.verdict) (xs ++ ys)
verdicts-then xs ys given given' given'' first second =
    let verdict : Settlement → Verdict = λ it. it.verdict in
    second ∙ ap (λ (l : List Verdict). l ++ map verdict ys) first
    ∙ append_assoc given (map verdict xs) (map verdict ys)
    ∙ ap (λ (l : List Verdict). given ++ l) (sym (map-append verdict xs ys))

-- some names were settled, and then others
pub MovesIn-then : (a b c : Option Post) (xs ys : List Settlement) (unsettled : Option (List ℕ))
    → MovesIn a b xs None → MovesIn b c ys unsettled → MovesIn a c (xs ++ ys) unsettled
MovesIn-then None b c xs ys unsettled first second = tt
MovesIn-then (Some p) None c xs ys unsettled first second = absurd first
MovesIn-then (Some p) (Some q) None xs ys unsettled first second = absurd second
MovesIn-then (Some p) (Some q) (Some r) xs ys unsettled first second = record {
  left_is = left-then xs ys (option_to_list unsettled) p.left q.left r.left first.left_is second.left_is;
  verdicts_are = verdicts-then xs ys p.verdicts q.verdicts r.verdicts first.verdicts_are second.verdicts_are;
  content_is = second.content_is ∙ first.content_is;
  asked_is = second.asked_is ∙ first.asked_is;
}

-- one name was settled
MovesIn-one : (held held' : Option Post) (it : Settlement) (told : Told)
    → IfSome held (λ post. first_of post.left ≡ Some it.name)
    → held' ≡ after_settle it.verdict (with_lines told (after_next (arrivals.Name it.name) held))
    → MovesIn held held' (it ∷ []) None
MovesIn-one None held' it told first is = tt
MovesIn-one (Some post) held' it told first is =
    subst (λ (h : Option Post). IsSomeAnd h (λ post'. MovesOn post post' (it ∷ []) None)) (sym is) (record {
      left_is = first-is post.left it.name first;
      verdicts_are = refl;
      content_is = refl;
      asked_is = refl;
    })

-- verdicts stay right
pub AllRight-later : (proto : Proto) (held : Option Post) (ops ops' : List Op) (settled : List Settlement)
    → Continues ops ops' → AllRight proto held ops settled → AllRight proto held ops' settled
AllRight-later proto None ops ops' settled later all = tt
AllRight-later proto (Some post) ops ops' settled later all =
    All-weaker (IsRight proto post.content ops) (IsRight proto post.content ops')
    (λ it right. IsVerdict-later proto ops ops' post.content it.name (taken_back it.name) it.verdict later right)
    settled all

-- some verdicts are right, and others, by an inbox that moved on
pub AllRight-then : (proto : Proto) (a b : Option Post) (ops : List Op) (settled found more : List Settlement)
    → MovesIn a b settled None → AllRight proto a ops found → AllRight proto b ops more
    → AllRight proto a ops (found ++ more)
AllRight-then proto None b ops settled found more moves all right = tt
AllRight-then proto (Some p) None ops settled found more moves all right = absurd moves
AllRight-then proto (Some p) (Some q) ops settled found more moves all right =
    All-append (IsRight proto p.content ops) found more all
    (subst (λ (c : List ℕ → Option (List ℕ)). All (IsRight proto c ops) more) moves.content_is right)

-- no name was settled yet
pub Settled-none : (proto : Proto) (held : Option Post) (pass : History)
    → Settled proto held held pass pass [] [] None
Settled-none proto held pass = record {
  moves = MovesIn-itself held held refl;
  each = AllRight-none proto held pass.seen;
  sees = Sees-itself pass;
  lines = TellsAll-none proto held held pass.seen (lines-itself held held refl);
}

-- the numbers of some verdicts and of others
numbers-then : (number : Verdict → List ℕ) (xs ys : List Settlement)
    → flat_map (λ it. number it.verdict) xs ++ flat_map (λ it. number it.verdict) ys
    ≡ flat_map (λ it. number it.verdict) (xs ++ ys)
numbers-then number xs ys = sym (flat_map-append (λ (it : Settlement). number it.verdict) xs ys)

-- what some verdicts say and speak of, and then others
Sees-found : (a b c : History) (xs ys : List Settlement) → Sees a b (published_numbers xs) (looked_numbers xs)
    → Sees b c (published_numbers ys) (looked_numbers ys)
    → Sees a c (published_numbers (xs ++ ys)) (looked_numbers (xs ++ ys))
Sees-found a b c xs ys first second =
    subst (λ (l : List ℕ). Sees a c l (looked_numbers (xs ++ ys))) (numbers-then published_number xs ys)
    (subst (λ (l : List ℕ). Sees a c (published_numbers xs ++ published_numbers ys) l)
    (numbers-then looked_number xs ys)
    (Sees-then a b c (published_numbers xs) (published_numbers ys) (looked_numbers xs) (looked_numbers ys)
    first second))

-- names were settled, and then others, with the verdicts that were found
pub Settled-then : {proto : Proto} {a b c : Option Post} {pass pass' pass'' : History}
    {settled : List Settlement} (more found : List Settlement) {unsettled : Option (List ℕ)}
    → Settled proto a b pass pass' settled settled None → MovesIn b c more unsettled
    → AllRight proto b pass''.seen found → Sees pass' pass'' (published_numbers found) (looked_numbers found)
    → TellsAll proto b c pass''.seen found
    → Settled proto a c pass pass'' (settled ++ more) (settled ++ found) unsettled
Settled-then {proto} {a} {b} {c} {pass} {pass'} {pass''} {settled} more found {unsettled} is moves right sees lines =
    let all = AllRight-later proto a pass'.seen pass''.seen settled sees.later is.each in
    record {
      moves = MovesIn-then a b c settled more unsettled is.moves moves;
      each = AllRight-then proto a b pass''.seen settled settled found is.moves all right;
      sees = Sees-found pass pass' pass'' settled found is.sees sees;
      lines = TellsAll-then proto a b c pass''.seen settled found is.moves
          (TellsAll-later proto a b pass'.seen pass''.seen settled sees.later is.each is.lines) lines;
    }

-- one more name was settled
pub Settled-more : {proto : Proto} {a b c : Option Post} {pass pass' pass'' : History} {settled : List Settlement}
    (it : Settlement) (told : Told) → Settled proto a b pass pass' settled settled None
    → IfSome b (λ post. first_of post.left ≡ Some it.name)
    → IfSome b (λ post. IsRight proto post.content pass''.seen it)
    → Sees pass' pass'' (published_number it.verdict) (looked_number it.verdict)
    → IfSome b (λ post. Tells (line_on proto pass''.seen post.content it) post.lines told)
    → c ≡ after_settle it.verdict (with_lines told (after_next (arrivals.Name it.name) b))
    → Settled proto a c pass pass'' (settled ++ it ∷ []) (settled ++ it ∷ []) None
Settled-more {proto} {a} {b} {c} {pass} {pass'} {pass''} {settled} it told is first right sees lines held_is =
    Settled-then (it ∷ []) (it ∷ []) is (MovesIn-one b c it told first held_is)
    (AllRight-one proto b pass''.seen it right) (Sees-one pass' pass'' it sees)
    (TellsAll-one proto b c pass''.seen it told (lines_are b held_is) lines)
  where
    lines_are : (held : Option Post)
        → c ≡ after_settle it.verdict (with_lines told (after_next (arrivals.Name it.name) held))
        → IfSome held (λ post. inbox_lines c ≡ told)
    lines_are None is = tt
    lines_are (Some post) is = ap inbox_lines is
