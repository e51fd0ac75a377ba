-- The lines of verdicts, as more operations are seen, and of several verdicts.
use Rattle.std.proofs.Common.{◌≡◌, ◌⊎◌, inl, inr, ℕ, All, List, [], ◌∷◌, ◌++◌, Option, Some, None, Result, Ok, Err, IfSome, take, flat_map, refl, sym, ap, ap₂, subst, append-nil}
use Rattle.std.proofs.lemmas.List.Concat.{flat_map-append}
use Rattle.std.proofs.lemmas.List.Elements.{All-head, All-tail}
use Rattle.dev_traits.specs.declared.inbox.Verdict.{Verdict}
use Rattle.dev_traits.specs.declared.inbox.Verdict.TheVariants as verdicts
use Rattle.dev_traits.specs.Inbox.{inbox_lines, Post}
use Rattle.dev_traits.specs.Lines.{Tells, Told}
use Rattle.dev_traits.specs.Files.{found_of}
use Rattle.dev_traits.proofs.TellLemmas.{Tells-none, Tells-then}
use Rattle.fm_model.specs.declared.full.Tally.{Tally}
use Rattle.fm_model.specs.declared.limit.TheConstants.{MAX_FILE_BYTES}
use Rattle.fm_model.specs.declared.loaded.Loaded.{Loaded}
use Rattle.fm_model.specs.declared.op.Op.{Op}
use Rattle.fm_model.specs.declared.op.Op.TheVariants.{Put}
use Rattle.fm_model.specs.declared.proto.Proto.{Proto}
use Rattle.fm_model.specs.Collection.{coll, tally}
use Rattle.pub_look.specs.History.{Continues}
use Rattle.srv_verdict.specs.Attempts.{HeldAfter, published_number}
use Rattle.srv_verdict.specs.Verdicts.{IsVerdictOnFile}
use Rattle.srv_verdict.proofs.DecidingLemmas.{IsNumbered-within}
use Rattle.srv_verdict.proofs.LaterLemmas.{take-later}
use Rattle.srv_ingest.specs.declared.file.Refusal.{Refusal}
use Rattle.srv_ingest.specs.Ingests.{AllRight, IsRight, line_on, MovesIn, Settlement, TellsAll}
use Rattle.srv_ingest.specs.Lines.{back_lines, file_lines, held_after, later_line, lines_of, put_lines}
use Rattle.srv_ingest.specs.Verdicts.{file_or_refusal, IsVerdict, taken_back, unless_refused}

-- the line of a verdict says what is held after its operation
pub put_lines-held : (ops : List Op) (name : List ℕ) (held : Tally) (verdict : Verdict)
    → HeldAfter ops held (published_number verdict)
    → put_lines name held verdict ≡ put_lines name (held_after ops verdict) verdict
unfolding put_lines
put_lines-held ops name held (verdicts.Published number) all =
    ap (λ (h : Tally). put_lines name h (verdicts.Published number))
    (All-head (λ (n : ℕ). held ≡ tally (coll (take n ops))) number [] all)
put_lines-held ops name held (verdicts.Full count) all = refl
put_lines-held ops name held (verdicts.Refused code) all = refl
put_lines-held ops name held (verdicts.NotHeld count) all = refl
put_lines-held ops name held verdicts.Gone all = refl
put_lines-held ops name held verdicts.Short all = refl

-- the line that memory ran out at a name
pub lines_of-short : (proto : Proto) (ops : List Op) (content : List ℕ → Option (List ℕ)) (name : List ℕ)
    (back : Option (List ℕ)) → later_line name ∷ [] ≡ lines_of proto ops content name back verdicts.Short
unfolding back_lines file_lines put_lines
lines_of-short proto ops content name (Some back) = refl
lines_of-short proto ops content name None =
    without (file_or_refusal proto name (found_of MAX_FILE_BYTES (content name)))
  where
    without : (found : Result Loaded Refusal) → later_line name ∷ [] ≡ file_lines ops name found verdicts.Short
    without (Ok file) = refl
    without (Err refusal) = refl

-- the line of a verdict on a file stays
file_lines-later : (ops ops' : List Op) (name : List ℕ) (found : Result Loaded Refusal) (verdict : Verdict)
    → Continues ops ops' → (verdict ≡ verdicts.Short) ⊎ IsVerdictOnFile ops (unless_refused found) verdict
    → file_lines ops name found verdict ≡ file_lines ops' name found verdict
unfolding file_lines put_lines
file_lines-later ops ops' name (Err refusal) (verdicts.Published number) later is = refl
file_lines-later ops ops' name (Err refusal) (verdicts.Full count) later is = refl
file_lines-later ops ops' name (Err refusal) (verdicts.Refused code) later is = refl
file_lines-later ops ops' name (Err refusal) (verdicts.NotHeld count) later is = refl
file_lines-later ops ops' name (Err refusal) verdicts.Gone later is = refl
file_lines-later ops ops' name (Err refusal) verdicts.Short later is = refl
file_lines-later ops ops' name (Ok file) (verdicts.Published number) later (inl short) = absurd (cc)
file_lines-later ops ops' name (Ok file) (verdicts.Published number) later (inr is) =
    ap (λ (l : List Op). put_lines name (tally (coll l)) (verdicts.Published number))
    (take-later ops ops' number later (IsNumbered-within ops number (Put file) is))
file_lines-later ops ops' name (Ok file) (verdicts.Full count) later is = refl
file_lines-later ops ops' name (Ok file) (verdicts.Refused code) later is = refl
file_lines-later ops ops' name (Ok file) (verdicts.NotHeld count) later is = refl
file_lines-later ops ops' name (Ok file) verdicts.Gone later is = refl
file_lines-later ops ops' name (Ok file) verdicts.Short later is = refl

-- the line of a verdict stays
lines_of-later : (proto : Proto) (ops ops' : List Op) (content : List ℕ → Option (List ℕ)) (name : List ℕ)
    (back : Option (List ℕ)) (verdict : Verdict) → Continues ops ops'
    → IsVerdict proto ops content name back verdict
    → lines_of proto ops content name back verdict ≡ lines_of proto ops' content name back verdict
unfolding IsVerdict
lines_of-later proto ops ops' content name (Some back) verdict later is = refl
lines_of-later proto ops ops' content name None verdict later is =
    file_lines-later ops ops' name (file_or_refusal proto name (found_of MAX_FILE_BYTES (content name))) verdict later
    is

-- the lines of several verdicts stay
lines-later : (proto : Proto) (ops ops' : List Op) (content : List ℕ → Option (List ℕ)) (found : List Settlement)
    → Continues ops ops' → All (IsRight proto content ops) found
    → flat_map (line_on proto ops content) found ≡ flat_map (line_on proto ops' content) found
lines-later proto ops ops' content [] later right = refl
lines-later proto ops ops' content (it ∷ found) later right =
    let P : Settlement → Type 0 = IsRight proto content ops in
    ap₂ (λ (xs ys : List (List ℕ)). xs ++ ys)
    (lines_of-later proto ops ops' content it.name (taken_back it.name) it.verdict later (All-head P it found right))
    (lines-later proto ops ops' content found later (All-tail P it found right))

-- verdicts were told, by what has been seen since
pub TellsAll-later : (proto : Proto) (a b : Option Post) (ops ops' : List Op) (found : List Settlement)
    → Continues ops ops' → AllRight proto a ops found → TellsAll proto a b ops found
    → TellsAll proto a b ops' found
TellsAll-later proto None b ops ops' found later right tells = tt
TellsAll-later proto (Some post) b ops ops' found later right tells =
    subst (λ (l : List (List ℕ)). Tells l post.lines (inbox_lines b))
    (lines-later proto ops ops' post.content found later right) tells

-- some verdicts were told, and then others
pub TellsAll-then : (proto : Proto) (a b c : Option Post) (ops : List Op) (xs ys : List Settlement)
    → MovesIn a b xs None → TellsAll proto a b ops xs → TellsAll proto b c ops ys
    → TellsAll proto a c ops (xs ++ ys)
TellsAll-then proto None b c ops xs ys moves first second = tt
TellsAll-then proto (Some p) None c ops xs ys moves first second = absurd moves
TellsAll-then proto (Some p) (Some q) c ops xs ys moves first second =
    let line : Settlement → List (List ℕ) = line_on proto ops p.content in
    subst (λ (l : List (List ℕ)). Tells l p.lines (inbox_lines c)) (sym (flat_map-append line xs ys))
    (Tells-then (flat_map line xs) (flat_map line ys) p.lines q.lines (inbox_lines c) first
    (subst (λ (k : List ℕ → Option (List ℕ)). Tells (flat_map (line_on proto ops k) ys) q.lines (inbox_lines c))
    moves.content_is second))

-- no verdict was told
pub TellsAll-none : (proto : Proto) (held held' : Option Post) (ops : List Op)
    → IfSome held (λ post. inbox_lines held' ≡ post.lines) → TellsAll proto held held' ops []
TellsAll-none proto None held' ops same = tt
TellsAll-none proto (Some post) held' ops same =
    subst (λ (t : Told). Tells [] post.lines t) (sym same) (Tells-none post.lines)

-- one verdict was told
pub TellsAll-one : (proto : Proto) (held held' : Option Post) (ops : List Op) (it : Settlement) (told : Told)
    → IfSome held (λ post. inbox_lines held' ≡ told)
    → IfSome held (λ post. Tells (line_on proto ops post.content it) post.lines told)
    → TellsAll proto held held' ops (it ∷ [])
TellsAll-one proto None held' ops it told same tells = tt
TellsAll-one proto (Some post) held' ops it told same tells =
    subst (λ (t : Told). Tells (flat_map (line_on proto ops post.content) (it ∷ [])) post.lines t) (sym same)
    (subst (λ (l : List (List ℕ)). Tells l post.lines told) (sym (append-nil (line_on proto ops post.content it)))
    tells)
