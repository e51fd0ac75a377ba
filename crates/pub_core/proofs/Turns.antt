-- One reply of a served link, in a world of one session: a request is read, its reply is begun, and bytes are sent.
use Rattle.std.proofs.Common.{◌≡◌, ◌≤◌, ℕ, ◌+◌, ◌-◌, Bool, true, false, not, cond, List, [], ◌∷◌, ◌++◌, length, map, take, drop, Some, refl, sym, ap, subst, ◌∙◌, arith, length-take, take-add}
use Rattle.std.specs.Prelude.{is_ok, slice_range}
use Rattle.std.specs.List.{All}
use Rattle.std.proofs.lemmas.List.{take_all, take-append-drop}
use Rattle.fm_model.specs.declared.op.Op.{Op}
use Rattle.fm_model.specs.declared.proto.Proto.{Proto}
use Rattle.fm_model.specs.Collection.{coll}
use Rattle.web_frame.specs.Items.{Item}
use Rattle.dap_reply.specs.declared.served.Mark.{Mark}
use Rattle.dap_reply.specs.Reply.{target_wanted, reply_of}
use Rattle.dap_reply.specs.Served.{marked_reply}
use Rattle.pub_core.specs.declared.event.Event.{Event}
use Rattle.pub_core.specs.declared.event.Event.TheVariants.{Publish, Look}
use Rattle.pub_core.specs.World.{is_refused_at, is_wanted_at, script_in, SessionState, World}
use Rattle.pub_core.specs.Happening.{begun, run}
use Rattle.pub_core.specs.Running.{looking, AreTakenInTurn}
use Rattle.pub_core.specs.Standing.{first_item, Replies, Rests}
use Rattle.pub_core.proofs.OneSession.{all-le, happens-look, one, publishes, rest-published, run-append, run-none, run-one}
use Rattle.pub_core.proofs.Resting.{begin-rest, due-rest}
use Rattle.pub_core.proofs.SoFar.{some-reply, with_reply}
use Rattle.pub_core.proofs.Steps.{begins, begun-no, looks}

-- the operations up to a number, which are all published
pub fronts : (ops : List Op) (n m : ℕ) → n ≤ m → take n ops ++ slice_range ops n m ≡ take m ops
fronts ops n m le =
    let same : n + (m - n) ≡ m = omega arith in
    sym (take-add n (m - n) ops) ∙ ap (λ (k : ℕ). take k ops) same

-- a reply is begun in a session over as many operations as its mark says
pub record BeginsReply (proto : Proto) (ops : List Op) (s : SessionState) (left : List ℕ) (mark : Mark) (item : Item)
    (events : List Event) (world : World) : Type 0 where
  pub after : SessionState
  pub run_is : run proto world events ≡ one (take mark.revision ops) after
  pub replies : Replies proto (take mark.revision ops) after left item
      (script_in proto (take mark.revision ops) s) (marked_reply proto ops mark item (length s.revs + 1)) 0
  pub revs_are : after.revs ≡ s.revs ++ mark.revision ∷ []
  pub seen_is : after.seen ≡ mark.revision

take-twice : (n : ℕ) (ops : List Op) → take n (take n ops) ≡ take n ops
take-twice n ops = take_all n (take n ops) (omega (arith, length-take n ops))

-- the reply over a front of the operations
reply-front : (proto : Proto) (ops : List Op) (mark : Mark) (item : Item) (number : ℕ)
    → reply_of proto (coll (take mark.revision (take mark.revision ops))) mark.revision item number
    ≡ marked_reply proto ops mark item number
reply-front proto ops mark item number =
    ap (λ (l : List Op). reply_of proto (coll l) mark.revision item number) (take-twice mark.revision ops)

begin-front : (proto : Proto) (ops : List Op) (s : SessionState) (left : List ℕ) (mark : Mark) (item : Item)
    (events : List Event) (world : World) → Rests proto (take mark.revision ops) s left
    → first_item left ≡ Some item
    → run proto world events ≡ one (take mark.revision ops) (with_reply s mark.revision mark.revision)
    → BeginsReply proto ops s left mark item events world
begin-front proto ops s left mark item events world r first is =
    let number : ℕ = length s.revs + 1 in
    let begun : Replies proto (take mark.revision ops) (with_reply s mark.revision mark.revision) left item
    (script_in proto (take mark.revision ops) s)
    (reply_of proto (coll (take mark.revision (take mark.revision ops))) mark.revision item number) 0 =
    begin-rest item mark.revision mark.revision r first
    (some-reply proto (coll (take mark.revision (take mark.revision ops))) mark.revision item number) in
    record {
      after = with_reply s mark.revision mark.revision;
      run_is = is;
      replies = subst (λ (l : List ℕ). Replies proto (take mark.revision ops)
          (with_reply s mark.revision mark.revision) left item
          (script_in proto (take mark.revision ops) s) l 0) (reply-front proto ops mark item number) begun;
      revs_are = refl;
      seen_is = refl;
    }

-- after a look, once the operations before its revision are published
begin-wanted : (proto : Proto) (ops : List Op) (n : ℕ) (s : SessionState) (left : List ℕ) (mark : Mark) (item : Item)
    → Rests proto (take n ops) s left → first_item left ≡ Some item → is_wanted_at proto.site (Some item) ≡ true
    → AreTakenInTurn ops → n ≤ mark.revision → mark.revision ≤ length ops
    → All (λ (revision : ℕ). revision ≤ n) s.revs
    → BeginsReply proto ops s left mark item (map Publish (slice_range ops n mark.revision) ++ Look 0 ∷ [])
    (one (take n ops) s)
begin-wanted proto ops n s left mark item r first wanted taken from to within =
    let more : List Op = slice_range ops n mark.revision in
    let whole : take n ops ++ more ≡ take mark.revision ops = fronts ops n mark.revision from in
    let here : Rests proto (take mark.revision ops) s left =
    subst (λ (l : List Op). Rests proto l s left) whole
    (rest-published more (all-le s.revs n (length (take n ops)) (omega (arith, length-take n ops)) within) r) in
    let count : length (take mark.revision ops) ≡ mark.revision = omega (arith, length-take mark.revision ops) in
    let all : ops ≡ take n ops ++ more ++ drop mark.revision ops =
    sym (take-append-drop mark.revision ops)
    ∙ ap (λ (l : List Op). l ++ drop mark.revision ops) (sym whole) in
    begin-front proto ops s left mark item (map Publish more ++ Look 0 ∷ []) (one (take n ops) s) here first
    (run-append proto (one (take n ops) s) (map Publish more) (Look 0 ∷ [])
    ∙ ap (λ (w : World). run proto w (Look 0 ∷ []))
    (publishes proto s more (take n ops) (drop mark.revision ops) ops all taken
    ∙ ap (λ (l : List Op). one l s) whole)
    ∙ run-one proto (one (take mark.revision ops) s) (Look 0)
    ∙ happens-look proto (take mark.revision ops) s
    ∙ ap (one (take mark.revision ops)) (looks 0 item here first wanted)
    ∙ ap (λ (k : ℕ). one (take mark.revision ops) (with_reply s k k)) count)

-- at once, where no collection is looked at
begin-refused : (proto : Proto) (ops : List Op) (s : SessionState) (left : List ℕ) (mark : Mark) (item : Item)
    → Rests proto (take mark.revision ops) s left → first_item left ≡ Some item
    → is_refused_at proto.site (Some item) ≡ true → s.seen ≡ mark.revision
    → BeginsReply proto ops s left mark item [] (one (take mark.revision ops) (begun proto (take mark.revision ops) s))
begin-refused proto ops s left mark item r first refused seen =
    let log : List Op = take mark.revision ops in
    begin-front proto ops s left mark item [] (one log (begun proto log s)) r first
    (run-none proto (one log (begun proto log s)) ∙ ap (one log) (begins item r first refused)
    ∙ ap (λ (k : ℕ). one log (with_reply s k k)) seen)

begin-by : (proto : Proto) (ops : List Op) (n : ℕ) (s : SessionState) (left : List ℕ) (mark : Mark) (item : Item)
    (wanted : Bool) → is_ok (target_wanted proto.site item) ≡ wanted
    → Rests proto (take n ops) s left → first_item left ≡ Some item → AreTakenInTurn ops
    → n ≤ mark.revision → mark.revision ≤ length ops → All (λ (revision : ℕ). revision ≤ n) s.revs
    → s.seen ≡ n → (wanted ≡ false → mark.revision ≡ n)
    → BeginsReply proto ops s left mark item
    (cond wanted (map Publish (slice_range ops n mark.revision) ++ Look 0 ∷ []) [])
    (one (take n ops) (begun proto (take n ops) s))
begin-by proto ops n s left mark item true is r first taken from to within seen same =
    subst (BeginsReply proto ops s left mark item (map Publish (slice_range ops n mark.revision) ++ Look 0 ∷ []))
    (ap (one (take n ops)) (sym (begun-no proto (take n ops) s
    (due-rest r ∙ ap (is_refused_at proto.site) first ∙ ap not is))))
    (begin-wanted proto ops n s left mark item r first is taken from to within)
begin-by proto ops n s left mark item false is r first taken from to within seen same =
    let equal : mark.revision ≡ n = same refl in
    subst (λ (k : ℕ). BeginsReply proto ops s left mark item [] (one (take k ops) (begun proto (take k ops) s))) equal
    (begin-refused proto ops s left mark item
    (subst (λ (k : ℕ). Rests proto (take k ops) s left) (sym equal) r) first (ap not is) (seen ∙ sym equal))

-- a reply is begun, after a look or at once
pub begin-reply : (proto : Proto) (ops : List Op) (n : ℕ) (s : SessionState) (left : List ℕ) (mark : Mark) (item : Item)
    → Rests proto (take n ops) s left → first_item left ≡ Some item → AreTakenInTurn ops
    → n ≤ mark.revision → mark.revision ≤ length ops → All (λ (revision : ℕ). revision ≤ n) s.revs
    → s.seen ≡ n → (is_ok (target_wanted proto.site item) ≡ false → mark.revision ≡ n)
    → BeginsReply proto ops s left mark item (looking proto ops n mark item)
    (one (take n ops) (begun proto (take n ops) s))
unfolding looking
begin-reply proto ops n s left mark item r first taken from to within seen same =
    begin-by proto ops n s left mark item (is_ok (target_wanted proto.site item)) refl r first taken from to within seen
    same
