-- What a served link is sent.
use Rattle.std.proofs.Common.{◌≡◌, ◌≢◌, ◌<◌, ◌≤◌, ℕ, suc, ◌+◌, List, [], ◌∷◌, ◌++◌, length, map, take, Bool, true, false, ◌==◌, ◌||◌, cond, Some, None, refl, sym, ap, ap₂, subst, ◌∙◌, arith, ⊎_elim}
use Rattle.std.specs.Prelude.{filter, slice_get, is_some}
use Rattle.std.proofs.lemmas.List.{append-nil, length-append, take_all}
use Rattle.fm_model.specs.declared.op.Op.{Op}
use Rattle.fm_model.specs.declared.proto.Proto.{Proto}
use Rattle.web_frame.specs.Items.{bad_head, bytes_after, head_too_long, heads_of, request, Item}
use Rattle.web_session.specs.declared.action.End.TheVariants as ends
use Rattle.web_session.specs.State.{MAX_REPLIES}
use Rattle.web_session.specs.State.{end_after, end_of_input}
use Rattle.dap_reply.specs.declared.served.Mark.{Mark}
use Rattle.dap_reply.specs.declared.served.Stop.TheVariants as stops
use Rattle.dap_reply.specs.Head.{no_memory_reply}
use Rattle.dap_reply.specs.Reply.{is_last, is_wanted}
use Rattle.dap_reply.specs.Script.{script_of}
use Rattle.dap_reply.specs.Served.{asked_of, held_bytes, input_of, items_of, marked_reply, sent_by, wanted_revisions, EndsBy, HasEnough, HasFailed, InputEnds, LacksReply, LinkCall, Served, StopsBy}

-- each mark has the whole length of its reply
AreWhole : Proto → List Op → List Mark → List Item → ℕ → Type 0
AreWhole proto ops marks items before = (index : ℕ) (mark : Mark) (item : Item) → slice_get marks index ≡ Some mark
    → slice_get items index ≡ Some item
    → mark.sent ≡ length (marked_reply proto ops mark item (before + index + 1))

whole-script : (proto : Proto) (ops : List Op) (marks : List Mark) (items : List Item) (before : ℕ)
    → AreWhole proto ops marks items before
    → sent_by proto ops marks items before
    ≡ script_of proto ops (map (λ (mark : Mark). mark.revision) marks) items before
unfolding AreWhole sent_by script_of
whole-script proto ops [] items before whole = refl
whole-script proto ops (mark ∷ marks) [] before whole = refl
whole-script proto ops (mark ∷ marks) (item ∷ items) before whole =
    let reply = marked_reply proto ops mark item (before + 1) in
    let first = whole 0 mark item refl refl in
    let others : AreWhole proto ops marks items (before + 1) = λ index next found there is.
    subst (λ n. next.sent ≡ length (marked_reply proto ops next found n)) (omega arith)
    (whole (suc index) next found there is) in
    ap₂ (λ (l r : List ℕ). l ++ r)
    (ap (λ n. take n reply) (first ∙ ap (λ n. length (marked_reply proto ops mark item n)) (omega arith))
    ∙ take_all (length reply) reply (omega arith))
    (whole-script proto ops marks items (before + 1) others)

-- the bytes of the replies, where the link did not fail
abbrev script_to : LinkCall → List ℕ
script_to call = script_of call.proto call.seen_after (map (λ (mark : Mark). mark.revision) call.trail)
    (items_of call) call.session.before

abbrev sent_to : LinkCall → List ℕ
sent_to call = sent_by call.proto call.seen_after call.trail (items_of call) call.session.before

sent-script : (call : LinkCall) → Served call → call.stop ≢ stops.Ended ends.LinkFault → sent_to call ≡ script_to call
unfolding AreWhole
sent-script call served sound =
    whole-script call.proto call.seen_after call.trail (items_of call) call.session.before
    (λ index mark item there is. ⊎_elim (λ whole. whole) (λ cut. absurd (sound cut.0))
    (served.writes.whole index mark item there is))

pub served-script : (call : LinkCall) → Served call → call.stop ≢ stops.Ended ends.LinkFault
    → call.stop ≢ stops.Ended ends.NoMemory → call.written ≡ script_to call
served-script call served sound ample =
    served.writes.written_is ∙ ap (λ l. sent_to call ++ l) (served.writes.only_short ample)
    ∙ append-nil (sent_to call) ∙ sent-script call served sound

-- where memory ran out, the text that says so follows
pub short-script : (call : LinkCall) → Served call → ¬ (HasFailed call) → call.stop ≡ stops.Ended ends.NoMemory
    → call.written ≡ script_to call ++ no_memory_reply
short-script call served sound short =
    served.writes.written_is
    ∙ ap (λ l. sent_to call ++ l) (⊎_elim (λ said. said) (λ failed. absurd (sound failed)) (served.writes.said short))
    ∙ ap (λ l. l ++ no_memory_reply) (sent-script call served (λ broke. apart (sym short ∙ broke)))
  where
    apart : stops.Ended ends.NoMemory ≡ stops.Ended ends.LinkFault → ⊥
    apart same = cc

-- the revisions of the requests that a collection is looked at for are as many as these requests
wanted-count : (proto : Proto) (marks : List Mark) (items : List Item) → length (wanted_revisions proto marks items)
    ≡ length (filter (is_wanted proto.site) (take (length marks) items))
unfolding wanted_revisions
wanted-count proto [] items = refl
wanted-count proto (mark ∷ marks) [] = refl
wanted-count proto (mark ∷ marks) (item ∷ items) =
    by_test (wanted-count proto marks items) (is_wanted proto.site item)
  where
    revisions : List ℕ
    revisions = wanted_revisions proto marks items

    others : List Item
    others = filter (is_wanted proto.site) (take (length marks) items)

    by_test : length revisions ≡ length others → (b : Bool)
        → length (cond b (mark.revision ∷ revisions) revisions) ≡ length (cond b (item ∷ others) others)
    by_test same true = ap suc same
    by_test same false = same

pub looks-count : (call : LinkCall) → Served call → call.stop ≢ stops.Ended ends.NoMemory
    → length call.looks_after
    ≡ length call.looks + length (filter (is_wanted call.proto.site) (take (length call.trail) (items_of call)))
looks-count call served ample =
    let revisions : List ℕ = wanted_revisions call.proto call.trail (items_of call) in
    omega (
      arith,
      ap length served.looks.looks_are,
      length-append (call.looks ++ revisions) served.looks.more,
      length-append call.looks revisions,
      ap length (served.looks.only_short ample),
      wanted-count call.proto call.trail (items_of call),
    )

pub looks-most : (call : LinkCall) → Served call → length call.looks_after
    ≤ length call.looks + length (filter (is_wanted call.proto.site) (take (length call.trail) (items_of call))) + 1
looks-most call served =
    let revisions : List ℕ = wanted_revisions call.proto call.trail (items_of call) in
    let one : length served.looks.more ≤ 1 = ⊎_elim
    (λ (none : served.looks.more ≡ []). omega (arith, ap length none))
    (λ (some : served.looks.more ≡ length call.seen_after ∷ []). omega (arith, ap length some))
    served.looks.at_most_one in
    omega (
      arith,
      one,
      ap length served.looks.looks_are,
      length-append (call.looks ++ revisions) served.looks.more,
      length-append call.looks revisions,
      wanted-count call.proto call.trail (items_of call),
    )

-- ---- how a served link stops

pub few-replies : (call : LinkCall) → Served call → length call.trail ≤ call.most
few-replies call served = served.answers.few

pub enough-left : (call : LinkCall) → Served call → call.stop ≡ stops.Enough
    → (length call.trail ≡ call.most) × (held_bytes call.session_after ≡ bytes_after call.most (input_of call))
    × (call.session_after.before ≡ call.session.before + call.most)
unfolding StopsBy
enough-left call served is =
    let enough : HasEnough call = subst (StopsBy call) is served.stops in
    (enough.all, enough.held_is, enough.counted)

pub short-due : (call : LinkCall) → Served call → call.stop ≡ stops.Ended ends.NoMemory
    → (length call.trail < length (items_of call)) × (length call.trail < call.most)
unfolding StopsBy EndsBy
short-due call served is =
    let lacks : LacksReply call = (subst (StopsBy call) is served.stops).1 in (lacks.unanswered, lacks.few)

pub over-closed : (call : LinkCall) → Served call → call.stop ≡ stops.Ended ends.Closed
    → end_of_input (heads_of (input_of call)).rest ≡ ends.Closed
unfolding StopsBy EndsBy
over-closed call served is =
    let over : InputEnds call ends.Closed = (subst (StopsBy call) is served.stops).1 in sym over.2

pub over-cut : (call : LinkCall) (left : ℕ) → Served call → call.stop ≡ stops.Ended (ends.Cut left)
    → end_of_input (heads_of (input_of call)).rest ≡ ends.Cut left
unfolding StopsBy EndsBy
over-cut call left served is =
    let over : InputEnds call (ends.Cut left) = (subst (StopsBy call) is served.stops).1 in sym over.2

-- a request is the last exactly where the link ends after it
pub last-ends : (item : Item) (before : ℕ) → is_last item (before + 1) ≡ is_some (end_after (asked_of item) before)
unfolding is_last
last-ends bad_head before = refl
last-ends head_too_long before = refl
last-ends (request r target) before = by_tests r.close r.has_body (before + 1 == MAX_REPLIES)
  where
    by_tests : (close body limit : Bool) → (close || body || limit)
        ≡ is_some (cond close (Some ends.Asked) (cond body (Some ends.BodyNotTaken)
        (cond limit (Some ends.RequestLimit) None)))
    by_tests true body limit = refl
    by_tests false true limit = refl
    by_tests false false true = refl
    by_tests false false false = refl

pub ruleset served = (
  looks-count,
  looks-most,
  few-replies,
  enough-left,
  short-due,
  over-closed,
  over-cut,
  last-ends,
)
