-- A served link is a run: its events lead to a session that was sent what was written to the link.
use Rattle.std.proofs.Common.{◌≡◌, ◌≤◌, ◌<◌, inl, inr, ℕ, ◌+◌, max, List, [], ◌∷◌, ◌++◌, length, map, take, drop, refl, sym, ap, ap₂, subst, ◌∙◌, arith, length-append, length-take}
use Rattle.std.proofs.lemmas.Bool.{le-leb}
use Rattle.std.proofs.lemmas.List.{take-append-drop}
use Rattle.std.proofs.lemmas.List.Elements.{All-nil}
use Rattle.fm_model.specs.declared.op.Op.{Op}
use Rattle.fm_model.specs.declared.proto.Proto.{Proto}
use Rattle.web_frame.specs.Items.{heads_of, Item}
use Rattle.web_frame.proofs.ItemLemmas.{ReadsTo-start}
use Rattle.web_session.specs.State.{fresh, State}
use Rattle.dap_reply.specs.declared.served.Mark.{Mark}
use Rattle.dap_reply.specs.Script.{script_of}
use Rattle.dap_reply.specs.Served.{input_of, items_of, marked_reply, number_at, sent_by, IsWholeOrCut, LinkCall, Served}
use Rattle.pub_core.specs.declared.event.Event.TheVariants.{Learn, Publish}
use Rattle.pub_core.specs.World.{script_in, start, untouched, SessionState, World}
use Rattle.pub_core.specs.Happening.{after, begun, effect_of, is_possible_to, run}
use Rattle.pub_core.specs.Running.{events_of, first_output, opening, replies, world_of, AreTakenInTurn}
use Rattle.pub_core.specs.Standing.{Rests}
use Rattle.pub_core.proofs.LinkLaw.{here, leads, AreMarked, Ready}
use Rattle.pub_core.proofs.OneSession.{happens-learn, one, publishes, run-append, run-one}
use Rattle.pub_core.proofs.Steps.{after-yes, settled-rest}

-- a session that knows of `n` operations, and to which nothing else happened
knowing : ℕ → SessionState
knowing n = record untouched { seen = n }

rests-knowing : (proto : Proto) (log : List Op) (n : ℕ) → Rests proto log (knowing n) []
unfolding script_in script_of knowing
rests-knowing proto log n = record {
  done = [];
  reads = ReadsTo-start [];
  count = refl;
  all_sent = refl;
  goes_on = refl;
  stays = refl;
}

learns : (proto : Proto) (log : List Op) (n : ℕ) → n ≤ length log
    → after proto log (Learn 0 n) untouched ≡ begun proto log (knowing n)
unfolding is_possible_to effect_of knowing
learns proto log n known =
    let same : max 0 n ≡ n = omega arith in
    after-yes proto log (Learn 0 n) untouched (le-leb n (length log) known)
    ∙ settled-rest (rests-knowing proto log (max 0 n))
    ∙ ap (λ (k : ℕ). begun proto log (knowing k)) same

start-one : start 1 ≡ one [] untouched
unfolding start
start-one = refl

opened : (proto : Proto) (ops : List Op) (n : ℕ) → n ≤ length ops → AreTakenInTurn ops
    → run proto (start 1) (map Publish (take n ops) ++ Learn 0 n ∷ []) ≡ here proto ops n (knowing n)
opened proto ops n known taken =
    run-append proto (start 1) (map Publish (take n ops)) (Learn 0 n ∷ [])
    ∙ ap (λ (w : World). run proto w (Learn 0 n ∷ []))
    (ap (λ (w : World). run proto w (map Publish (take n ops))) start-one
    ∙ publishes proto untouched (take n ops) [] (drop n ops) ops (sym (take-append-drop n ops)) taken)
    ∙ run-one proto (one (take n ops) untouched) (Learn 0 n)
    ∙ happens-learn proto (take n ops) untouched n
    ∙ ap (one (take n ops)) (learns proto (take n ops) n (omega (arith, length-take n ops)))

-- ---- what is known of a served link

cut-within : (call : LinkCall) (index : ℕ) (mark : Mark) (item : Item) → IsWholeOrCut call index mark item
    → mark.sent ≤ length (marked_reply call.proto call.seen_after mark item (number_at call index))
cut-within call index mark item (inl whole) = omega (arith, whole)
cut-within call index mark item (inr (stop, last, within)) = within

cut-whole : (call : LinkCall) (index : ℕ) (mark : Mark) (item : Item) → IsWholeOrCut call index mark item
    → index + 1 < length call.trail
    → mark.sent ≡ length (marked_reply call.proto call.seen_after mark item (number_at call index))
cut-whole call index mark item (inl whole) below = whole
cut-whole call index mark item (inr (stop, last, within)) below = absurd (omega (arith, last, below))

marked : (call : LinkCall) → Served call
    → AreMarked call.proto call.seen_after call.trail (items_of call) call.session.before
marked call served = record {
  within = λ index mark item mark_is item_is.
      cut-within call index mark item (served.writes.whole index mark item mark_is item_is);
  whole = λ index mark item below mark_is item_is.
      cut-whole call index mark item (served.writes.whole index mark item mark_is item_is) below;
  goes_on = λ index item below item_is. served.answers.goes_on index item below item_is;
}

known : (call : LinkCall) → Served call → length call.seen ≤ length call.seen_after
known call served =
    let grows = served.sees.grows in
    omega (arith, ap length grows.1, length-append call.seen grows.0)

ready : (call : LinkCall) → Served call → call.session.before ≡ 0 → (input : List ℕ) → input_of call ≡ input
    → Ready call.proto call.seen_after (length call.seen) (knowing (length call.seen)) [] input call.trail
    (items_of call)
unfolding knowing
ready call served first input is = record {
  rests = rests-knowing call.proto (take (length call.seen) call.seen_after) (length call.seen);
  seen_is = refl;
  within = All-nil (λ (revision : ℕ). revision ≤ length call.seen);
  items_are = ap (λ (l : List ℕ). (heads_of l).items) (sym is);
  few = served.answers.read;
  rises = served.sees.rises;
  repeats = served.looks.repeats;
  marked = subst (AreMarked call.proto call.seen_after call.trail (items_of call)) first (marked call served);
}

no-script : (proto : Proto) (log : List Op) (n : ℕ) → script_in proto log (knowing n) ≡ []
unfolding script_in script_of knowing
no-script proto log n = refl

no-revs : (n : ℕ) → length (knowing n).revs ≡ 0
unfolding knowing
no-revs n = refl

pub served-leads : (call : LinkCall) (served : Served call) → call.session ≡ fresh → AreTakenInTurn call.seen_after
    → call.written ≡ first_output call.proto (world_of call) ++ served.writes.farewell
unfolding world_of events_of opening
served-leads call served is taken =
    let proto : Proto = call.proto in
    let ops : List Op = call.seen_after in
    let n : ℕ = length call.seen in
    let first : call.session.before ≡ 0 = ap (λ (x : State). x.before) is in
    let world : run proto (start 1) (opening call) ≡ here proto ops n (knowing n) =
    opened proto ops n (known call served) taken in
    let input : List ℕ = input_of call in
    let led : first_output proto (run proto (here proto ops n (knowing n))
    (replies proto ops (here proto ops n (knowing n)) n input call.trail (items_of call)))
    ≡ sent_by proto ops call.trail (items_of call) call.session.before =
    leads proto ops call.trail (items_of call) taken n (knowing n) [] input (ready call served first input refl)
    ∙ ap₂ (λ (l : List ℕ) (k : ℕ). l ++ sent_by proto ops call.trail (items_of call) k)
    (no-script proto (take n ops) n) (no-revs n ∙ sym first) in
    served.writes.written_is
    ∙ ap (λ (l : List ℕ). l ++ served.writes.farewell) (sym (
    ap (first_output proto)
    (run-append proto (start 1) (opening call)
    (replies proto ops (run proto (start 1) (opening call)) n input call.trail (items_of call))
    ∙ ap (λ (w : World). run proto w (replies proto ops w n input call.trail (items_of call))) world)
    ∙ led))

pub ruleset running = (served-leads)
