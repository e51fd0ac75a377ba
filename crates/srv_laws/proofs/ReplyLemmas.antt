-- What a step that asks for replies writes to the link.
use Rattle.std.proofs.Common.{◌≡◌, ◌⊎◌, inl, inr, ◌≤◌, ℕ, ◌+◌, List, [], ◌++◌, length, take, drop, true, Some, refl, sym, ap, ap₂, subst, ◌∙◌, arith, length-append}
use Rattle.std.specs.Prelude.{replicate}
use Rattle.std.proofs.lemmas.List.{length-map, length-replicate, take-append-le, take-replicate}
use Rattle.std.proofs.lemmas.List.Elements.{All-replicate}
use Rattle.fm_model.specs.declared.op.Op.{Op}
use Rattle.fm_model.specs.declared.proto.Proto.{Proto}
use Rattle.dev_traits.specs.Link.{Wire}
use Rattle.pub_look.specs.History.{Continues}
use Rattle.web_frame.specs.Items.{heads_of, Item}
use Rattle.web_session.specs.declared.action.End.TheVariants as ends
use Rattle.dap_reply.specs.declared.served.Mark.{Mark}
use Rattle.dap_reply.specs.declared.served.Stop.{Stop}
use Rattle.dap_reply.specs.declared.served.Stop.TheVariants as stops
use Rattle.dap_reply.specs.Script.{script_of}
use Rattle.dap_reply.specs.Served.{HasEnough, items_of, LinkCall, Rises, StopsBy}
use Rattle.dap_reply.proofs.ScriptLemmas.{script-later}
use Rattle.dap_reply.proofs.ServedLemmas.{served-script}
use Rattle.dev_traits.specs.Moved.{moved}
use Rattle.srv_conn.specs.Serves.{Moment, Serves}
use Rattle.srv_alone.specs.declared.end.End.{End}
use Rattle.srv_alone.specs.declared.end.End.TheVariants.{Done}
use Rattle.srv_laws.specs.Output.{WritesScript}
use Rattle.srv_alone.specs.Steps.{AnswersAsk, Connection, end_of_stop, EndsAsk, HasEnded, seen_as}
use Rattle.srv_laws.proofs.AskedLemmas.{Finds, IsOpen, rests-goes_on}
use Rattle.srv_laws.proofs.CutLemmas.{level, revisions, sent-front}
use Rattle.srv_laws.proofs.OpenLemmas.{call_by, finds-Serves, left-after, open-next, open-next-wire, wire_after}
use Rattle.srv_laws.proofs.OutputLemmas.{next-items, script-front}
use Rattle.srv_alone.proofs.StepBlameLemmas.{calm_stop}

-- the items of an input that come after the first ones
abbrev pub items_from : List ℕ → ℕ → List Item
items_from input before = drop before (heads_of input).items

-- A step put this many replies on a link that held this, all of one revision, to the items after the first ones of an
-- input. The connection goes on after them, or has ended.
pub record Wrote (input : List ℕ) (before : ℕ) (proto : Proto) (n count : ℕ) (wire : Wire) (next : Connection)
    : Type 0 where
  pub after : Wire
  pub after_is : next.link.held ≡ Some after
  pub first : List ℕ
  pub put : after.put ≡ wire.put ++ first
  pub there : count ≤ length (items_from input before)
  pub script : (log : List Op) → Continues next.history.seen log
      → first ≡ script_of proto log (replicate count n) (items_from input before) before
  pub goes : ((o : IsOpen input (before + count) next.link next.session) × (o.wire ≡ after)) ⊎ HasEnded next.session

-- all replies of a call have the revision of the collection, which stood still
call-revisions : {proto : Proto} {start end : Moment} {most : ℕ} {stop : Stop} (n : ℕ)
    → Serves proto true start end most stop → n ≡ length start.seen
    → revisions end.trail ≡ replicate (length end.trail) n
call-revisions {proto} {start} {end} n serves is =
    let sees = serves.served.sees in
    level n end.trail (subst (λ (m : ℕ). Rises m end.trail n) (sym is)
    (subst (λ (m : ℕ). Rises (length start.seen) end.trail m) (ap length (sees.stays refl) ∙ sym is) sees.rises))

-- the script of a call is one of the items after the first ones of the input
call-script : {input : List ℕ} {before : ℕ} (proto : Proto) (call : LinkCall) (log : List Op) (marks : List ℕ)
    → Finds input before call → call.proto ≡ proto → length marks ≤ length (items_of call)
    → script_of call.proto log marks (items_of call) call.session.before
    ≡ script_of proto log marks (items_from input before) before
call-script {input} {before} proto call log marks finds is few =
    let next = next-items finds.reads in
    ap (λ (p : Proto). script_of p log marks (items_of call) call.session.before) is
    ∙ ap (λ (n : ℕ). script_of proto log marks (items_of call) n) finds.counted
    ∙ sym (script-front proto log marks (items_of call) next.0 before few)
    ∙ ap (λ (items : List Item). script_of proto log marks items before) (sym next.1)

-- a call that stops leaves a session that goes on, or one that has ended
call-goes : (call : LinkCall) (stop : Stop) → StopsBy call stop → HasEnough call ⊎ HasEnded call.session_after
unfolding StopsBy
call-goes call stops.Enough why = inl why
call-goes call (stops.Ended end) why = inr (end, why.0)

-- a step whose replies were written whole
pub ask-wrote : {input : List ℕ} {before : ℕ} (proto : Proto) (n count : ℕ) (at next : Connection)
    → at.history.proto ≡ proto → n ≡ length at.history.seen → (o : IsOpen input before at.link at.session)
    → AnswersAsk count at next → Wrote input before proto n count o.wire next
unfolding left-after
ask-wrote {input} {before} proto n count at next proto_is n_is o answers =
    let serves = answers.asks.serves in
    let call : LinkCall = call_by at.history.proto (seen_as at []) (seen_as next answers.trail) count answers.stop
    serves in
    let finds : Finds input before call = finds-Serves at.history.proto (seen_as at []) (seen_as next answers.trail)
    count answers.stop serves o in
    let calm = calm_stop answers.stop answers.calm in
    let seen : List Op = next.history.seen in
    let ones : List ℕ = replicate count n in
    let long : length ones ≡ count = length-replicate count n in
    let all : length answers.trail ≡ count = answers.all in
    let marks : revisions answers.trail ≡ ones =
    call-revisions n serves n_is ∙ ap (λ (m : ℕ). replicate m n) all in
    let read : length answers.trail ≤ length (items_of call) = serves.served.answers.read in
    let fits : length ones ≤ length (items_of call) = omega (arith, long, all, read) in
    let items = next-items finds.reads in
    let within : n ≤ length seen = omega (arith, n_is, ap length (serves.served.sees.stays refl)) in record {
      after = wire_after o.wire serves.moves;
      after_is = serves.moved_is ∙ ap (moved serves.moves.taken serves.moves.written) o.wire_is;
      first = serves.moves.written;
      put = refl;
      there = omega (arith, ap length items.1, length-append (items_of call) items.0, long, fits);
      script = λ log grows. served-script call serves.served calm.0 calm.1
          ∙ ap (λ (l : List ℕ). script_of at.history.proto seen l (items_of call) at.session.before) marks
          ∙ call-script proto call seen ones finds proto_is fits
          ∙ sym (script-later proto seen grows.0 ones (items_from input before) before
          (All-replicate (λ (m : ℕ). m ≤ length seen) count n within))
          ∙ ap (λ (l : List Op). script_of proto l ones (items_from input before) before) (sym grows.1);
      goes = elim (call-goes call answers.stop serves.served.stops) [
        | inl enough ↦ inl (
          open-next at.history.proto (seen_as at []) (seen_as next answers.trail) count
              answers.stop serves o enough,
          open-next-wire at.history.proto (seen_as at []) (seen_as next answers.trail) count
              answers.stop serves o enough,
        )
        | inr ended ↦ inr ended
      ];
    }

-- no stop of a link is the end of a run that did all
never-done : (stop : Stop) → end_of_stop stop ≡ Done → ⊥
never-done (stops.Ended ends.LinkFault) is = cc
never-done (stops.Ended ends.NoMemory) is = cc
never-done stop is = cc

-- a step whose replies weren't all written whole
pub ask-ended : {input : List ℕ} {before : ℕ} (proto : Proto) (n count : ℕ) (more : List ℕ) (at after : Connection)
    (end : End) → at.history.proto ≡ proto → n ≡ length at.history.seen
    → (o : IsOpen input before at.link at.session) → EndsAsk count at after end
    → WritesScript proto after.history.seen (replicate count n ++ more) (items_from input before) before end o.wire
    after.link
unfolding left-after
ask-ended proto n count more at after end proto_is n_is o (inr over) =
    absurd (rests-goes_on at.session o.rests over.ended)
ask-ended {input} {before} proto n count more at after end proto_is n_is o (inl short) =
    let serves = short.asks.serves in
    let writes = serves.served.writes in
    let answers = serves.served.answers in
    let call : LinkCall = call_by at.history.proto (seen_as at []) (seen_as after short.trail) count short.stop
    serves in
    let finds : Finds input before call = finds-Serves at.history.proto (seen_as at []) (seen_as after short.trail)
    count short.stop serves o in
    let seen : List Op = after.history.seen in
    let begun : ℕ = length short.trail in
    let ones : List ℕ = replicate count n in
    let long : length ones ≡ count = length-replicate count n in
    let few : begun ≤ count = answers.few in
    let read : begun ≤ length (items_of call) = answers.read in
    let taken : take begun (ones ++ more) ≡ replicate begun n =
    take-append-le begun ones more (omega (arith, long, few)) ∙ take-replicate begun count n few in
    let marks : revisions short.trail ≡ take begun (ones ++ more) = call-revisions n serves n_is ∙ sym taken in
    let each : length (revisions short.trail) ≡ begun = length-map short.trail (λ (mark : Mark). mark.revision) in
    let items = next-items finds.reads in
    let front = sent-front (short.stop ≡ stops.Ended ends.LinkFault) at.history.proto seen short.trail (items_of call)
    at.session.before writes.whole in record {
      after = wire_after o.wire serves.moves;
      after_is = serves.moved_is ∙ ap (moved serves.moves.taken serves.moves.written) o.wire_is;
      output = serves.moves.written;
      put = refl;
      script = record {
        count = begun;
        few = omega (arith, length-append ones more, long, few);
        read = omega (arith, ap length items.1, length-append (items_of call) items.0, read);
        all = λ done. absurd (never-done short.stop (sym short.end_is ∙ done));
        script = script_of at.history.proto seen (revisions short.trail) (items_of call) at.session.before;
        script_is = call-script proto call seen (revisions short.trail) finds proto_is (omega (arith, each, read))
            ∙ ap (λ (l : List ℕ). script_of proto seen l (items_from input before) before) marks;
        cut = front.cut;
        farewell = writes.farewell;
        output_is = writes.written_is ∙ ap (λ (l : List ℕ). l ++ writes.farewell) front.front;
        whole = λ sound. front.whole (λ failed. sound (short.end_is ∙ ap end_of_stop failed));
        only_short = λ ample. writes.only_short (λ ran_out. ample (short.end_is ∙ ap end_of_stop ran_out));
        front = writes.front;
      };
    }
