-- What a connection shows after an event that ends its session, or that isn't possible.
use Rattle.std.proofs.Common.{◌≡◌, Bool, true, false, ◌&&◌, cond, List, length, refl, sym, ap, subst, ◌∙◌}
use Rattle.fm_model.specs.declared.op.Op.{Op}
use Rattle.fm_model.specs.declared.proto.Proto.{Proto}
use Rattle.web_session.specs.declared.action.End.{End as Ending}
use Rattle.web_session.specs.declared.phase.Phase.TheVariants.{Ended}
use Rattle.web_session.specs.State.{State}
use Rattle.pub_core.specs.declared.connection.Connection.{Connection}
use Rattle.pub_core.specs.declared.event.Event.{Event}
use Rattle.pub_core.specs.Happening.{after, begun, closed, effect_of, is_last_before, is_possible_to, settled}
use Rattle.pub_core.specs.Shown.{IsShown, Shows}
use Rattle.pub_core.specs.World.{items_fed, rests, SessionState}
use Rattle.pub_core.proofs.Steps.{after-no, after-yes, begun-no, due-ended}
use Rattle.pub_core.proofs.ShownLemmas.{with_machine}
use Rattle.pub_core.proofs.ShownSteps.{shows-ended}

pub cond-same : {A : Type 0} (b : Bool) (a : A) → cond b a a ≡ a
cond-same true a = refl
cond-same false a = refl

settled-ended : (proto : Proto) (log : List Op) (s : SessionState)
    → settled proto log (record s { ended = true }) ≡ record s { ended = true }
unfolding settled closed
settled-ended proto log s =
    let ended : SessionState = record s { ended = true } in
    ap (begun proto log)
    (cond-same (rests proto log ended && is_last_before (items_fed ended) (length ended.revs)) ended)
    ∙ begun-no proto log ended (due-ended proto log ended refl)

-- an event that ends a session, where it is possible
pub shown-ended : {proto : Proto} {log : List Op} {c : Connection} {s : SessionState} (event : Event) (end : Ending)
    (machine : State) → Shows proto log c s → is_possible_to proto log event s ≡ true
    → effect_of log event s ≡ record s { ended = true } → machine.phase ≡ Ended end
    → IsShown proto log (with_machine c machine) (after proto log event s)
shown-ended {proto} {log} {c} {s} event end machine shows possible effect phase =
    let ended : SessionState = record s { ended = true } in
    subst (IsShown proto log (with_machine c machine))
    (sym (after-yes proto log event s possible ∙ ap (settled proto log) effect ∙ settled-ended proto log s))
    (record {
      shows = shows-ended c s end machine shows.output_is shows.seen_is shows.seen_within shows.revs_within phase;
      due = due-ended proto log ended refl;
    })

-- an event that isn't possible
pub shown-same : {proto : Proto} {log : List Op} {c : Connection} {s : SessionState} (event : Event)
    → IsShown proto log c s → is_possible_to proto log event s ≡ false → IsShown proto log c (after proto log event s)
shown-same {proto} {log} {c} {s} event shown not_so =
    subst (IsShown proto log c) (sym (after-no proto log event s not_so)) shown
