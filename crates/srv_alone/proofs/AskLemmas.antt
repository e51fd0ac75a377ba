-- The facts of a link that was served for a step.
use Rattle.std.proofs.Common.{◌≡◌, ◌≤◌, ◌<◌, ℕ, true, length, inl, inr, Result, Ok, Err, OnOk, IfErr, List, []}
use Rattle.fm_model.specs.declared.proto.Proto.{Proto}
use Rattle.dap_reply.specs.declared.served.Mark.{Mark}
use Rattle.dap_reply.specs.declared.served.Stop.{Stop}
use Rattle.dap_reply.specs.declared.served.Stop.TheVariants as stops
use Rattle.dap_reply.specs.Served.{IsAtRest, StopsBy}
use Rattle.srv_conn.specs.Serves.{Moment, Serves}
use Rattle.srv_alone.specs.declared.end.End.{End}
use Rattle.srv_alone.specs.declared.end.End.TheVariants.{InputEnded}
use Rattle.srv_alone.specs.Steps.{AnswersAsk, Connection, end_of_stop, EndsAsk, RestsUnlessEnded, seen_as}

-- a served session rests or has ended
pub rests-Serves : {proto : Proto} {before after : Moment} {most : ℕ} (stop : Stop)
    → Serves proto true before after most stop → RestsUnlessEnded after.session
unfolding StopsBy
rests-Serves stops.Enough serves = inl serves.served.stops.rests
rests-Serves (stops.Ended end) serves = inr (end, serves.served.stops.0)

-- at most as many replies were begun as were asked for
pub few-Serves : {proto : Proto} {before after : Moment} {most : ℕ} {stop : Stop}
    → Serves proto true before after most stop → length after.trail ≤ most
few-Serves serves = serves.served.answers.few

-- the step is done, or it isn't
pub AnswersAsk-Serves : {X : Type 0} (count : ℕ) (before after : Connection) (stop : Stop) (trail : List Mark)
    (result : Result X End) → IsAtRest before.session
    → Serves before.history.proto true (seen_as before []) (seen_as after trail) count stop
    → after.history.proto ≡ before.history.proto
    → OnOk result (length trail ≡ count) → OnOk result (end_of_stop stop ≡ InputEnded)
    → OnOk result (AnswersAsk count before after)
AnswersAsk-Serves count before after stop trail (Ok x) rests serves proto all calm = record {
  stop = stop;
  trail = trail;
  asks = record { rests = rests; serves = serves; proto_is = proto };
  all = all;
  calm = calm;
}
AnswersAsk-Serves count before after stop trail (Err e) rests serves proto all calm = tt

pub EndsAsk-Serves : {X : Type 0} (count : ℕ) (before after : Connection) (stop : Stop) (trail : List Mark)
    (result : Result X End) → IsAtRest before.session
    → Serves before.history.proto true (seen_as before []) (seen_as after trail) count stop
    → after.history.proto ≡ before.history.proto
    → IfErr result (λ end. end ≡ end_of_stop stop) → IfErr result (λ end. end ≡ InputEnded → length trail < count)
    → IfErr result (EndsAsk count before after)
EndsAsk-Serves count before after stop trail (Ok x) rests serves proto end short = tt
EndsAsk-Serves count before after stop trail (Err e) rests serves proto end short = inl (record {
  stop = stop;
  trail = trail;
  asks = record { rests = rests; serves = serves; proto_is = proto };
  end_is = end;
  short = short;
})

pub ruleset asks = (rests-Serves, few-Serves, AnswersAsk-Serves, EndsAsk-Serves)
