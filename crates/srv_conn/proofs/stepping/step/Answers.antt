-- Each action leaves the link out, or ends it.
use Rattle.std.proofs.Common.{refl, None}
use Rattle.srv_action.specs.declared.acting.Acted.TheVariants as acts
use Rattle.srv_conn.proofs.OutLemmas.{out-ends, out-goes}
use Rattle.srv_conn.proofs.StandLemmas.{asks-phase, asks-still, ready-after}
use Rattle.srv_conn.proofs.stepping.step.Goals as goal
use Rattle.srv_conn.proofs.OutSteps.{went-then}

pub returns-in-Moved-clause-went : goal.returns-in-Moved-clause-went
returns-in-Moved-clause-went g c = λ start own out.
    out-goes _ own c.args.connection.now _ acts.Moved out c.in-Moved.ensures.acts tt refl

pub returns-in-Finished-clause-went : goal.returns-in-Finished-clause-went
returns-in-Finished-clause-went g c = λ start own out.
    out-goes _ own c.args.connection.now _ acts.Finished out c.in-Finished.ensures.acts tt refl

pub returns-in-Sent-clause-went : goal.returns-in-Sent-clause-went
returns-in-Sent-clause-went g c = λ start own out.
    out-goes _ own c.args.connection.now _ _ out c.in-Sent.ensures.acts tt refl

pub returns-in-Later-clause-went : goal.returns-in-Later-clause-went
returns-in-Later-clause-went g c = λ start own out.
    out-goes _ own c.args.connection.now _ acts.Later out c.in-Later.ensures.acts tt refl

pub returns-in-Ended-clause-went : goal.returns-in-Ended-clause-went
returns-in-Ended-clause-went g c = λ start own out.
    out-ends _ own c.args.connection.now _ c.in-Ended.end out c.in-Ended.ensures.acts

pub returns-in-Asks-clause-went : goal.returns-in-Asks-clause-went
returns-in-Asks-clause-went g c = λ start own out.
    went-then _ _ _ own _ _ None
    (out-goes _ own c.args.connection.now _ (acts.Asks c.in-Asks.asked) out c.in-Asks.ensures.acts tt refl)
    (c.answer_asked.ensures.went start)

pub answer_asked-requires-clause-reading : goal.answer_asked-requires-clause-reading
answer_asked-requires-clause-reading g c = asks-still c.args.connection.now.doing _ _ c.in-Asks.asked
    c.in-Asks.ensures.acts

pub answer_asked-requires-clause-asking : goal.answer_asked-requires-clause-asking
answer_asked-requires-clause-asking g c = asks-phase c.args.connection.now.doing _ _ c.in-Asks.asked
    c.in-Asks.ensures.acts

pub returns-in-Moved-clause-ready : goal.returns-in-Moved-clause-ready
returns-in-Moved-clause-ready g c =
    ready-after c.args.connection.now.doing _ _ acts.Moved c.requires.ready c.in-Moved.ensures.acts tt

pub returns-in-Finished-clause-ready : goal.returns-in-Finished-clause-ready
returns-in-Finished-clause-ready g c =
    ready-after c.args.connection.now.doing _ _ acts.Finished c.requires.ready c.in-Finished.ensures.acts tt

pub returns-in-Sent-clause-ready : goal.returns-in-Sent-clause-ready
returns-in-Sent-clause-ready g c =
    ready-after c.args.connection.now.doing _ _ _ c.requires.ready c.in-Sent.ensures.acts tt

pub returns-in-Later-clause-ready : goal.returns-in-Later-clause-ready
returns-in-Later-clause-ready g c =
    ready-after c.args.connection.now.doing _ _ acts.Later c.requires.ready c.in-Later.ensures.acts tt
