-- A session after a reply that was sent, or cut.
use Rattle.std.proofs.Common.{arith}
use Rattle.srv_action.proofs.EventLemmas.{tells-cut, tells-whole}
use Rattle.srv_action.proofs.delivery.tell.Goals as goal
use Rattle.srv_action.proofs.delivery.tell.Goals.{then-sent-len, else-sent-len}

pub returns-clause-whole : goal.returns-clause-whole
returns-clause-whole c = λ asked phase whole.
    elim c.if-sent-len.branch [
      | then-sent-len w ↦ absurd (omega (arith, w.if-sent-len.true, whole))
      | else-sent-len w ↦ rw (w.session-is, c.end_said.ensures, w.action-is)
          (tells-whole c.args.session.now c.on.new.self w.on-action-else-sent-len.new.self asked c.args.len
          w.on-action-else-sent-len.result phase c.on.ensures.state w.on-action-else-sent-len.ensures.state
          w.on-action-else-sent-len.ensures.action)
    ]

pub returns-clause-cut : goal.returns-clause-cut
returns-clause-cut c = λ asked phase cut.
    elim c.if-sent-len.branch [
      | then-sent-len w ↦ rw (w.session-is, c.end_said.ensures, w.action-is)
          (tells-cut c.args.session.now c.on.new.self w.on-action.new.self asked c.args.len w.on-action.result phase
          (omega (arith, cut)) c.on.ensures.state w.on-action.ensures.state w.on-action.ensures.action)
      | else-sent-len w ↦ absurd (omega (arith, w.if-sent-len.false, cut))
    ]
