-- A session that asks, and gets no answer.
use Rattle.std.proofs.Common.{ap, ◌∙◌}
use Rattle.web_session.specs.State.{State}
use Rattle.srv_action.proofs.EventLemmas.{tell-short, tell-before}
use Rattle.srv_action.proofs.farewell.leave.Goals as goal

pub returns-clause-ended : goal.returns-clause-ended
returns-clause-ended c =
    ap (λ (s : State). s.phase) c.on.ensures.state ∙ tell-short c.args.session.now c.requires.0 c.requires.1

pub returns-clause-before : goal.returns-clause-before
returns-clause-before c =
    ap (λ (s : State). s.before) c.on.ensures.state ∙ tell-before c.args.session.now c.requires.0 c.requires.1
