-- A session that hasn't ended has replies left.
use Rattle.std.proofs.Common.{◌<◌, subst}
use Rattle.web_session.specs.State.{MAX_REPLIES}
use Rattle.web_session.specs.State.{State}
use Rattle.web_session.proofs.SoundLemmas.{goes_on_waiting, goes_on_asking, goes_on_sending}
use Rattle.web_session.proofs.session.Session.on.Goals as goal

pub on_input-requires-clause-goes_on : goal.on_input-requires-clause-goes_on
on_input-requires-clause-goes_on c =
    let at : State =
    record { phase = c.self.inside.phase; held = c.self.inside.frame; before = c.self.inside.before } in
    subst (λ (s : State). s.before < MAX_REPLIES) c.self.view_is (goes_on_waiting at c.self.invariant c.in-Waiting.is)

pub on_answer-requires-clause-goes_on : goal.on_answer-requires-clause-goes_on
on_answer-requires-clause-goes_on c =
    let at : State =
    record { phase = c.self.inside.phase; held = c.self.inside.frame; before = c.self.inside.before } in
    subst (λ (s : State). s.before < MAX_REPLIES) c.self.view_is
    (goes_on_asking at c.in-Asking.asked c.self.invariant c.in-Asking.is)

pub on_sent-requires-clause-goes_on : goal.on_sent-requires-clause-goes_on
on_sent-requires-clause-goes_on c =
    let at : State =
    record { phase = c.self.inside.phase; held = c.self.inside.frame; before = c.self.inside.before } in
    subst (λ (s : State). s.before < MAX_REPLIES) c.self.view_is
    (goes_on_sending at c.in-Sending.asked c.in-Sending.from c.in-Sending.len c.self.invariant c.in-Sending.is)
