-- What was sent counts from the first byte of the reply.
use Rattle.std.proofs.Common.{◌+◌, arith, sym, ap, ◌∙◌}
use Rattle.web_session.specs.declared.event.Event.{Event}
use Rattle.web_session.specs.declared.event.Event.TheVariants.{Sent}
use Rattle.web_session.specs.declared.phase.Phase.{Phase}
use Rattle.web_session.specs.Event.{after_in, after_event}
use Rattle.web_session.proofs.SoundLemmas.{sent_capped}
use Rattle.web_session.proofs.session.Session.on_sent.Goals as goal

pub returns-in-Sent : goal.returns-in-Sent
unfolding after_event
returns-in-Sent c =
    c.sent_to.ensures
    ∙ sent_capped c.args.self.now c.args.asked c.saturating_add.result
    (c.args.from + c.in-Sent.count) c.args.len c.saturating_add.ensures (omega arith)
    ∙ sym (ap (λ (p : Phase). after_in p c.args.self.now (Sent c.in-Sent.count)) c.requires.sending)
    ∙ sym (ap (λ (e : Event). after_event c.args.self.now e) c.in-Sent.is)
