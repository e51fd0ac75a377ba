-- One event of a session.
use Rattle.std.proofs.Common.{sym, ap, subst, ◌∙◌}
use Rattle.fm_model.specs.declared.proto.Proto.{Proto}
use Rattle.dap_reply.proofs.MessageLemmas.{on_ok}
use Rattle.pub_core.specs.declared.event.Event.{Event}
use Rattle.pub_core.specs.declared.event.Event.TheVariants.{Bytes}
use Rattle.pub_core.specs.Happening.{after, is_possible_to}
use Rattle.pub_core.specs.Shown.{IsShown}
use Rattle.pub_core.proofs.EndSteps.{shown-same}
use Rattle.pub_core.proofs.connection.Connection.happen.Goals as goal

pub returns-in-Publish : goal.returns-in-Publish
unfolding is_possible_to
returns-in-Publish c = λ log s edition known shown.
    shown-same c.args.event.now shown
    (ap (λ (e : Event). is_possible_to c.args.edition.now.proto log e s) c.in-Publish.is)

pub returns-in-Look : goal.returns-in-Look
returns-in-Look c =
    on_ok c.look.result (λ leads. λ log s edition known shown.
    subst (λ (e : Event). IsShown c.args.edition.now.proto log c.look.new.self (after c.args.edition.now.proto log e s))
    (sym c.in-Look.is) (leads log s c.in-Look.field-0 edition known shown)) c.look.ensures

pub returns-in-Learn : goal.returns-in-Learn
returns-in-Learn c = λ log s edition known shown.
    subst (λ (e : Event). IsShown c.args.edition.now.proto log c.learn.new.self
    (after c.args.edition.now.proto log e s)) (sym c.in-Learn.is)
    (c.learn.ensures c.args.edition.now.proto log s c.in-Learn.field-0 known shown)

pub returns-in-Bytes : goal.returns-in-Bytes
returns-in-Bytes c =
    on_ok c.feed.result (λ leads. λ log s edition known shown.
    subst (λ (e : Event). IsShown c.args.edition.now.proto log c.feed.new.self (after c.args.edition.now.proto log e s))
    (ap (Bytes c.in-Bytes.field-0) c.as_slice.ensures ∙ sym c.in-Bytes.is)
    (leads c.args.edition.now.proto log s c.in-Bytes.field-0
    (sym (ap (λ (p : Proto). p.site) (c.get.ensures ∙ c.proto.ensures.proto))) shown)) c.feed.ensures

pub returns-in-Sent : goal.returns-in-Sent
returns-in-Sent c =
    on_ok c.send.result (λ leads. λ log s edition known shown.
    subst (λ (e : Event). IsShown c.args.edition.now.proto log c.send.new.self (after c.args.edition.now.proto log e s))
    (sym c.in-Sent.is)
    (leads c.args.edition.now.proto log s c.in-Sent.field-0
    (sym (ap (λ (p : Proto). p.site) (c.get.ensures ∙ c.proto.ensures.proto))) shown)) c.send.ensures

pub returns-in-End : goal.returns-in-End
returns-in-End c = λ log s edition known shown.
    subst (λ (e : Event). IsShown c.args.edition.now.proto log c.end.new.self (after c.args.edition.now.proto log e s))
    (sym c.in-End.is) (c.end.ensures c.args.edition.now.proto log s c.in-End.field-0 shown)

pub returns-in-Fault : goal.returns-in-Fault
returns-in-Fault c = λ log s edition known shown.
    subst (λ (e : Event). IsShown c.args.edition.now.proto log c.fail.new.self (after c.args.edition.now.proto log e s))
    (sym c.in-Fault.is) (c.fail.ensures c.args.edition.now.proto log s c.in-Fault.field-0 shown)
