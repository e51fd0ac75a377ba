-- A reply is begun over the whole log.
use Rattle.std.proofs.Common.{sym, ap, ◌∙◌}
use Rattle.fm_model.specs.declared.proto.Proto.{Proto}
use Rattle.fm_edition.specs.Held.{Held}
use Rattle.dap_reply.specs.Planned.{answer_over}
use Rattle.dap_reply.specs.Reply.{reply_text}
use Rattle.pub_core.proofs.ConnectionLemmas.{look-none}
use Rattle.pub_core.proofs.OrderLemmas.{look-refused, look-wanted}
use Rattle.pub_core.proofs.connection.Connection.look.Goals as goal

pub returns-in_default : goal.returns-in_default
returns-in_default c = λ log s number edition known shown.
    look-none c.args.edition.now.proto log c.args.self.now s number c.on.new.self c.on.result
    (record { machine_is = c.on.ensures.state; action_is = c.on.ensures.action }) c.in_default.not-Ask shown

pub returns-in_ok-plan : goal.returns-in_ok-plan
returns-in_ok-plan c = λ log s number edition known shown.
    look-wanted c.args.edition.now.proto log c.args.self.now c.begin.new.self s number c.on.new.self c.on.result
    c.in-Ask.asked c.in-Wanted.dap c.in_ok-plan.plan c.args.revision
    (record {
      started = record { machine_is = c.on.ensures.state; action_is = c.on.ensures.action };
      action_is = c.in-Ask.is;
      site = c.get.result.now.site;
      site_is = sym (ap (λ (p : Proto). p.site) (c.get.ensures ∙ c.proto.ensures.proto));
      order_is = sym c.in-Wanted.is ∙ c.in_ok-dap.ensures;
    })
    (c.in_ok-plan.ensures.bytes ∙ ap (λ (h : Held). reply_text (answer_over h c.in-Wanted.dap) c.args.revision
    c.in-Wanted.dap.head c.in-Wanted.dap.last) edition)
    (record {
      machine_is = c.begin.ensures.session;
      plan_is = c.begin.ensures.plan;
      output_is = c.begin.ensures.output;
    })
    c.begin.ensures.seen known shown

pub returns-in_default-2 : goal.returns-in_default-2
returns-in_default-2 c = λ log s number edition known shown.
    look-refused c.args.edition.now.proto log c.args.self.now s number c.on.new.self c.on.result c.in-Ask.asked
    c.in_ok-dap.field-0
    (record {
      started = record { machine_is = c.on.ensures.state; action_is = c.on.ensures.action };
      action_is = c.in-Ask.is;
      site = c.get.result.now.site;
      site_is = sym (ap (λ (p : Proto). p.site) (c.get.ensures ∙ c.proto.ensures.proto));
      order_is = c.in_ok-dap.ensures;
    })
    c.in_default-2.not-Wanted shown
