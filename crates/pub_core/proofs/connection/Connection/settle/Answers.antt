-- A refusal that is due is begun.
use Rattle.std.proofs.Common.{sym, ◌∙◌}
use Rattle.pub_core.proofs.ConnectionLemmas.{settle-none}
use Rattle.pub_core.proofs.OrderLemmas.{settle-refused, settle-wanted}
use Rattle.pub_core.proofs.connection.Connection.settle.Goals as goal

pub returns-in_default : goal.returns-in_default
returns-in_default c = λ proto log s site shows.
    settle-none proto log c.args.self.now s c.on.new.self c.on.result
    (record { machine_is = c.on.ensures.state; action_is = c.on.ensures.action }) c.in_default.not-Ask shows

pub returns-in_ok-plan : goal.returns-in_ok-plan
returns-in_ok-plan c = λ proto log s site shows.
    settle-refused proto log c.args.self.now c.begin.new.self s c.on.new.self c.on.result c.in-Ask.asked
    c.in-Refused.fault c.in-Refused.head c.in-Refused.last c.in_ok-plan.plan
    (record {
      started = record { machine_is = c.on.ensures.state; action_is = c.on.ensures.action };
      action_is = c.in-Ask.is;
      site = c.args.site.now;
      site_is = site;
      order_is = sym c.in-Refused.is ∙ c.in_ok-fault.ensures;
    })
    c.in_ok-plan.ensures.bytes
    (record {
      machine_is = c.begin.ensures.session;
      plan_is = c.begin.ensures.plan;
      output_is = c.begin.ensures.output;
    })
    c.begin.ensures.seen shows

pub returns-in_default-2 : goal.returns-in_default-2
returns-in_default-2 c = λ proto log s site shows.
    settle-wanted proto log c.args.self.now s c.on.new.self c.on.result c.in-Ask.asked c.in_ok-fault.field-0
    (record {
      started = record { machine_is = c.on.ensures.state; action_is = c.on.ensures.action };
      action_is = c.in-Ask.is;
      site = c.args.site.now;
      site_is = site;
      order_is = c.in_ok-fault.ensures;
    })
    c.in_default-2.not-Refused shows
