-- Its link fails.
use Rattle.pub_core.proofs.ConnectionLemmas.{fail-none, fail-reads, fail-sends}
use Rattle.pub_core.proofs.connection.Connection.fail.Goals as goal

pub returns-in-Read : goal.returns-in-Read
returns-in-Read c = λ proto log s number shown.
    fail-reads proto log c.args.self.now s number c.in-Read.field-0 c.on.new.self c.on-in-Read.new.self c.on.result
    (record { machine_is = c.on.ensures.state; action_is = c.on.ensures.action }) c.in-Read.is
    c.on-in-Read.ensures.state shown

pub returns-in-Send : goal.returns-in-Send
returns-in-Send c = λ proto log s number shown.
    fail-sends proto log c.args.self.now s number c.in-Send.from c.on.new.self c.on-in-Send.new.self c.on.result
    (record { machine_is = c.on.ensures.state; action_is = c.on.ensures.action }) c.in-Send.is
    c.on-in-Send.ensures.state shown

pub returns-in_default : goal.returns-in_default
returns-in_default c = λ proto log s number shown.
    fail-none proto log c.args.self.now s number c.on.new.self c.on.result
    (record { machine_is = c.on.ensures.state; action_is = c.on.ensures.action }) c.in_default.not-Read
    c.in_default.not-Send shown
