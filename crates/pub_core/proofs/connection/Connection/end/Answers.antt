-- Its input ends.
use Rattle.pub_core.proofs.ConnectionLemmas.{end-none, end-reads}
use Rattle.pub_core.proofs.connection.Connection.end.Goals as goal

pub returns-in-Read : goal.returns-in-Read
returns-in-Read c = λ proto log s number shown.
    end-reads proto log c.args.self.now s number c.in-Read.field-0 c.on.new.self c.on-in-Read.new.self c.on.result
    (record { machine_is = c.on.ensures.state; action_is = c.on.ensures.action }) c.in-Read.is
    c.on-in-Read.ensures.state shown

pub returns-in_default : goal.returns-in_default
returns-in_default c = λ proto log s number shown.
    end-none proto log c.args.self.now s number c.on.new.self c.on.result
    (record { machine_is = c.on.ensures.state; action_is = c.on.ensures.action }) c.in_default.not-Read shown
