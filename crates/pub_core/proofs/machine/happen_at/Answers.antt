-- An event of the session of a number.
use Rattle.std.proofs.Common.{subst}
use Rattle.dap_reply.proofs.MessageLemmas.{on_ok}
use Rattle.pub_core.specs.declared.connection.Connection.{Connection}
use Rattle.pub_core.specs.Shown.{IsShown}
use Rattle.pub_core.proofs.ManyShown.{shown-at, shown-past}
use Rattle.pub_core.proofs.machine.happen_at.Goals as goal

pub returns-then-number-connections : goal.returns-then-number-connections
returns-then-number-connections c = λ log sessions edition known shown.
    shown-past c.args.edition.now.proto log c.args.connections.now sessions c.args.number c.args.event.now shown
    c.if-number-connections.true

pub returns : goal.returns
returns c =
    on_ok c.happen.result (λ leads. λ log sessions edition known shown.
    shown-at c.args.edition.now.proto log c.args.connections.now sessions c.args.number c.args.event.now
    c.index-connections-number.result c.happen.new.self c.index-connections-number.is shown
    c.if-number-connections.false (λ s one. leads log s edition known
    (subst (λ (x : Connection). IsShown c.args.edition.now.proto log x s) c.index-connections-number.is one)))
    c.happen.ensures
