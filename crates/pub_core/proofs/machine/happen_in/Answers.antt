-- The same, where the connections are a list.
use Rattle.std.proofs.Common.{◌≡◌, List, sym, subst, ◌∙◌, arith}
use Rattle.dap_reply.proofs.MessageLemmas.{on_ok}
use Rattle.pub_core.specs.declared.connection.Connection.{Connection}
use Rattle.pub_core.specs.Happening.{after_at}
use Rattle.pub_core.specs.Shown.{AreShown}
use Rattle.pub_core.proofs.PieceLemmas.{written-back}
use Rattle.pub_core.proofs.machine.happen_in.Goals as goal

pub returns : goal.returns
returns c =
    on_ok c.happen_at.result (λ leads. λ log sessions edition known shown.
    let same : c.as_mut_slice-all.result.now ≡ c.args.connections.now =
    c.as_mut_slice-all.ensures.value ∙ c.connections.view_is in
    subst (λ (l : List Connection). AreShown c.args.edition.now.proto log l
    (after_at c.args.edition.now.proto log sessions c.args.number c.args.event.now))
    (sym (written-back c.as_mut_slice-all.result.now c.happen_at.new.connections c.connections.inside.items.items
    c.connections.inside.items.len (omega (arith, c.as_mut_slice-all.ensures.len))
    (omega (arith, c.happen_at.auto.connections))))
    (leads log sessions edition known
    (subst (λ (l : List Connection). AreShown c.args.edition.now.proto log l sessions) (sym same) shown)))
    c.happen_at.ensures
