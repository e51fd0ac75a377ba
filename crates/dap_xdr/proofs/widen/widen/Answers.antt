-- Each turn writes one number more.
use Rattle.std.proofs.Common.{refl, ap, ◌∙◌, arith}
use Rattle.dap_model.specs.Xdr.{number_bytes}
use Rattle.dap_model.specs.declared.declaration.DapKind.TheVariants.{Int16}
use Rattle.dap_number.specs.Front.{widened_bytes}
use Rattle.dap_xdr.proofs.WidenLemmas.{widen-turn}
use Rattle.dap_xdr.proofs.widen.widen.Goals as goal

pub loop-number-init : goal.loop-number-init
unfolding widened_bytes
loop-number-init c = refl

pub loop-number-preserved : goal.loop-number-preserved
loop-number-preserved c =
    c.put_four.ensures
    ∙ widen-turn c.loop-number.number c.args.stored.now c.args.out.now c.loop-number.out c.widened.result
    (omega (arith, c.loop-number-test.true, c.min-count.ensures)) c.loop-number.invariant
    (c.widened.ensures ∙ ap (number_bytes Int16) c.from_be_bytes-bits.ensures)
