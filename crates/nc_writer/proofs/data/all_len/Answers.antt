-- Each turn counts one variable.
use Rattle.std.proofs.Common.{refl, sym, ap, ◌∙◌, ◌+◌, arith}
use Rattle.nc_writer.proofs.LenLemmas.{each-at, sum-more}
use Rattle.nc_writer.specs.Facts.{IsVariableOf}
use Rattle.nc_writer.proofs.data.all_len.Goals as goal

pub loop-variable-init : goal.loop-variable-init
loop-variable-init c = (refl, omega arith, omega arith)

pub data_len-len-requires : goal.data_len-len-requires
data_len-len-requires c =
    each-at (IsVariableOf c.args.source.now) c.args.variables.now c.loop-variable.variable-index c.variable-item.result
    c.requires.each c.loop-variable-test.true c.variable-item.is

pub loop-variable-preserved : goal.loop-variable-preserved
loop-variable-preserved c = (
  ap (λ n. n + c.data_len-len.result) c.loop-variable.invariant.0
      ∙ sym (sum-more c.args.variables.now c.loop-variable.variable-index c.data_len-len.result
      c.variable-item.result c.loop-variable-test.true c.variable-item.is c.data_len-len.ensures.exact),
  omega (arith, c.loop-variable.invariant.1, c.data_len-len.ensures.small),
  omega (arith, c.loop-variable-test.true),
)
