-- Each turn passes over one variable.
use Rattle.std.proofs.Common.{refl, arith}
use Rattle.nc_writer.proofs.LendingLemmas.{left-here, left-next}
use Rattle.nc_writer.proofs.LenLemmas.{data-least, each-at}
use Rattle.nc_writer.specs.File.{all_data}
use Rattle.nc_writer.specs.Facts.{IsVariableOf}
use Rattle.nc_writer.proofs.lending.lent_data.Goals as goal

pub loop-variable-init : goal.loop-variable-init
unfolding all_data
loop-variable-init c = refl

pub short_len-len-requires : goal.short_len-len-requires
short_len-len-requires c =
    let at = c.loop-variable.variable-index in
    let least = data-least c.args.source.now c.args.variables.now at c.variable-item.result c.loop-variable-test.true
    c.variable-item.is in
    record {
      variable = each-at (IsVariableOf c.args.source.now) c.args.variables.now at c.variable-item.result
          c.requires.each c.loop-variable-test.true c.variable-item.is;
      small = omega (arith, least, c.requires.small);
    }

pub lent_values-requires : goal.lent_values-requires
lent_values-requires c =
    each-at (IsVariableOf c.args.source.now) c.args.variables.now c.loop-variable.variable-index c.variable-item.result
    c.requires.each c.loop-variable-test.true c.variable-item.is

pub returns-then-left-len : goal.returns-then-left-len
returns-then-left-len c =
    left-here c.args.source.now c.args.variables.now c.args.from c.loop-variable.variable-index c.loop-variable.left
    c.short_len-len.result c.variable-item.result c.lent_values.result.now c.loop-variable-test.true
    c.variable-item.is c.short_len-len.ensures c.if-left-len.true c.loop-variable.invariant c.lent_values.ensures

pub loop-variable-preserved : goal.loop-variable-preserved
loop-variable-preserved c =
    left-next c.args.source.now c.args.variables.now c.args.from c.loop-variable.variable-index c.loop-variable.left
    c.short_len-len.result c.variable-item.result c.loop-variable-test.true c.variable-item.is
    c.short_len-len.ensures c.if-left-len.false c.loop-variable.invariant
