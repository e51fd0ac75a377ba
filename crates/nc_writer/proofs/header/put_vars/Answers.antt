-- Each turn writes one variable.
use Rattle.std.proofs.Common.{arith}
use Rattle.nc_writer.proofs.HeaderLemmas.{vars-done, vars-first, vars-next}
use Rattle.nc_writer.proofs.LenLemmas.{each-at}
use Rattle.nc_writer.specs.Facts.{IsVariableOf}
use Rattle.nc_writer.proofs.header.put_vars.Goals as goal

pub loop-variable-init : goal.loop-variable-init
loop-variable-init c =
    vars-first c.args.source.now c.args.version c.args.dims.now c.args.variables.now c.args.begin c.args.out.now
    c.requires.begin

pub put_var-requires : goal.put_var-requires
put_var-requires c =
    each-at (IsVariableOf c.args.source.now) c.args.variables.now c.loop-variable.variable-index c.variable-item.result
    c.requires.each c.loop-variable-test.true c.variable-item.is

pub data_len-at-requires : goal.data_len-at-requires
data_len-at-requires c =
    each-at (IsVariableOf c.args.source.now) c.args.variables.now c.loop-variable.variable-index c.variable-item.result
    c.requires.each c.loop-variable-test.true c.variable-item.is

pub overflow_add-at : goal.overflow_add-at
overflow_add-at c =
    omega (
      arith,
      c.loop-variable.invariant.few,
      c.loop-variable.invariant.within,
      c.requires.few,
      c.data_len-at.ensures.small,
    )

pub loop-variable-preserved : goal.loop-variable-preserved
loop-variable-preserved c =
    vars-next c.args.source.now c.args.version c.args.dims.now c.args.variables.now c.args.begin
    c.loop-variable.variable-index c.loop-variable.at c.data_len-at.result c.variable-item.result c.args.out.now
    c.loop-variable.out c.put_var.new.out c.loop-variable.invariant c.loop-variable-test.true c.variable-item.is
    c.data_len-at.ensures.exact c.data_len-at.ensures.small c.in_ok-put_var.ensures

pub returns : goal.returns
returns c =
    vars-done c.args.source.now c.args.version c.args.dims.now c.args.variables.now c.args.begin
    c.loop-variable.variable-index c.loop-variable.at c.args.out.now c.loop-variable.out c.loop-variable.invariant
    c.loop-variable-test.false
