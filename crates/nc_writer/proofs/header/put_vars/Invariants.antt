-- The variables so far are written.
use Rattle.nc_writer.proofs.HeaderLemmas.{VarsSoFar}
use Rattle.nc_writer.proofs.header.put_vars.Given as goal

abbrev pub invariant-loop-variable : goal.invariant-loop-variable
invariant-loop-variable l =
    VarsSoFar l.source l.version l.dims l.variables l.begin l.variable-index l.at l.fn.out l.out
