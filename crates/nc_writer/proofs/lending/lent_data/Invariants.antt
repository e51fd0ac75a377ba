-- What is left behind the variables so far is what is left of all.
use Rattle.nc_writer.proofs.LendingLemmas.{IsLeft}
use Rattle.nc_writer.proofs.lending.lent_data.Given as goal

abbrev pub invariant-loop-variable : goal.invariant-loop-variable
invariant-loop-variable l = IsLeft l.source l.variables l.from l.variable-index l.left
