-- The numbers of the columns before the index were added.
use Rattle.srv_pull.proofs.SumsLemmas.{Adds}
use Rattle.srv_pull.proofs.sums.bits_sum.Given as goal

abbrev pub invariant-loop-column : goal.invariant-loop-column
invariant-loop-column l = Adds l.message.columns l.column-index l.total
