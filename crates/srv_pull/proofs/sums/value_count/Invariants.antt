-- The values of the columns before the index were counted.
use Rattle.srv_pull.proofs.SumsLemmas.{Counts}
use Rattle.srv_pull.proofs.sums.value_count.Given as goal

abbrev pub invariant-loop-column : goal.invariant-loop-column
invariant-loop-column l = Counts l.message.columns l.column-index l.count
