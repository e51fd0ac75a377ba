-- The buckets have the indices so far.
use Rattle.dap_project.proofs.FilledLemmas.{AreFilled}
use Rattle.dap_project.proofs.index.fill.Given as goal

abbrev pub invariant-loop-at : goal.invariant-loop-at
invariant-loop-at l = AreFilled l.decls l.buckets l.at
