-- A bucket for each so far.
use Rattle.std.proofs.Common.{◌≡◌, [], replicate}
use Rattle.dap_project.proofs.index.empty_buckets.Given as goal

abbrev pub invariant-loop-bucket : goal.invariant-loop-bucket
invariant-loop-bucket l = l.buckets ≡ replicate l._bucket []
