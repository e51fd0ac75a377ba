-- The bytes so far are cleared.
use Rattle.std.proofs.Common.{◌≡◌, ◌++◌, drop, length, replicate}
use Rattle.nc_writer.proofs.zeros.clear.Given as goal

abbrev pub invariant-loop-at : goal.invariant-loop-at
invariant-loop-at l = (length l.out ≡ length l.fn.out) × (l.out ≡ replicate l.at 0 ++ drop l.at l.fn.out)
