-- The numbers before the index were added.
use Rattle.std.proofs.Common.{◌≡◌, ◌+◌, ◌%◌, ◌^◌, take}
use Rattle.std.specs.Prelude.{sum}
use Rattle.srv_pull.proofs.sums.added.Given as goal

abbrev pub invariant-loop-bits : goal.invariant-loop-bits
invariant-loop-bits l = l.total ≡ (l.start + sum (take l.bits-index l.numbers)) % 2 ^ 64
