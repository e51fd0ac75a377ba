-- The numbers so far stand over the front.
use Rattle.std.proofs.Common.{◌≡◌, ◌*◌, ◌++◌, take, drop}
use Rattle.dap_number.specs.Front.{widened_bytes}
use Rattle.dap_xdr.proofs.widen.widen.Given as goal

abbrev pub invariant-loop-number : goal.invariant-loop-number
invariant-loop-number l =
    l.out ≡ widened_bytes (take (2 * l.number) l.stored) ++ drop (4 * l.number) l.fn.out
