use Rattle.std.proofs.Common.{◌≡◌}
use Rattle.pub_snap.proofs.blank.seat_all.Given as goal

abbrev pub invariant-loop-i : goal.invariant-loop-i
invariant-loop-i g l = l.passes ≡ l.fn.passes
