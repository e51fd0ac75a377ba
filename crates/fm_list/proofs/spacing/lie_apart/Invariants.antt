-- The times so far lie apart, and the next has to stand one step behind them.
use Rattle.std.proofs.Common.{◌≡◌, ℕ, ◌*◌, ◌<◌, Some, pos, ◌+ℤ◌}
use Rattle.std.specs.Prelude.{slice_get}
use Rattle.fm_list.proofs.spacing.lie_apart.Given as goal

abbrev pub invariant-loop-time : goal.invariant-loop-time
invariant-loop-time l = record {
  next : l.next ≡ l.first +ℤ pos (l.time-index * l.step);
  apart : (index : ℕ) → index < l.time-index → slice_get l.times index ≡ Some (l.first +ℤ pos (index * l.step));
}
