-- The first `len` bytes are common.
use Rattle.std.proofs.Common.{◌≡◌, ◌+◌, ◌-◌, ◌≤◌, drop, length}
use Rattle.std.specs.Prelude.{nat_eq}
use Rattle.std.specs.List.{common_prefix_len}
use Rattle.fm_grid.proofs.grid.common_len.Given as goal

abbrev pub invariant-loop-len : goal.invariant-loop-len
invariant-loop-len l =
    (l.len ≤ length l.bytes) × (l.len ≤ length l.others)
    × (common_prefix_len nat_eq l.bytes l.others
    ≡ l.len + common_prefix_len nat_eq (drop l.len l.bytes) (drop l.len l.others))

abbrev pub decreases-loop-len : goal.decreases-loop-len
decreases-loop-len l = length l.bytes - l.len
