-- The first array of the name is that of the arrays that are left.
use Rattle.std.proofs.Common.{◌≡◌, ◌+◌, length}
use Rattle.std.specs.List.{position_or_len}
use Rattle.std.specs.Str.{bytes_eq}
use Rattle.dap_project.proofs.picked.first_named.Given as goal

abbrev pub invariant-loop-left : goal.invariant-loop-left
invariant-loop-left l =
    (l.at + position_or_len (λ part. bytes_eq part.name l.name) l.left
    ≡ position_or_len (λ part. bytes_eq part.name l.name) l.arrays)
    × (l.at + length l.left ≡ length l.arrays)

abbrev pub decreases-loop-left : goal.decreases-loop-left
decreases-loop-left l = length l.left
