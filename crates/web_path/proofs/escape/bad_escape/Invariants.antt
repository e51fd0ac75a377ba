-- The first bad escape is that of the bytes that are left.
use Rattle.std.proofs.Common.{◌≡◌, ◌+◌, length, option_map}
use Rattle.web_path.specs.Escape.{bad_escape}
use Rattle.web_path.proofs.escape.bad_escape.Given as goal

abbrev pub invariant-loop-left : goal.invariant-loop-left
invariant-loop-left l = (option_map (λ i. l.at + i) (bad_escape l.left) ≡ bad_escape l.bytes)
    × (l.at + length l.left ≡ length l.bytes)

abbrev pub decreases-loop-left : goal.decreases-loop-left
decreases-loop-left l = length l.left
