-- The first of these bytes is that of the bytes that are left.
use Rattle.std.proofs.Common.{◌≡◌, ◌+◌, ◌==◌, length}
use Rattle.std.specs.List.{position_or_len}
use Rattle.web_path.proofs.scan.first_of.Given as goal

abbrev pub invariant-loop-left : goal.invariant-loop-left
invariant-loop-left l = (l.at + position_or_len (λ b. b == l.byte) l.left ≡ position_or_len (λ b. b == l.byte) l.text)
    × (l.at + length l.left ≡ length l.text)

abbrev pub decreases-loop-left : goal.decreases-loop-left
decreases-loop-left l = length l.left
