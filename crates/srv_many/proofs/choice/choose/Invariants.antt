-- The first of all is the first of those that are left.
use Rattle.std.proofs.Common.{◌≡◌, ◌+◌, length}
use Rattle.srv_many.specs.Choice.{chosen_from}
use Rattle.srv_many.proofs.choice.choose.Given as goal

abbrev pub invariant-loop-left : goal.invariant-loop-left
invariant-loop-left l = (chosen_from l.protos l.target 0 ≡ chosen_from l.left l.target l.number)
    × (l.number + length l.left ≡ length l.protos)

abbrev pub decreases-loop-left : goal.decreases-loop-left
decreases-loop-left l = length l.left
