-- How many index lists the slabs from `at` on pick.
use Rattle.std.proofs.Common.{◌≡◌, ◌≤◌, drop, length}
use Rattle.dap_model.specs.Box.{box_len}
use Rattle.fm_twod.proofs.count.count_of.Given as goal

abbrev pub decreases-loop-at : goal.decreases-loop-at
decreases-loop-at l = l.at

abbrev pub invariant-loop-at : goal.invariant-loop-at
invariant-loop-at l = (l.at ≤ length l.slabs) × (l.count ≡ box_len (drop l.at l.slabs))
