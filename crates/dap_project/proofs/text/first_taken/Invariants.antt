-- No slot so far is taken.
use Rattle.std.proofs.Common.{◌≡◌, length, ◌-◌}
use Rattle.dap_project.specs.Taken.{cut_from}
use Rattle.dap_project.proofs.text.first_taken.Given as goal

abbrev pub invariant-loop-part : goal.invariant-loop-part
invariant-loop-part l = cut_from l.decl l.slots l.part ≡ cut_from l.decl l.slots 0

abbrev pub decreases-loop-part : goal.decreases-loop-part
decreases-loop-part l = length l.slots - l.part
