-- The parts so far are cut, and those from the number on are left.
use Rattle.std.proofs.Common.{◌≡◌, ◌++◌, drop}
use Rattle.dap_model.specs.Picking.{parts_of}
use Rattle.dap_project.specs.Full.{full_slots}
use Rattle.dap_project.specs.Noted.{cut_slots}
use Rattle.dap_project.proofs.sent.cut_parts.Given as goal

abbrev pub invariant-loop-part : goal.invariant-loop-part
invariant-loop-part l =
    l.parts ++ cut_slots (drop l.part (parts_of l.decl)) (drop l.part (full_slots l.decl l.slots))
    ≡ cut_slots (parts_of l.decl) (full_slots l.decl l.slots)
