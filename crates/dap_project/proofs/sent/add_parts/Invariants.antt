-- The parts so far are sent, and those from the number on are left.
use Rattle.std.proofs.Common.{◌≡◌, ◌++◌, drop}
use Rattle.dap_project.specs.Full.{full_slots}
use Rattle.dap_project.specs.Noted.{sent_slots}
use Rattle.dap_project.proofs.sent.add_parts.Given as goal

abbrev pub invariant-loop-at : goal.invariant-loop-at
invariant-loop-at l =
    l.sent ++ sent_slots l.index l.at (drop l.at (full_slots l.decl l.slots))
    ≡ l.fn.sent ++ sent_slots l.index 0 (full_slots l.decl l.slots)
