-- The parts of the declarations so far are sent, and those from the index on are left.
use Rattle.std.proofs.Common.{◌≡◌, ◌++◌, drop}
use Rattle.dap_project.specs.Full.{full_notes}
use Rattle.dap_project.specs.Noted.{noted_sent}
use Rattle.dap_project.proofs.sent.parts_sent.Given as goal

abbrev pub invariant-loop-at : goal.invariant-loop-at
invariant-loop-at l =
    l.sent ++ noted_sent l.at (drop l.at (full_notes l.decls l.notes)) ≡ noted_sent 0 (full_notes l.decls l.notes)
