-- The declarations so far are sent, and those from the index on are left.
use Rattle.std.proofs.Common.{◌≡◌, ◌++◌, drop}
use Rattle.dap_project.specs.Full.{full_notes}
use Rattle.dap_project.specs.Noted.{noted_decls}
use Rattle.dap_project.proofs.sent.decls_sent.Given as goal

abbrev pub invariant-loop-at : goal.invariant-loop-at
invariant-loop-at l =
    l.sent ++ noted_decls (drop l.at l.decls) (drop l.at (full_notes l.decls l.notes))
    ≡ noted_decls l.decls (full_notes l.decls l.notes)
