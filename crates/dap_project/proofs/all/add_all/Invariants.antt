-- The parts so far are there, and those from the number on are left.
use Rattle.std.proofs.Common.{◌≡◌, ◌++◌, drop}
use Rattle.dap_model.specs.Picking.{parts_of}
use Rattle.dap_project.specs.All.{parts_from}
use Rattle.dap_project.proofs.all.add_all.Given as goal

abbrev pub invariant-loop-part : goal.invariant-loop-part
invariant-loop-part l = l.sent ++ parts_from l.index l.part (drop l.part (parts_of l.decl))
    ≡ l.fn.sent ++ parts_from l.index 0 (parts_of l.decl)
