-- The parts of the declarations so far are there, and those from the index on are left.
use Rattle.std.proofs.Common.{◌≡◌, ◌++◌, drop}
use Rattle.dap_project.specs.All.{decls_from}
use Rattle.dap_project.proofs.all.whole_parts.Given as goal

abbrev pub invariant-loop-at : goal.invariant-loop-at
invariant-loop-at l = l.sent ++ decls_from l.at (drop l.at l.decls) ≡ decls_from 0 l.decls
