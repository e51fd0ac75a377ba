-- The names so far, with dots between them.
use Rattle.std.proofs.Common.{◌≡◌, take}
use Rattle.dap_model.specs.ClauseFaults.{path_text}
use Rattle.dap_project.proofs.check.path_text.Given as goal

abbrev pub invariant-loop-at : goal.invariant-loop-at
invariant-loop-at l = l.text ≡ path_text (take l.at l.path)
