-- The declarations so far are written.
use Rattle.std.proofs.Common.{◌≡◌, ◌++◌, drop}
use Rattle.dap_model.specs.StructureText.{decls_text}
use Rattle.dap_project.specs.Full.{full_notes}
use Rattle.dap_project.specs.Noted.{noted_decls}
use Rattle.dap_project.proofs.text.put_decls.Given as goal

abbrev pub invariant-loop-at : goal.invariant-loop-at
invariant-loop-at l =
    l.out ++ decls_text 1 (noted_decls (drop l.at l.decls) (drop l.at (full_notes l.decls l.notes)))
    ≡ l.fn.out ++ decls_text 1 (noted_decls l.decls (full_notes l.decls l.notes))
