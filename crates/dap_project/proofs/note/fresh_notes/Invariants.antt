-- A fresh note for each declaration so far.
use Rattle.std.proofs.Common.{◌≡◌, map, take}
use Rattle.dap_project.specs.Notes.{fresh_note}
use Rattle.dap_project.proofs.note.fresh_notes.Given as goal

abbrev pub invariant-loop-decl : goal.invariant-loop-decl
invariant-loop-decl l = l.notes ≡ map fresh_note (take l.decl-index l.decls)
