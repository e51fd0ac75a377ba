-- A note for each declaration so far.
use Rattle.std.proofs.Common.{◌≡◌, [], length, map, take}
use Rattle.dap_project.specs.Full.{full_notes}
use Rattle.dap_project.specs.Notes.{note_for}
use Rattle.dap_project.proofs.whole.whole_notes.Given as goal

abbrev pub invariant-loop-decl : goal.invariant-loop-decl
invariant-loop-decl l =
    (full_notes l.decls l.notes ≡ map (note_for []) (take l.decl-index l.decls)) × (l.decl-index ≡ length l.notes)
