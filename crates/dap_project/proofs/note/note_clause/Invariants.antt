-- The notes of the indices so far are noted.
use Rattle.std.proofs.Common.{drop}
use Rattle.dap_project.specs.Full.{full_notes}
use Rattle.dap_project.proofs.BucketLemmas.{AreNoted}
use Rattle.dap_project.proofs.note.note_clause.Given as goal

abbrev pub invariant-loop-at : goal.invariant-loop-at
invariant-loop-at l =
    AreNoted l.decls l.clause (drop l.at-index l.indices) (full_notes l.decls l.notes)
    (full_notes l.decls l.fn.notes)
