-- The notes are those of the clauses so far, none of which has a fault.
use Rattle.std.proofs.Common.{◌≡◌, [], All, map, take, drop}
use Rattle.dap_model.specs.ClauseFaults.{first_fault}
use Rattle.dap_project.specs.Checks.{HasCountable}
use Rattle.dap_project.specs.Full.{full_notes}
use Rattle.dap_project.specs.Notes.{note_of}
use Rattle.dap_project.proofs.projection.notes_of.Given as goal

abbrev pub invariant-loop-clause : goal.invariant-loop-clause
invariant-loop-clause l = record {
  notes : full_notes l.decls l.notes ≡ map (note_of (take l.clause-index l.clauses)) l.decls;
  fault : first_fault l.decls (take l.clause-index l.clauses) (drop l.clause-index l.clauses)
      ≡ first_fault l.decls [] l.clauses;
  countable : All HasCountable (take l.clause-index l.clauses);
}
