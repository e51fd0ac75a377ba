-- Notes for clauses without a fault, and the fault of others.
use Rattle.std.proofs.Common.{◌≡◌, ◌==◌, true, false, All, List, [], ◌∷◌, length, map, IfOk, OnOk, Result, Ok, Err, refl, sym, ap, subst, ◌∙◌, arith}
use Rattle.std.proofs.lemmas.Bool.{eqb-true, true≢false}
use Rattle.std.proofs.lemmas.List.{length-map}
use Rattle.std.proofs.lemmas.List.Elements.{All-nil}
use Rattle.fm_base.specs.Answer.{AnswersAs, ForFault}
use Rattle.fm_base.specs.declared.fail.Fail.{Fail}
use Rattle.fm_base.specs.declared.fail.Fail.TheVariants as fails
use Rattle.dap_model.specs.ClauseFaults.{first_fault}
use Rattle.dap_model.specs.Projection.{projection_of}
use Rattle.dap_model.specs.declared.declaration.Decl.{Decl}
use Rattle.dap_model.specs.declared.fault.ProjectFault.{ProjectFault}
use Rattle.dap_model.specs.declared.projection.Clause.{Clause}
use Rattle.dap_model.specs.declared.projection.Projected.{Projected}
use Rattle.dap_project.specs.Checks.{AllCanBeCut, HasCountable}
use Rattle.dap_project.specs.Full.{full_notes}
use Rattle.dap_project.specs.Noted.{notes_or_fault}
use Rattle.dap_project.specs.Notes.{note_for, note_of}
use Rattle.dap_project.specs.Sending.{AreNotesFor}
use Rattle.dap_project.specs.declared.note.Note.{Note}
use Rattle.dap_project.proofs.CutLemmas.{notes_cut}
use Rattle.dap_project.proofs.FaultLemmas.{projected_notes, refused_notes}
use Rattle.dap_project.proofs.FullLemmas.{length-full_notes}

pub notes_sent : (decls : List Decl) (clauses : List Clause) (notes : List Note)
    → notes_or_fault (map (note_for clauses) decls) (first_fault decls [] clauses) ≡ Ok (full_notes decls notes)
    → All HasCountable clauses → AreNotesFor decls clauses notes
notes_sent decls clauses notes is countable =
    let answer = projected_notes decls clauses (full_notes decls notes) is in
    record {
      count = sym (length-full_notes decls notes) ∙ ap length answer.1 ∙ length-map decls (note_for clauses);
      cuts = subst (AllCanBeCut decls) (sym answer.1) (notes_cut clauses decls countable);
      sent = answer.0;
    }

-- without a clause no slab is given
pub none_countable : (clauses : List Clause) → (length clauses == 0) ≡ true → All HasCountable clauses
none_countable [] none = All-nil HasCountable
none_countable (clause ∷ clauses) none = absurd (omega (arith, eqb-true (length (clause ∷ clauses)) 0 none))

-- where there is a clause, the notes are those of the clauses
for_some : (decls : List Decl) (clauses : List Clause) → (length clauses == 0) ≡ false
    → map (note_of clauses) decls ≡ map (note_for clauses) decls
for_some decls [] some = absurd (true≢false some)
for_some decls (clause ∷ clauses) some = refl

-- the answer for some clauses
abbrev Answered : List Decl → List Clause → Result (List Note) (Fail ProjectFault) → Type 0
Answered decls clauses result =
    AnswersAs (full_notes decls) (notes_or_fault (map (note_of clauses) decls) (first_fault decls [] clauses)) result

pub some_sent : (decls : List Decl) (clauses : List Clause) (result : Result (List Note) (Fail ProjectFault))
    → (length clauses == 0) ≡ false → Answered decls clauses result → OnOk result (All HasCountable clauses)
    → IfOk result (λ notes. AreNotesFor decls clauses notes)
some_sent decls clauses (Ok notes) some answered countable =
    notes_sent decls clauses notes
    (ap (λ (l : List Note). notes_or_fault l (first_fault decls [] clauses)) (sym (for_some decls clauses some))
    ∙ answered)
    countable
some_sent decls clauses (Err fail) some answered countable = tt

pub some_refused : (decls : List Decl) (clauses : List Clause) (result : Result (List Note) (Fail ProjectFault))
    → (length clauses == 0) ≡ false → Answered decls clauses result
    → ForFault result (λ (fault : ProjectFault). projection_of decls clauses ≡ Err fault)
some_refused decls clauses (Ok notes) some answered = tt
some_refused decls clauses (Err fails.NoMemory) some answered = tt
some_refused decls clauses (Err (fails.Fault fault)) some answered =
    refused_notes decls clauses (fails.Fault fault)
    (ap (λ (l : List Note). notes_or_fault l (first_fault decls [] clauses)) (sym (for_some decls clauses some))
    ∙ answered)
