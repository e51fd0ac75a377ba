-- The first fault, clause by clause, and what is answered for notes or a fault.
use Rattle.std.proofs.Common.{true, ◌==◌, ◌≡◌, ℕ, ◌+◌, ◌<◌, ◌≤◌, List, [], ◌∷◌, ◌++◌, length, map, take, drop, get_or, slice_get, Option, Some, None, Ok, Err, refl, sym, ap, ◌∙◌, arith}
use Rattle.std.proofs.lemmas.Bool.{eqb-true}
use Rattle.std.proofs.lemmas.List.{drop_all, drop_more, take_all, take_more}
use Rattle.std.specs.Option.{option_or}
use Rattle.fm_base.specs.Answer.{Answers}
use Rattle.fm_base.specs.declared.fail.Fail.{Fail}
use Rattle.fm_base.specs.declared.fail.Fail.TheVariants as fails
use Rattle.dap_model.specs.ClauseFaults.{clause_fault, decl_fault, fault_in, first_fault}
use Rattle.dap_model.specs.Picking.{decl_named}
use Rattle.dap_model.specs.Projection.{all_sent, projection_of, unless_fault}
use Rattle.dap_model.specs.declared.declaration.Decl.{Decl}
use Rattle.dap_model.specs.declared.fault.ProjectFault.{ProjectFault}
use Rattle.dap_model.specs.declared.projection.Clause.{Clause}
use Rattle.dap_model.specs.declared.projection.Projected.{Projected}
use Rattle.dap_project.specs.Checks.{Finds}
use Rattle.dap_project.specs.Noted.{noted_all, notes_or_fault}
use Rattle.dap_project.specs.Notes.{note_for, note_of}
use Rattle.dap_project.specs.declared.note.Note.{Note}
use Rattle.dap_project.specs.declared.picked.Named.{Named}
use Rattle.dap_project.proofs.SentLemmas.{all_noted}
use Rattle.dap_project.proofs.StepLemmas.{item_at}

-- the fault of a clause is that on the declaration that it names
pub fault_named : (decls : List Decl) (earlier : List Clause) (clause : Clause) (at : ℕ) (decl : Decl)
    → at < length decls → decl ≡ get_or decls at decl → slice_get decls at ≡ decl_named decls clause.path
    → clause_fault decls earlier clause ≡ decl_fault decl earlier clause
unfolding clause_fault
fault_named decls earlier clause at decl within is named =
    ap (fault_in earlier clause) (sym named ∙ item_at decls at decl within is)

-- a fault is found where the same one is
pub found_for : (whole part : Option ProjectFault) (fail : Fail ProjectFault) → whole ≡ part
    → Finds {A = Unit {0}} part (Err fail) → Finds {A = Named} whole (Err fail)
found_for whole part fails.NoMemory is found = tt
found_for whole part (fails.Fault fault) is found = is ∙ found

-- a clause without a fault leaves those after it
pub no_fault_at : (decls : List Decl) (clauses : List Clause) (at : ℕ) (clause : Clause) → at < length clauses
    → clause ≡ get_or clauses at clause → clause_fault decls (take at clauses) clause ≡ None
    → first_fault decls (take at clauses) (drop at clauses)
    ≡ first_fault decls (take (at + 1) clauses) (drop (at + 1) clauses)
unfolding first_fault
no_fault_at decls clauses at clause within is none =
    let rest = drop (at + 1) clauses in
    let earlier = take at clauses in
    ap (first_fault decls earlier)
    (drop_more clauses at clause within ∙ ap (λ (c : Clause). c ∷ rest) (sym is))
    ∙ ap (λ (o : Option ProjectFault). option_or o (first_fault decls (earlier ++ clause ∷ []) rest)) none
    ∙ ap (λ (l : List Clause). first_fault decls l rest)
    (sym (take_more clauses at clause within ∙ ap (λ (c : Clause). earlier ++ c ∷ []) (sym is)))

fault_at : (decls : List Decl) (clauses : List Clause) (at : ℕ) (clause : Clause) (fault : ProjectFault)
    → at < length clauses → clause ≡ get_or clauses at clause
    → clause_fault decls (take at clauses) clause ≡ Some fault
    → first_fault decls (take at clauses) (drop at clauses) ≡ Some fault
unfolding first_fault
fault_at decls clauses at clause fault within is some =
    let rest = drop (at + 1) clauses in
    let earlier = take at clauses in
    ap (first_fault decls earlier)
    (drop_more clauses at clause within ∙ ap (λ (c : Clause). c ∷ rest) (sym is))
    ∙ ap (λ (o : Option ProjectFault). option_or o (first_fault decls (earlier ++ clause ∷ []) rest)) some

-- a clause's fault is the answer
pub fails_at : (decls : List Decl) (clauses : List Clause) (at : ℕ) (clause : Clause) (notes : List Note)
    (fail : Fail ProjectFault) → at < length clauses → clause ≡ get_or clauses at clause
    → first_fault decls (take at clauses) (drop at clauses) ≡ first_fault decls [] clauses
    → Finds {A = Unit {0}} (clause_fault decls (take at clauses) clause) (Err fail)
    → Answers (notes_or_fault notes (first_fault decls [] clauses)) (Err fail)
fails_at decls clauses at clause notes fails.NoMemory within is same found = tt
fails_at decls clauses at clause notes (fails.Fault fault) within is same found =
    ap (notes_or_fault notes) (sym same ∙ fault_at decls clauses at clause fault within is found)

-- after the last clause there is no fault
pub none_left : (decls : List Decl) (clauses : List Clause) (at : ℕ) (notes : List Note) → length clauses ≤ at
    → first_fault decls (take at clauses) (drop at clauses) ≡ first_fault decls [] clauses
    → notes ≡ map (note_of (take at clauses)) decls
    → notes_or_fault (map (note_of clauses) decls) (first_fault decls [] clauses) ≡ Ok notes
unfolding first_fault
none_left decls clauses at notes past same are =
    ap (notes_or_fault (map (note_of clauses) decls))
    (sym same ∙ ap (first_fault decls (take at clauses)) (drop_all at clauses past))
    ∙ ap (λ (l : List Note). Ok l)
    (sym (are ∙ ap (λ (l : List Clause). map (note_of l) decls) (take_all at clauses past)))

-- ---- the projection for notes or a fault

projected : (decls : List Decl) (clauses : List Clause) (fault : Option ProjectFault)
    → first_fault decls [] clauses ≡ fault → (notes : List Note)
    → notes_or_fault (map (note_for clauses) decls) fault ≡ Ok notes
    → (projection_of decls clauses ≡ Ok (noted_all decls notes)) × (notes ≡ map (note_for clauses) decls)
unfolding projection_of
projected decls clauses None is notes e =
    let same : notes ≡ map (note_for clauses) decls = cc in (
      ap (unless_fault (all_sent decls clauses)) is
          ∙ ap (λ (p : Projected). Ok p) (sym (ap (noted_all decls) same ∙ all_noted clauses decls)),
      same,
    )
projected decls clauses (Some fault) is notes e = absurd cc

pub projected_notes : (decls : List Decl) (clauses : List Clause) (notes : List Note)
    → notes_or_fault (map (note_for clauses) decls) (first_fault decls [] clauses) ≡ Ok notes
    → (projection_of decls clauses ≡ Ok (noted_all decls notes)) × (notes ≡ map (note_for clauses) decls)
projected_notes decls clauses notes e = projected decls clauses (first_fault decls [] clauses) refl notes e

refused : (decls : List Decl) (clauses : List Clause) (found : Option ProjectFault)
    → first_fault decls [] clauses ≡ found → (fault : ProjectFault)
    → notes_or_fault (map (note_for clauses) decls) found ≡ Err fault
    → projection_of decls clauses ≡ Err fault
unfolding projection_of
refused decls clauses None is fault e = absurd cc
refused decls clauses (Some found) is fault e =
    let same : found ≡ fault = cc in
    ap (unless_fault (all_sent decls clauses)) is ∙ ap (λ (f : ProjectFault). Err f) same

pub refused_notes : (decls : List Decl) (clauses : List Clause) (fail : Fail ProjectFault)
    → Answers {A = List Note} (notes_or_fault (map (note_for clauses) decls) (first_fault decls [] clauses)) (Err fail)
    → Answers {A = Projected} (projection_of decls clauses) (Err fail)
refused_notes decls clauses fails.NoMemory e = tt
refused_notes decls clauses (fails.Fault fault) e =
    refused decls clauses (first_fault decls [] clauses) refl fault e

-- without a clause there is no fault
pub whole_answer : (decls : List Decl) (clauses : List Clause) (notes : List Note) → (length clauses == 0) ≡ true
    → notes ≡ map (note_for []) decls
    → notes_or_fault (map (note_for clauses) decls) (first_fault decls [] clauses) ≡ Ok notes
unfolding first_fault
whole_answer decls [] notes none is = ap (λ (l : List Note). Ok l) (sym is)
whole_answer decls (clause ∷ clauses) notes none is =
    absurd (omega (arith, eqb-true (length (clause ∷ clauses)) 0 none))
