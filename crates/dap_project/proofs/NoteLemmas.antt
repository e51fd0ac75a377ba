-- The note of a declaration after clauses.
use Rattle.std.proofs.Common.{cond, ◌≡◌, ℕ, ◌+◌, Bool, true, false, ◌||◌, List, [], ◌∷◌, ◌++◌, map, Some, None, refl, sym, ap, ap₂, ◌∙◌}
use Rattle.std.proofs.lemmas.Bool.{cond-true, cond-false, true≢false}
use Rattle.std.specs.List.{list_any}
use Rattle.dap_model.specs.ClauseFaults.{conflict_fault}
use Rattle.dap_model.specs.Picking.{Picked, nothing, every, only, given_by, is_every, is_picked, name_of, parts_of, picked_by, slabs_for}
use Rattle.dap_model.specs.declared.declaration.Decl.{Decl}
use Rattle.dap_model.specs.declared.fault.ProjectFault.TheVariants.{SlabConflict}
use Rattle.dap_model.specs.declared.projection.Clause.{Clause}
use Rattle.dap_project.specs.Notes.{free_slots, fresh_note, note_after, note_from, note_of, notes_after, slots_after, slots_differ}
use Rattle.dap_project.specs.declared.note.Note.{Note}
use Rattle.dap_project.specs.declared.slot.Slot.{Slot}
use Rattle.dap_project.proofs.SlotLemmas.{differ_from, slots_from, slots_from-none, slots_from-step, or-assoc, or-none}

pub note_from-push : (decl : Decl) (note : Note) (clauses : List Clause) (clause : Clause)
    → note_from decl note (clauses ++ clause ∷ []) ≡ note_after decl clause (note_from decl note clauses)
unfolding note_from
note_from-push decl note [] clause = refl
note_from-push decl note (first ∷ clauses) clause = note_from-push decl (note_after decl first note) clauses clause

slots_after-nothing : (part : ℕ) (slots : List Slot) → slots_after (λ p. None) part slots ≡ slots
unfolding slots_after
slots_after-nothing part [] = refl
slots_after-nothing part (slot ∷ slots) = ap (λ (l : List Slot). slot ∷ l) (slots_after-nothing (part + 1) slots)

-- a clause that picks nothing of a declaration leaves its note
pub note_kept : (decl : Decl) (clause : Clause) (note : Note) → is_picked (picked_by decl clause.path) ≡ false
    → note_after decl clause note ≡ note
unfolding note_after given_by
note_kept decl clause note none = by_picked (picked_by decl clause.path) none
  where
    after : Picked → Note
    after picked = record {
      picked = note.picked || is_picked picked;
      every = note.every || is_every picked;
      slots = slots_after (λ part. slabs_for decl clause.slabs part picked) 0 note.slots;
    }

    by_picked : (picked : Picked) → is_picked picked ≡ false → after picked ≡ note
    by_picked nothing none = λ i. record {
      picked = sym (or-none note.picked) i;
      every = sym (or-none note.every) i;
      slots = slots_after-nothing 0 note.slots i;
    }
    by_picked every none = absurd (true≢false none)
    by_picked (only part) none = absurd (true≢false none)

pub notes_after-map : (clause : Clause) (clauses : List Clause) (decls : List Decl)
    → notes_after clause decls (map (note_of clauses) decls) ≡ map (note_of (clauses ++ clause ∷ [])) decls
unfolding notes_after
notes_after-map clause clauses [] = refl
notes_after-map clause clauses (decl ∷ decls) =
    ap₂ (λ (n : Note) (l : List Note). n ∷ l) (sym (note_from-push decl (fresh_note decl) clauses clause))
    (notes_after-map clause clauses decls)

pub notes_of-none : (decls : List Decl) → map fresh_note decls ≡ map (note_of []) decls
unfolding note_from
notes_of-none [] = refl
notes_of-none (decl ∷ decls) = ap (λ (l : List Note). fresh_note decl ∷ l) (notes_of-none decls)

slots_of_note : (decl : Decl) (note : Note) (clauses : List Clause)
    → (note_from decl note clauses).slots ≡ slots_from decl 0 note.slots clauses
unfolding note_from note_after
slots_of_note decl note [] = sym (slots_from-none decl 0 note.slots)
slots_of_note decl note (clause ∷ clauses) =
    slots_of_note decl (note_after decl clause note) clauses ∙ slots_from-step decl 0 note.slots clause clauses

pub slots_of : (decl : Decl) (clauses : List Clause)
    → (note_of clauses decl).slots ≡ slots_from decl 0 (free_slots (parts_of decl)) clauses
unfolding fresh_note
slots_of decl clauses = slots_of_note decl (fresh_note decl) clauses

picked_from : (decl : Decl) (note : Note) (clauses : List Clause)
    → (note_from decl note clauses).picked
    ≡ (note.picked || list_any (λ (each : Clause). is_picked (picked_by decl each.path)) clauses)
unfolding note_from note_after
picked_from decl note [] = or-none note.picked
picked_from decl note (clause ∷ clauses) =
    picked_from decl (note_after decl clause note) clauses
    ∙ or-assoc note.picked (is_picked (picked_by decl clause.path))
    (list_any (λ (each : Clause). is_picked (picked_by decl each.path)) clauses)

every_from : (decl : Decl) (note : Note) (clauses : List Clause)
    → (note_from decl note clauses).every
    ≡ (note.every || list_any (λ (each : Clause). is_every (picked_by decl each.path)) clauses)
unfolding note_from note_after
every_from decl note [] = or-none note.every
every_from decl note (clause ∷ clauses) =
    every_from decl (note_after decl clause note) clauses
    ∙ or-assoc note.every (is_every (picked_by decl clause.path))
    (list_any (λ (each : Clause). is_every (picked_by decl each.path)) clauses)

pub picked_of_note : (decl : Decl) (clauses : List Clause)
    → (note_of clauses decl).picked ≡ list_any (λ (each : Clause). is_picked (picked_by decl each.path)) clauses
unfolding fresh_note
picked_of_note decl clauses = picked_from decl (fresh_note decl) clauses

pub every_of_note : (decl : Decl) (clauses : List Clause)
    → (note_of clauses decl).every ≡ list_any (λ (each : Clause). is_every (picked_by decl each.path)) clauses
unfolding fresh_note
every_of_note decl clauses = every_from decl (fresh_note decl) clauses

-- ---- conflicts

-- whether the slabs of a clause differ from earlier ones, by the note
differ_noted : (decl : Decl) (earlier : List Clause) (clause : Clause) (note : Note) → note ≡ note_of earlier decl
    → cond (slots_differ (λ part. given_by decl clause part) 0 note.slots) (Some (SlabConflict (name_of decl))) None
    ≡ conflict_fault decl earlier clause
unfolding conflict_fault
differ_noted decl earlier clause note is =
    ap (λ (t : Bool). cond t (Some (SlabConflict (name_of decl))) None)
    (ap (λ (n : Note). slots_differ (λ part. given_by decl clause part) 0 n.slots) is
    ∙ ap (slots_differ (λ part. given_by decl clause part) 0) (slots_of decl earlier)
    ∙ differ_from decl (λ part. given_by decl clause part) 0 (parts_of decl) earlier)

pub given_as : (decl : Decl) (clause : Clause) (picked : Picked) (note : Note) → picked ≡ picked_by decl clause.path
    → slots_differ (λ part. slabs_for decl clause.slabs part picked) 0 note.slots
    ≡ slots_differ (λ part. given_by decl clause part) 0 note.slots
unfolding given_by
given_as decl clause picked note is =
    ap (λ (p : Picked). slots_differ (λ part. slabs_for decl clause.slabs part p) 0 note.slots) is

pub conflict : (decl : Decl) (earlier : List Clause) (clause : Clause) (note : Note) (picked : Picked)
    → note ≡ note_of earlier decl → picked ≡ picked_by decl clause.path
    → slots_differ (λ part. slabs_for decl clause.slabs part picked) 0 note.slots ≡ true
    → conflict_fault decl earlier clause ≡ Some (SlabConflict (name_of decl))
conflict decl earlier clause note picked is by differ =
    sym (differ_noted decl earlier clause note is)
    ∙ cond-true _ _ _ (sym (given_as decl clause picked note by) ∙ differ)

pub no_conflict : (decl : Decl) (earlier : List Clause) (clause : Clause) (note : Note) (picked : Picked)
    → note ≡ note_of earlier decl → picked ≡ picked_by decl clause.path
    → slots_differ (λ part. slabs_for decl clause.slabs part picked) 0 note.slots ≡ false
    → conflict_fault decl earlier clause ≡ None
no_conflict decl earlier clause note picked is by agree =
    sym (differ_noted decl earlier clause note is)
    ∙ cond-false _ _ _ (sym (given_as decl clause picked note by) ∙ agree)
