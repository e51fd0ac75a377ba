-- What clauses ask of the declarations of a dataset, noted clause by clause.
use Rattle.std.specs.Prelude.{ℕ, ◌+◌, List, [], ◌∷◌, map, Bool, false, not, ◌||◌, Option, Some, None}
use Rattle.std.specs.Cmp.Lexicographic.{pointwise}
use Rattle.dap_model.specs.ClauseFaults.{is_same_slab}
use Rattle.dap_model.specs.Picking.{Picked, nothing, every, only, parts_of, picked_by, is_picked, is_every, given_by}
use Rattle.dap_model.specs.Projection.{clauses_for}
use Rattle.dap_model.specs.declared.declaration.Array.{Array}
use Rattle.dap_model.specs.declared.declaration.Decl.{Decl}
use Rattle.dap_model.specs.declared.projection.Clause.{Clause}
use Rattle.dap_model.specs.declared.projection.Slab.{Slab}
use Rattle.dap_project.specs.declared.note.Note.{Note}
use Rattle.dap_project.specs.declared.picked.Choice.{Choice}
use Rattle.dap_project.specs.declared.picked.Choice.TheVariants.{Nothing, Every, Only}
use Rattle.dap_project.specs.declared.slot.Slot.{Slot}
use Rattle.dap_project.specs.declared.slot.Slot.TheVariants.{Free, Taken}

-- what is picked
abbrev pub picked_of : Choice → Picked
picked_of Nothing = nothing
picked_of Every = every
picked_of (Only part) = only part

-- a slot after a clause that gives its part these slabs, or none
abbrev pub slot_after : Option (List Slab) → Slot → Slot
slot_after None slot = slot
slot_after (Some slabs) Free = Taken slabs false
slot_after (Some slabs) (Taken first mixed) = Taken first (mixed || not (pointwise is_same_slab first slabs))

-- the slots of the parts from this number on, after a clause that gives slabs to parts
unfoldable pub slots_after : (ℕ → Option (List Slab)) → ℕ → List Slot → List Slot
slots_after given part [] = []
slots_after given part (slot ∷ slots) = slot_after (given part) slot ∷ slots_after given (part + 1) slots

-- a note of a declaration after a clause
unfoldable pub note_after : Decl → Clause → Note → Note
note_after decl clause note =
    record {
      picked = note.picked || is_picked (picked_by decl clause.path);
      every = note.every || is_every (picked_by decl clause.path);
      slots = slots_after (λ part. given_by decl clause part) 0 note.slots;
    }

-- the slots of parts that no clause has named
unfoldable pub free_slots : List Array → List Slot
free_slots parts = map (λ (part : Array). Free) parts

-- the note of a declaration before the first clause
unfoldable pub fresh_note : Decl → Note
fresh_note decl = record { picked = false; every = false; slots = free_slots (parts_of decl) }

-- a note of a declaration after clauses
unfoldable pub note_from : Decl → Note → List Clause → Note
note_from decl note [] = note
note_from decl note (clause ∷ clauses) = note_from decl (note_after decl clause note) clauses

-- the note of a declaration for clauses
abbrev pub note_of : List Clause → Decl → Note
note_of clauses decl = note_from decl (fresh_note decl) clauses

-- notes of declarations after a clause
unfoldable pub notes_after : Clause → List Decl → List Note → List Note
notes_after clause [] notes = notes
notes_after clause (decl ∷ decls) [] = []
notes_after clause (decl ∷ decls) (note ∷ notes) = note_after decl clause note ∷ notes_after clause decls notes

-- whether slabs that a clause gives a part differ from some that an earlier clause gave it
abbrev pub slot_differs : Slot → Option (List Slab) → Bool
slot_differs Free given = false
slot_differs (Taken first mixed) None = false
slot_differs (Taken first mixed) (Some slabs) = mixed || not (pointwise is_same_slab first slabs)

-- whether those of some part from this number on do
unfoldable pub slots_differ : (ℕ → Option (List Slab)) → ℕ → List Slot → Bool
slots_differ given part [] = false
slots_differ given part (slot ∷ slots) = slot_differs slot (given part) || slots_differ given (part + 1) slots

-- the note by which a declaration is sent: where there is no clause, that of its whole
abbrev pub note_for : List Clause → Decl → Note
note_for clauses decl = note_of (clauses_for clauses decl) decl
