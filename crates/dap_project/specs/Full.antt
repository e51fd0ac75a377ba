-- Slots in full: the whole of each dimension, where a clause gave a part no slabs.
use Rattle.std.specs.Prelude.{ℕ, ◌+◌, List, [], ◌∷◌, slice_get}
use Rattle.std.specs.Option.{option_map_or}
use Rattle.nc_model.specs.declared.header.Dim.{Dim}
use Rattle.dap_model.specs.Picking.{or_whole, part_dims}
use Rattle.dap_model.specs.declared.declaration.Decl.{Decl}
use Rattle.dap_project.specs.declared.note.Note.{Note}
use Rattle.dap_project.specs.declared.slot.Slot.{Slot}
use Rattle.dap_project.specs.declared.slot.Slot.TheVariants.{Free, Taken}

-- a slot of a part of these dimensions, in full
abbrev pub full_slot : List Dim → Slot → Slot
full_slot dims Free = Free
full_slot dims (Taken slabs mixed) = Taken (or_whole dims slabs) mixed

-- what a function makes of each item at its index, from this index on
abbrev pub each_from : {A : Type 0} → (ℕ → A → A) → ℕ → List A → List A
each_from make index [] = []
each_from make index (item ∷ items) = make index item ∷ each_from make (index + 1) items

-- the slot of a declaration's part, in full
abbrev pub full_part : Decl → ℕ → Slot → Slot
full_part decl part slot = full_slot (part_dims decl part) slot

-- the slots of a declaration's parts, in full
unfoldable pub full_slots : Decl → List Slot → List Slot
full_slots decl slots = each_from (full_part decl) 0 slots

-- a declaration's note with its slots in full
abbrev pub full_note : Decl → Note → Note
full_note decl note = record { picked = note.picked; every = note.every; slots = full_slots decl note.slots }

-- the note of the declaration at an index, with its slots in full
abbrev pub full_at : List Decl → ℕ → Note → Note
full_at decls index note = option_map_or (λ decl. full_note decl note) (slice_get decls index) note

-- the notes of declarations, with their slots in full
unfoldable pub full_notes : List Decl → List Note → List Note
full_notes decls notes = each_from (full_at decls) 0 notes
