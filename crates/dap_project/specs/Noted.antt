-- What is sent of a dataset for the notes of its declarations.
use Rattle.std.specs.Prelude.{ℕ, ◌+◌, List, [], ◌∷◌, ◌++◌, if◌then◌else◌, Option, Some, None, Result, Ok, Err}
use Rattle.dap_model.specs.Projection.{cut_array, rebuilt, with_slabs}
use Rattle.dap_model.specs.Picking.{parts_of}
use Rattle.dap_model.specs.declared.declaration.Array.{Array}
use Rattle.dap_model.specs.declared.declaration.Decl.{Decl}
use Rattle.dap_model.specs.declared.projection.Projected.{Projected}
use Rattle.dap_model.specs.declared.projection.Sent.{Sent}
use Rattle.dap_model.specs.declared.fault.ProjectFault.{ProjectFault}
use Rattle.dap_project.specs.declared.note.Note.{Note}
use Rattle.dap_project.specs.declared.slot.Slot.{Slot}
use Rattle.dap_project.specs.declared.slot.Slot.TheVariants.{Free, Taken}

-- a part whose slot is taken, as an array
abbrev pub cut_of : Array → Slot → List Array
cut_of array Free = []
cut_of array (Taken slabs mixed) = cut_array slabs array ∷ []

-- the parts whose slots are taken
unfoldable pub cut_slots : List Array → List Slot → List Array
cut_slots [] slots = []
cut_slots (array ∷ arrays) [] = []
cut_slots (array ∷ arrays) (slot ∷ slots) = cut_of array slot ++ cut_slots arrays slots

-- a part whose slot is taken, by the index of its declaration and its own number
abbrev pub sent_of_slot : ℕ → ℕ → Slot → List Sent
sent_of_slot decl part Free = []
sent_of_slot decl part (Taken slabs mixed) = with_slabs decl part slabs ∷ []

-- the parts from this number on whose slots are taken
unfoldable pub sent_slots : ℕ → ℕ → List Slot → List Sent
sent_slots decl part [] = []
sent_slots decl part (slot ∷ slots) = sent_of_slot decl part slot ++ sent_slots decl (part + 1) slots

-- a declaration as it is sent
unfoldable pub noted_decl : Decl → Note → Decl
noted_decl decl note = rebuilt note.every decl (cut_slots (parts_of decl) note.slots)

-- a declaration, where something of it is picked
abbrev pub decl_of : Decl → Note → List Decl
decl_of decl note = if note.picked then noted_decl decl note ∷ [] else []

-- the declarations that are sent
unfoldable pub noted_decls : List Decl → List Note → List Decl
noted_decls [] notes = []
noted_decls (decl ∷ decls) [] = []
noted_decls (decl ∷ decls) (note ∷ notes) = decl_of decl note ++ noted_decls decls notes

-- the parts that are sent, of the declarations from this index on
unfoldable pub noted_sent : ℕ → List Note → List Sent
noted_sent index [] = []
noted_sent index (note ∷ notes) = sent_slots index 0 note.slots ++ noted_sent (index + 1) notes

-- what is sent
abbrev pub noted_all : List Decl → List Note → Projected
noted_all decls notes = record { decls = noted_decls decls notes; sent = noted_sent 0 notes }

-- notes, unless there is a fault
abbrev pub notes_or_fault : List Note → Option ProjectFault → Result (List Note) ProjectFault
notes_or_fault notes None = Ok notes
notes_or_fault notes (Some fault) = Err fault
