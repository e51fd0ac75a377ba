-- What a check of a clause returns, and which slabs can be cut.
use Rattle.std.specs.Prelude.{IsFalse, get_or, length, ◌≡◌, ◌⊎◌, ◌-◌, ◌≤◌, ◌<◌, ◌^◌, ℕ, List, All, Option, Some, None, Result, Ok, Err, slice_get}
use Rattle.fm_base.specs.declared.fail.Fail.{Fail}
use Rattle.fm_base.specs.declared.fail.Fail.TheVariants as fails
use Rattle.nc_model.specs.declared.header.Dim.{Dim}
use Rattle.dap_model.specs.Box.{whole_slab}
use Rattle.dap_model.specs.declared.declaration.Array.{Array}
use Rattle.dap_model.specs.declared.projection.Clause.{Clause}
use Rattle.dap_model.specs.declared.projection.Slab.{Slab}
use Rattle.dap_model.specs.declared.declaration.Decl.{Decl}
use Rattle.dap_model.specs.Picking.{decl_named, given_by, parts_of, picked_by}
use Rattle.dap_project.specs.Notes.{picked_of, slots_differ}
use Rattle.dap_project.specs.declared.note.Note.{Note}
use Rattle.dap_project.specs.declared.picked.Named.{Named}
use Rattle.dap_project.specs.declared.slot.Slot.{Slot}
use Rattle.dap_project.specs.declared.slot.Slot.TheVariants.{Free, Taken}

-- the result is this fault, or no fault, unless memory ran out
abbrev pub Finds : {A E : Type 0} → Option E → Result A (Fail E) → Type 0
Finds fault (Ok done) = fault ≡ None
Finds fault (Err fails.NoMemory) = Unit {0}
Finds fault (Err (fails.Fault found)) = fault ≡ Some found

-- a clause gives no part of a declaration other slabs than its note has
abbrev pub Agrees : Decl → Clause → Note → Type 0
Agrees decl clause note = IsFalse (slots_differ (λ part. given_by decl clause part) 0 note.slots)

-- the first declaration that a path names, or names a part of, and what the path picks of it
pub record IsNamed (decls : List Decl) (path : List (List ℕ)) (named : Named) : Type 0 where
  pub within : named.at < length decls
  pub decl : slice_get decls named.at ≡ decl_named decls path
  pub choice : (decl : Decl) → decl ≡ get_or decls named.at decl → picked_of named.choice ≡ picked_by decl path

-- what a clause picks of the declaration at an index, where it gives no part other slabs than its note has
pub record IsChecked (decls : List Decl) (notes : List Note) (clause : Clause) (named : Named) : Type 0 where
  pub choice : (decl : Decl) → decl ≡ get_or decls named.at decl → picked_of named.choice ≡ picked_by decl clause.path
  pub agrees : (decl : Decl) (note : Note) → decl ≡ get_or decls named.at decl → note ≡ get_or notes named.at note
      → Agrees decl clause note

-- a slab has a stride, and its count fits 64 bits
pub record IsCountable (slab : Slab) : Type 0 where
  pub stride : 1 ≤ slab.stride
  pub few : slab.stop < 2 ^ 64 - 1

-- the slabs of a clause are countable
abbrev pub HasCountable : Clause → Type 0
HasCountable clause = All IsCountable clause.slabs

-- a slab is countable, or that of a whole dimension of this size
abbrev pub IsCut : ℕ → Slab → Type 0
IsCut size slab = IsCountable slab ⊎ (slab ≡ whole_slab size)

-- each slab is so for the dimension at its index
abbrev pub AreCuts : List Dim → List Slab → Type 0
AreCuts dims slabs =
    (index : ℕ) (dim : Dim) (slab : Slab) → slice_get dims index ≡ Some dim → slice_get slabs index ≡ Some slab
    → IsCut dim.size slab

-- the slabs of a slot are so for an array
abbrev pub IsSlotCut : Array → Slot → Type 0
IsSlotCut array Free = Unit {0}
IsSlotCut array (Taken slabs mixed) = AreCuts array.dims slabs

-- those of each slot are so for the array at its index
abbrev pub CanBeCut : List Array → List Slot → Type 0
CanBeCut arrays slots =
    (index : ℕ) (array : Array) (slot : Slot) → slice_get arrays index ≡ Some array → slice_get slots index ≡ Some slot
    → IsSlotCut array slot

-- those of each note are so for the parts of the declaration at its index
abbrev pub AllCanBeCut : List Decl → List Note → Type 0
AllCanBeCut decls notes =
    (index : ℕ) (decl : Decl) (note : Note) → slice_get decls index ≡ Some decl → slice_get notes index ≡ Some note
    → CanBeCut (parts_of decl) note.slots
