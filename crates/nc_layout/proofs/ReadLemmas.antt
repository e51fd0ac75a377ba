-- For callers: a header that was read can be laid out, and what it says of a variable holds of the layout.
use Rattle.std.proofs.Common.{◌≡◌, ℕ, ◌^◌, ◌<◌, List, length, Some, None, Ok, Err, inl, inr, ap, arith}
use Rattle.std.specs.List.{slice_get}
use Rattle.nc_model.specs.declared.fault.LayoutFault.{LayoutFault}
use Rattle.nc_model.specs.declared.header.Header.{Header}
use Rattle.nc_model.specs.declared.header.NcVar.{NcVar}
use Rattle.nc_model.specs.Spelling.{HeaderOf, SpellsList}
use Rattle.nc_model.specs.Layout.{shape_of, layout_fault, IsIndex}
use Rattle.nc_layout.specs.Faults.{CanLayOut, layout_or_fault}
use Rattle.nc_layout.specs.LaidOut.{LaidOut, IsVar, HasElement, HasDim, HasPart, part_count}
use Rattle.nc_layout.proofs.LayingLemmas.{fault_or-none, fault_or-some}

few_items : {A : Type 0} (tag : ℕ) (S : List ℕ → A → Type 0) (text : List ℕ) (items : List A)
    → SpellsList tag S text items → length items < 2 ^ 32
few_items tag S text items (inl absent) = let none = ap length absent.none in omega arith
few_items tag S text items (inr tagged) = let few = tagged.count.small in omega arith

pub CanLayOut-from_HeaderOf : {bytes : List ℕ} {header : Header} → HeaderOf bytes header → CanLayOut header
CanLayOut-from_HeaderOf spelled = record { sound = spelled.sound; few_vars = few_items _ _ _ _ spelled.spelled.vars }

-- an index list of a variable, a dimension of it, a part of it
pub HasElement-from_var : (laid : LaidOut) (number : ℕ) (var : NcVar) (index : List ℕ) → IsVar laid number var
    → IsIndex (shape_of laid.header var) index → HasElement laid number index
HasElement-from_var laid number var index is within = rw is within

pub HasDim-from_var : (laid : LaidOut) (number : ℕ) (var : NcVar) (dim : ℕ) → IsVar laid number var
    → dim < length var.dims → HasDim laid number dim
HasDim-from_var laid number var dim is below = rw is below

pub HasPart-from_var : (laid : LaidOut) (number : ℕ) (var : NcVar) (k : ℕ) → IsVar laid number var
    → k < part_count laid.header var → HasPart laid number k
HasPart-from_var laid number var k is below = rw is below

-- a header that is laid out has no fault of its layout, and one that is refused has that fault
pub layout_fault-none : (header : Header) (len : ℕ) (laid : LaidOut) → layout_or_fault header len ≡ Ok laid
    → layout_fault header len ≡ None
unfolding layout_or_fault
layout_fault-none header len laid is =
    fault_or-none (layout_fault header len) (record { header = header; len = len }) laid is

pub layout_fault-some : (header : Header) (len : ℕ) (fault : LayoutFault) → layout_or_fault header len ≡ Err fault
    → layout_fault header len ≡ Some fault
unfolding layout_or_fault
layout_fault-some header len fault is =
    fault_or-some (layout_fault header len) (record { header = header; len = len }) fault is

-- to be named in the attribute of a function that reads a header and lays it out, or asks a layout
pub ruleset headers_read = (
  CanLayOut-from_HeaderOf,
  HasElement-from_var,
  HasDim-from_var,
  HasPart-from_var,
  layout_fault-none,
  layout_fault-some,
)
