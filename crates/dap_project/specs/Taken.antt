-- The parts of a declaration whose slots are taken, as arrays with the lengths that their slabs leave.
use Rattle.std.specs.Prelude.{◌≡◌, ℕ, List, ◌∷◌, drop}
use Rattle.dap_model.specs.Picking.{or_whole, parts_of}
use Rattle.dap_model.specs.Projection.{cut_array}
use Rattle.dap_model.specs.declared.declaration.Array.{Array}
use Rattle.dap_model.specs.declared.declaration.Decl.{Decl}
use Rattle.dap_project.specs.Checks.{AreCuts}
use Rattle.dap_project.specs.Full.{full_slots}
use Rattle.dap_project.specs.Noted.{cut_slots}
use Rattle.dap_project.specs.declared.slot.Slot.{Slot}
use Rattle.dap_project.specs.declared.text.First.{First}

-- the parts from a number on whose slots are taken
abbrev pub cut_from : Decl → List Slot → ℕ → List Array
cut_from decl slots from = cut_slots (drop from (parts_of decl)) (drop from (full_slots decl slots))

-- the first part whose slot is taken
abbrev pub first_cut : First → Array
first_cut first = cut_array (or_whole first.array.now.dims first.slabs.now) first.array.now

-- the first part whose slot is taken can be cut, and those behind it follow
pub record IsFirst (decl : Decl) (slots : List Slot) (first : First) : Type 0 where
  pub cuts : AreCuts first.array.now.dims (or_whole first.array.now.dims first.slabs.now)
  pub parts : cut_from decl slots 0 ≡ first_cut first ∷ cut_from decl slots first.next
