-- What a layout keeps beside its header and its length, and what holds of its variables.
use Rattle.std.specs.Prelude.{◌≡◌, ℕ, ◌≤◌, List, map, drop, slice_index, All, Option, Some, None, if◌then◌else◌}
use Rattle.nc_model.specs.declared.header.Header.{Header}
use Rattle.nc_model.specs.declared.header.NcVar.{NcVar}
use Rattle.nc_model.specs.Layout.{is_record_var, fixed_shape, vsize, record_size, has_elements, end_of, layout_fault}
use Rattle.nc_layout.specs.Faults.{CanLayOut}
use Rattle.nc_layout.specs.Meaning.{IsSmall, EndsWithin}

-- no dimension of the variable but that of the records has the length 0
abbrev pub HasLengths : Header → NcVar → Type 0
HasLengths header var = All (λ n. 1 ≤ n) (fixed_shape header var)

-- the sizes of the variables in one record
abbrev pub vsizes_of : Header → List ℕ
vsizes_of header = map (vsize header) header.vars

-- where the last element of the variable ends, if it has one
abbrev pub end_if_any : Header → NcVar → Option ℕ
end_if_any header var = if has_elements header var then Some (end_of header var) else None

-- the number of the part in which an element lies
abbrev pub part_of : Header → NcVar → List ℕ → ℕ
part_of header var index = if is_record_var header var then slice_index index 0 else 0

-- the element's index list in its part
abbrev pub index_in_part : Header → NcVar → List ℕ → List ℕ
index_in_part header var index = if is_record_var header var then drop 1 index else index

-- all elements of the variable lie within this length
pub record IsWithin (header : Header) (len : ℕ) (var : NcVar) : Type 0 where
  pub lengths : HasLengths header var
  pub small : IsSmall header var
  pub ends : EndsWithin header len var

-- a header without a fault of its layout, with the sizes of a record and of its variables in it
pub record IsLaidOut (header : Header) (len size : ℕ) (vsizes : List ℕ) : Type 0 where
  pub can : CanLayOut header
  pub faultless : layout_fault header len ≡ None
  pub size_is : size ≡ record_size header
  pub vsizes_are : vsizes ≡ vsizes_of header
