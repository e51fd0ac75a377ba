-- A header that is laid out, and what its variables have by their number.
use Rattle.std.specs.Prelude.{◌≡◌, ℕ, ◌+◌, ◌*◌, ◌<◌, List, length, Some, slice_get, IsSomeAnd, if◌then◌else◌}
use Rattle.nc_model.specs.declared.header.Header.{Header}
use Rattle.nc_model.specs.declared.header.NcVar.{NcVar}
use Rattle.nc_model.specs.Layout.{IsIndex, is_record_var, shape_of, record_size}

-- a header, and the length of the file in which the elements of its variables lie
pub record LaidOut : Type 0 where
  pub header : Header
  pub len : ℕ

-- the variable of this number is this one
abbrev pub IsVar : LaidOut → ℕ → NcVar → Type 0
IsVar laid number var = slice_get laid.header.vars number ≡ Some var

-- the variable of this number has an element of this index list
abbrev pub HasElement : LaidOut → ℕ → List ℕ → Type 0
HasElement laid number index =
    IsSomeAnd (slice_get laid.header.vars number) (λ var. IsIndex (shape_of laid.header var) index)

-- the variable of this number has a dimension at this index of its shape
abbrev pub HasDim : LaidOut → ℕ → ℕ → Type 0
HasDim laid number dim = IsSomeAnd (slice_get laid.header.vars number) (λ var. dim < length var.dims)

-- the number of parts in which a variable's elements lie one after another: one for each record, or one where it has
-- no records
abbrev pub part_count : Header → NcVar → ℕ
part_count header var = if is_record_var header var then header.numrecs else 1

-- the variable of this number has a part of this number
abbrev pub HasPart : LaidOut → ℕ → ℕ → Type 0
HasPart laid number k = IsSomeAnd (slice_get laid.header.vars number) (λ var. k < part_count laid.header var)

-- the offset in the file of the first byte of a part
abbrev pub part_begin : Header → NcVar → ℕ → ℕ
part_begin header var k = var.begin + k * record_size header
