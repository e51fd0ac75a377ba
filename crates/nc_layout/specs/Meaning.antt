-- What a fault of a layout says of the header's variables.
use Rattle.std.specs.Prelude.{◌+◌, ◌⊎◌, ◌≡◌, ℕ, ◌^◌, ◌<◌, ◌≤◌, take, All, true, Some, slice_get}
use Rattle.nc_model.specs.declared.fault.LayoutFault.{LayoutFault}
use Rattle.nc_model.specs.declared.fault.LayoutFault.TheVariants.{TooLarge, DataOutside}
use Rattle.nc_model.specs.declared.header.Header.{Header}
use Rattle.nc_model.specs.declared.header.NcVar.{NcVar}
use Rattle.nc_model.specs.Layout.{vsize, has_elements, end_of}

-- the variable takes 2^40 bytes at most in one record, or in all where it has no records
abbrev pub IsSmall : Header → NcVar → Type 0
IsSmall header var = vsize header var ≤ 2 ^ 40

-- the last element of the variable, if it has one, ends within this length
abbrev pub EndsWithin : Header → ℕ → NcVar → Type 0
EndsWithin header len var = has_elements header var ≡ true → end_of header var ≤ len

-- the variable of this number takes too many bytes, and none before it does
pub record IsFirstTooLarge (header : Header) (number : ℕ) : Type 0 where
  pub var : NcVar
  pub numbered : slice_get header.vars number ≡ Some var
  pub large : 2 ^ 40 < vsize header var
  pub before : All (IsSmall header) (take number header.vars)

-- no variable takes too many bytes, the last element of the variable of this number ends here, past the length, and
-- that of none before it does
pub record IsFirstOutside (header : Header) (len number end : ℕ) : Type 0 where
  pub small : All (IsSmall header) header.vars
  pub var : NcVar
  pub numbered : slice_get header.vars number ≡ Some var
  pub some : has_elements header var ≡ true
  pub end_is : end ≡ end_of header var
  pub outside : len < end
  pub before : All (EndsWithin header len) (take number header.vars)

-- no variable takes too many bytes, and all elements lie within this length
pub record IsInside (header : Header) (len : ℕ) : Type 0 where
  pub small : All (IsSmall header) header.vars
  pub ends : All (EndsWithin header len) header.vars

-- what a fault says of a header and a length
abbrev pub Says : Header → ℕ → LayoutFault → Type 0
Says header len (TooLarge number) = IsFirstTooLarge header number
Says header len (DataOutside number end length) = IsFirstOutside header len number end × (length ≡ len)

-- `size` bytes at one of these offsets and `size` bytes at the other have none in common
abbrev pub AreApart : ℕ → ℕ → ℕ → Type 0
AreApart size offset other = (offset + size ≤ other) ⊎ (other + size ≤ offset)
