-- A part of a dataset that is found once, so that no value of it has to be searched for.
use Rattle.std.specs.Prelude.{◌≡◌, ℕ, ◌<◌, length, slice_get, Bool}
use Rattle.fm_dataset.specs.Kept.{slot_number}
use Rattle.fm_dataset.specs.Values.{is_stored, var_of_part, Shown}

-- a part of a dataset, by the number of its declaration and its number in it
pub record PartOf : Type 0 where
  pub shown : Shown
  pub decl : ℕ
  pub part : ℕ

-- the number of the variable whose values a part has, one past the last where it has none, the number of the variable's
-- slot, and whether the part's numbers stand in files or in the prototype
pub record IsFound (shown : Shown) (decl part number slot : ℕ) (stored : Bool) : Type 0 where
  pub number_is : slice_get shown.proto.vars number ≡ var_of_part shown.proto decl part
  pub slot_is : number < length shown.proto.vars → slot ≡ slot_number shown.proto number
  pub stored_is : stored ≡ is_stored shown decl part
