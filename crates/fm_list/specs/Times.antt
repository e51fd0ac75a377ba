-- Times in rising order, and times that lie evenly apart.
use Rattle.std.specs.Prelude.{◌≡◌, ℕ, ◌*◌, ◌<◌, Bool, true, ◌&&◌, List, [], ◌∷◌, length, slice_get, Some, ℤ, pos, ◌+ℤ◌, int_lt}
use Rattle.fm_model.specs.Rising.{Rises}
use Rattle.fm_list.specs.declared.spacing.Spacing.{Spacing}
use Rattle.fm_list.specs.declared.spacing.Spacing.TheVariants.{Even, Rising, Unknown}

-- whether each time is later than the one before it, and the first later than this
abbrev pub rise_from : ℤ → List ℤ → Bool
rise_from last [] = true
rise_from last (time ∷ times) = int_lt last time && rise_from time times

-- the time at each index lies that many steps after the first
abbrev pub LieApart : ℕ → ℤ → List ℤ → Type 0
LieApart step first times = (index : ℕ) → index < length times
    → slice_get times index ≡ Some (first +ℤ pos (index * step))

-- times are this many, and lie evenly apart
pub record AreEven (count step : ℕ) (first : ℤ) (times : List ℤ) : Type 0 where
  pub forward : 0 < step
  pub many : length times ≡ count
  pub apart : LieApart step first times

-- what a spacing says of times
abbrev pub Describes : Spacing → List ℤ → Type 0
Describes (Even count step first) times = AreEven count step first times
Describes Rising times = Rises times
Describes Unknown times = Unit {0}
