-- A set of names beside a list of them.
use Rattle.std.specs.Prelude.{◌≡◌, ℕ, List, Bool}
use Rattle.std.specs.BTreeSet.{BTreeSet, contains_by}
use Rattle.std.specs.Cmp.Lexicographic.{slice_cmp}
use Rattle.std.specs.Ordering.{nat_cmp}
use Rattle.std.specs.Borrow.{Bor}
use Rattle.nc_model.specs.Format.{has_name}

-- whether the name is in the set
abbrev pub holds_name : BTreeSet (Bor (List ℕ)) → List ℕ → Bool
holds_name set name = contains_by (λ key. slice_cmp nat_cmp name key.now) set

-- the set has a name exactly where the list has it
abbrev pub HoldsNames : BTreeSet (Bor (List ℕ)) → List (List ℕ) → Type 0
HoldsNames set names = (name : List ℕ) → holds_name set name ≡ has_name names name
