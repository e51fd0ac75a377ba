-- What the search for a name looks for, in the words of the definition of a prototype.
use Rattle.std.specs.Prelude.{ℕ, List, find, not, Option}
use Rattle.nc_model.specs.declared.header.Dim.{Dim}
use Rattle.nc_model.specs.declared.header.NcVar.{NcVar}
use Rattle.fm_model.specs.Prototype.{is_plain_name}

-- the name of a dimension, and of a variable
abbrev pub dim_name : Dim → List ℕ
dim_name dim = dim.name

abbrev pub var_name : NcVar → List ℕ
var_name var = var.name

-- the first of some names with another byte than letters, digits, `_` and `-`
abbrev pub first_bad_name : List (List ℕ) → Option (List ℕ)
first_bad_name names = find (λ name. not (is_plain_name name)) names
