-- Variables by their names.
use Rattle.std.specs.Prelude.{ℕ, List, Bool}
use Rattle.std.specs.Str.{bytes_eq}
use Rattle.nc_model.specs.declared.header.NcVar.{NcVar}

-- whether a variable has this name
abbrev pub has_name : List ℕ → NcVar → Bool
has_name name var = bytes_eq var.name name
