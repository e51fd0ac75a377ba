-- Which variables a prototype keeps, with the variable of the run's time at hand.
use Rattle.std.specs.Prelude.{false, ◌≡◌, Bool, Option, None, Some, MatchOption}
use Rattle.std.specs.Borrow.{Bor}
use Rattle.std.specs.Option.{option_map_or}
use Rattle.std.specs.Str.{bytes_eq}
use Rattle.nc_model.specs.declared.header.Header.{Header}
use Rattle.nc_model.specs.declared.header.NcVar.{NcVar}
use Rattle.fm_model.specs.Variable.{reference_of}

-- what was found is the variable of the run's time of a header, or nothing where it has none
abbrev pub IsReferenceOf : Header → Option (Bor NcVar) → Type 0
IsReferenceOf header found = MatchOption found (reference_of header ≡ None)
    (λ (r : Bor NcVar). reference_of header ≡ Some r.now)

-- whether the variable that was found, if one was, has the name of another
abbrev pub is_named_as : Option (Bor NcVar) → NcVar → Bool
is_named_as found var = option_map_or (λ (r : Bor NcVar). bytes_eq r.now.name var.name) found false
