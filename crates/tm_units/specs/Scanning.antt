-- What scanning a part of a text has to return.
use Rattle.std.specs.Prelude.{◌≡◌, Result, Ok, Err}
use Rattle.fm_base.specs.Input.{Input}
use Rattle.nc_model.specs.UnitsReading.{UnitsOutcome as Outcome}
use Rattle.tm_units.specs.declared.scanner.BadOffset.{BadOffset}

-- what was returned, and where the scanner is, are those of the definition
abbrev pub Reads : {X Y : Type 0} → (X → Y) → Outcome Y → Result X BadOffset → Input → Type 0
Reads view outcome (Ok x) new = outcome ≡ Ok (view x, new)
Reads view outcome (Err bad) new = outcome ≡ Err bad.at
