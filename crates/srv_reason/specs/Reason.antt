-- The reasons why files are refused, in words for a person, each in five parts that are read one after the other.
use Rattle.std.specs.Prelude.{ℕ, List, [], ◌∷◌, codes}
use Rattle.std.specs.Fmt.{decimal, signed_decimal}
use Rattle.nc_model.specs.declared.fault.HeaderFault.{HeaderFault}
use Rattle.nc_model.specs.declared.fault.HeaderFault.TheVariants as header
use Rattle.nc_model.specs.declared.fault.LayoutFault.{LayoutFault}
use Rattle.nc_model.specs.declared.fault.LayoutFault.TheVariants as layout
use Rattle.nc_model.specs.declared.units.UnitsFault.{UnitsFault}
use Rattle.nc_model.specs.declared.units.UnitsFault.TheVariants as units
use Rattle.fm_model.specs.declared.loaded.LoadFault.{LoadFault}
use Rattle.fm_model.specs.declared.loaded.LoadFault.TheVariants as load
use Rattle.srv_reason.specs.declared.reason.Part.{Part}
use Rattle.srv_reason.specs.declared.reason.Part.TheVariants.{Nothing, Name, Number, Signed}
use Rattle.srv_reason.specs.declared.reason.Reason.{Reason}

-- the text of a part
abbrev pub part_text : Part → List ℕ
part_text Nothing = []
part_text (Name name) = name.now
part_text (Number n) = decimal n
part_text (Signed n) = signed_decimal n

-- a text alone
abbrev pub plain : List ℕ → List (List ℕ)
plain text = text ∷ [] ∷ [] ∷ [] ∷ [] ∷ []

-- a part between two texts
abbrev pub about : List ℕ → List ℕ → List ℕ → List (List ℕ)
about before part after = before ∷ part ∷ after ∷ [] ∷ [] ∷ []

-- the five parts of a reason
abbrev pub parts_of : Reason → List (List ℕ)
parts_of reason = reason.before.now ∷ part_text reason.first ∷ reason.between.now ∷ part_text reason.second
    ∷ reason.after.now ∷ []

-- what is wrong with a header, and at which byte
unfoldable pub header_reason : HeaderFault → List (List ℕ)
header_reason header.BadMagic = plain (codes "not netCDF classic")
header_reason (header.BadVersion version) = about (codes "version ") (decimal version) (codes " and not 1 or 2")
header_reason (header.Truncated at) = about (codes "cut in the header, at byte ") (decimal at) []
header_reason (header.BadTag at) = about (codes "bad tag at byte ") (decimal at) []
header_reason (header.BadCount at) = about (codes "bad count at byte ") (decimal at) []
header_reason (header.BadName at) = about (codes "bad name at byte ") (decimal at) []
header_reason (header.BadType at) = about (codes "bad type at byte ") (decimal at) []
header_reason (header.BadDimId at) = about (codes "no such dimension at byte ") (decimal at) []
header_reason (header.TwoRecordDims at) = about (codes "second record dimension at byte ") (decimal at) []
header_reason (header.RecordNotFirst at) = about (codes "record dimension behind another at byte ") (decimal at) []
header_reason (header.RepeatedName at) = about (codes "repeated name at byte ") (decimal at) []
header_reason header.Streaming = plain (codes "number of records not known yet")

-- what is wrong with where data lies
unfoldable pub layout_reason : LayoutFault → List (List ℕ)
layout_reason (layout.TooLarge var) = about (codes "variable ") (decimal var) (codes " is over 2^40 bytes")
layout_reason (layout.DataOutside var end len) = codes "variable " ∷ decimal var ∷ codes " ends at byte " ∷ decimal end
    ∷ codes ", past the end" ∷ []

-- what is wrong with units of time
unfoldable pub units_reason : UnitsFault → List (List ℕ)
units_reason (units.BadUnits at) = about (codes "bad units at character ") (decimal at) []
units_reason units.Calendar = plain (codes "calendar not Gregorian")
units_reason units.MixedCalendar = plain (codes "units of the mixed calendar begin before 1582-10-15")

-- what is wrong with a file: what differs, with its names and numbers
unfoldable pub reason_of : LoadFault → List (List ℕ)
reason_of (load.Header fault) = header_reason fault
reason_of (load.Layout fault) = layout_reason fault
reason_of (load.Units fault) = units_reason fault
reason_of load.NoRunTime = plain (codes "no run time")
reason_of (load.NotWhole k) = about (codes "time ") (decimal k) (codes " not in whole seconds")
reason_of (load.TimeRange k seconds) = codes "time " ∷ decimal k ∷ codes " out of range, at " ∷ signed_decimal seconds
    ∷ codes " seconds from the epoch" ∷ []
reason_of (load.TimeRepeated k) = about (codes "time ") (decimal k) (codes " repeated")
reason_of (load.MissingVariable name) = about (codes "variable ") name (codes " missing")
reason_of (load.VariableDiffers name) =
    about (codes "variable ") name (codes " differs in kind, lengths or dimensions")
reason_of (load.GridDiffers name byte proto_byte file_byte) =
    codes "grid of " ∷ name ∷ codes " differs at byte " ∷ decimal byte ∷ [] ∷ []
reason_of load.NoTimes = plain (codes "no times")
reason_of (load.TooManyTimes n) = about (codes "") (decimal n) (codes " times")
reason_of load.RunNotWhole = plain (codes "run time not in whole seconds")
reason_of (load.RunRange seconds) =
    about (codes "run time out of range, at ") (signed_decimal seconds) (codes " seconds from the epoch")
reason_of (load.AttributeDiffers name attribute) =
    codes "attribute " ∷ attribute ∷ codes " of " ∷ name ∷ codes " differs" ∷ []
