-- The run and the valid times of a file (CF Conventions, time coordinate; THREDDS Data Server, run time of a file).
use Rattle.std.specs.Prelude.{◌≤ℤ◌, ℕ, zero, suc, List, [], ◌∷◌, ◌++◌, codes, length, map, Bool, not, ◌&&◌, ◌==◌, nat_lt, Option, Some, None, option_and_then, unwrap_or, Result, Ok, ℤ, ◌+ℤ◌, ◌-ℤ◌, neg_ℤ, int_le}
use Rattle.std.specs.List.{list_any}
use Rattle.std.specs.Option.{ok_or}
use Rattle.std.specs.Ordering.{int_eq}
use Rattle.nc_model.specs.declared.header.Header.{Header as FileHeader}
use Rattle.nc_model.specs.declared.header.NcVar.{NcVar}
use Rattle.nc_model.specs.declared.units.Units.{Units as TimeUnits}
use Rattle.nc_model.specs.Layout.{size_at, shape_of, product, element}
use Rattle.nc_model.specs.Pattern.{pattern_of_bytes, whole_seconds_of}
use Rattle.nc_model.specs.Stamp.{mark_of}
use Rattle.nc_model.specs.Units.{units_of}
use Rattle.fm_model.specs.declared.limit.TheConstants.{MAX_INSTANT, MAX_TIMES}
use Rattle.fm_model.specs.declared.loaded.LoadFault.{LoadFault}
use Rattle.fm_model.specs.declared.loaded.LoadFault.TheVariants.{Units, NoRunTime, NotWhole, TimeRange, TimeRepeated, NoTimes, TooManyTimes, RunNotWhole, RunRange}
use Rattle.fm_model.specs.declared.site.Site.{Site}
use Rattle.fm_model.specs.Attribute.{is_char, text_of}
use Rattle.fm_base.specs.Chain.{◌>>=◌, ◌>>◌, refuse_if, fault_as}
use Rattle.fm_model.specs.Variable.{dim_of_axis, reference_of}

-- the units of a variable of times, by its `units` and `calendar`; without `units` it has the empty text there
unfoldable pub file_units : NcVar → Result TimeUnits LoadFault
file_units var = fault_as Units
    (units_of (unwrap_or (text_of var.attrs (codes "units")) []) (text_of var.attrs (codes "calendar")))

-- the whole seconds of an element, where it is a number and they are whole
unfoldable pub seconds_at : List ℕ → FileHeader → NcVar → TimeUnits → List ℕ → Option ℤ
seconds_at bytes header var units index = option_and_then (λ pattern. whole_seconds_of pattern units.per)
    (pattern_of_bytes var.kind (element bytes header var index))

-- the instant n seconds after the origin of units, in seconds from the collection's epoch
abbrev pub from_epoch : Site → TimeUnits → ℤ → ℤ
from_epoch site units seconds = seconds +ℤ units.origin -ℤ site.epoch

-- whether an instant, in seconds from the epoch, is one that a collection may have
unfoldable pub is_instant : ℤ → Bool
is_instant seconds = int_le (neg_ℤ MAX_INSTANT) seconds && int_le seconds MAX_INSTANT

-- a run that is an instant
unfoldable pub run_in_range : ℤ → Result ℤ LoadFault
run_in_range seconds = do
  refuse_if (not (is_instant seconds)) (RunRange seconds)
  Ok seconds

-- whether a variable is one number
unfoldable pub is_one_number : FileHeader → NcVar → Bool
is_one_number header var = not (is_char var.kind) && product (shape_of header var) == 1

-- the run by the variable of the run's time: its only element
unfoldable pub run_by_variable : Site → List ℕ → FileHeader → NcVar → Result ℤ LoadFault
run_by_variable site bytes header var = do
  refuse_if (not (is_one_number header var)) NoRunTime
  units ← file_units var
  seconds ← ok_or (seconds_at bytes header var units (map (λ id. 0) var.dims)) RunNotWhole
  run_in_range (from_epoch site units seconds)

-- the run by the mark in the file's name
unfoldable pub run_by_name : Site → List ℕ → Result ℤ LoadFault
run_by_name site name = do
  moment ← ok_or (mark_of name site.mark) NoRunTime
  run_in_range (moment -ℤ site.epoch)

-- the run by the variable of the run's time where there is one, else by the name
abbrev pub run_by : Site → List ℕ → List ℕ → FileHeader → Option NcVar → Result ℤ LoadFault
run_by site name bytes header (Some var) = run_by_variable site bytes header var
run_by site name bytes header None = run_by_name site name

-- the run of a file
unfoldable pub file_run : Site → List ℕ → List ℕ → FileHeader → Result ℤ LoadFault
file_run site name bytes header = run_by site name bytes header (reference_of header)

-- the length of an axis
abbrev pub length_of_axis : FileHeader → NcVar → ℕ
length_of_axis header axis = size_at header (dim_of_axis axis)

-- the number of times: at least one, and not too many
unfoldable pub time_count : FileHeader → NcVar → Result ℕ LoadFault
time_count header axis = do
  refuse_if (length_of_axis header axis == 0) NoTimes
  refuse_if (nat_lt MAX_TIMES (length_of_axis header axis)) (TooManyTimes (length_of_axis header axis))
  Ok (length_of_axis header axis)

-- the time at index k, which has to be an instant
unfoldable pub time_in_range : ℕ → ℤ → Result ℤ LoadFault
time_in_range k seconds = do
  refuse_if (not (is_instant seconds)) (TimeRange k seconds)
  Ok seconds

-- the time at index k
unfoldable pub time_at : Site → List ℕ → FileHeader → NcVar → TimeUnits → ℕ → Result ℤ LoadFault
time_at site bytes header axis units k = do
  seconds ← ok_or (seconds_at bytes header axis units (k ∷ [])) (NotWhole k)
  time_in_range k (from_epoch site units seconds)

-- n more times after those that were found, each by its index, and each unlike those before it
unfoldable pub times_from : (ℕ → Result ℤ LoadFault) → ℕ → List ℤ → Result (List ℤ) LoadFault
times_from time zero found = Ok found
times_from time (suc n) found = do
  instant ← time (length found)
  refuse_if (list_any (λ earlier. int_eq earlier instant) found) (TimeRepeated (length found))
  times_from time n (found ++ instant ∷ [])

-- the valid times of a file, in its order
unfoldable pub file_times : Site → List ℕ → FileHeader → NcVar → TimeUnits → ℕ → Result (List ℤ) LoadFault
file_times site bytes header axis units count = times_from (time_at site bytes header axis units) count []

-- seconds from the epoch that are an instant of a collection
pub record IsInstant (seconds : ℤ) : Type 0 where
  pub low : neg_ℤ MAX_INSTANT ≤ℤ seconds
  pub high : seconds ≤ℤ MAX_INSTANT
