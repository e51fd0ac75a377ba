-- Which file stands for a run and a valid time, and which run is the best for a valid time (THREDDS Data Server,
-- Forecast Model Run Collections, best time series, also with a least offset).
use Rattle.std.specs.Prelude.{◌≡◌, ◌<◌, ◌++◌, ◌≤ℤ◌, ◌-ℤ◌, int_le, true, IfSome, filter, slice_get, All, Any, Contains, ℕ, List, [], ◌∷◌, map, Bool, ◌&&◌, Option, Some, None, is_some, ℤ, if◌then◌else◌}
use Rattle.std.specs.List.{flat_map, list_any, position_or_len}
use Rattle.std.specs.Option.{option_map, option_map_or, option_or}
use Rattle.std.specs.Ordering.{int_eq}
use Rattle.fm_model.specs.declared.loaded.Loaded.{Loaded}
use Rattle.fm_model.specs.Rising.{rising}

-- the last item that passes
abbrev pub last_such : {A : Type 0} → (A → Bool) → List A → Option A
last_such test [] = None
last_such test (item ∷ items) = option_or (last_such test items) (if test item then Some item else None)

-- the runs of some files, each once, rising
unfoldable pub runs_of : List Loaded → List ℤ
runs_of files = rising (map (λ (f : Loaded). f.run) files)

-- the valid times of some files, each once, rising
unfoldable pub times_of : List Loaded → List ℤ
times_of files = rising (flat_map (λ (f : Loaded). f.times) files)

-- the valid times of a run's files, each once, rising
unfoldable pub times_of_run : List Loaded → ℤ → List ℤ
times_of_run files run = times_of (filter (λ (f : Loaded). int_eq f.run run) files)

-- whether a file has a valid time
unfoldable pub has_time : ℤ → Loaded → Bool
has_time valid file = list_any (λ time. int_eq time valid) file.times

-- whether a file is of a run and has a valid time
unfoldable pub has_cell : ℤ → ℤ → Loaded → Bool
has_cell run valid file = int_eq file.run run && has_time valid file

-- the index of a valid time among a file's times
unfoldable pub index_of_time : ℤ → Loaded → ℕ
index_of_time valid file = position_or_len (λ time. int_eq time valid) file.times

-- the cell of a run and a valid time: the last file of that run with that time, and the time's index in it
unfoldable pub cell : List Loaded → ℤ → ℤ → Option (Loaded × ℕ)
cell files run valid = option_map (λ file. (file, index_of_time valid file)) (last_such (has_cell run valid) files)

-- whether a valid time lies at least the least offset after a run, where one is given
unfoldable pub has_least_offset : Option ℤ → ℤ → ℤ → Bool
has_least_offset least run valid = option_map_or (λ seconds. int_le seconds (valid -ℤ run)) least true

-- whether a run may show a valid time in a best time series: it has a cell there, at least the least offset after it
unfoldable pub is_usable : List Loaded → ℤ → Option ℤ → ℤ → Bool
is_usable files valid least run = is_some (cell files run valid) && has_least_offset least run valid

-- the best run for a valid time: the greatest that has a cell there and, where a least offset is given, lies at least
-- that many seconds before the valid time
unfoldable pub best : List Loaded → ℤ → Option ℤ → Option ℤ
best files valid least = last_such (is_usable files valid least) (runs_of files)

-- a file is of a run and has a valid time
pub record HasCell (run valid : ℤ) (file : Loaded) : Type 0 where
  pub run_is : file.run ≡ run
  pub time : Contains file.times valid

-- A file and an index are the cell of a run and a valid time: the file is of the run and has the time at that index and
-- at none before it, and no file after it is of the run and has the time.
pub record IsCell (files : List Loaded) (run valid : ℤ) (file : Loaded) (index : ℕ) : Type 0 where
  pub before : List Loaded
  pub after : List Loaded
  pub split : files ≡ before ++ file ∷ after
  pub run_is : file.run ≡ run
  pub time_is : slice_get file.times index ≡ Some valid
  pub first : (k : ℕ) → k < index → slice_get file.times k ≡ Some valid → ⊥
  pub last : All (λ other. ¬ HasCell run valid other) after

-- a valid time lies at least the least offset after a run, where one is given
abbrev pub HasLeastOffset : Option ℤ → ℤ → ℤ → Type 0
HasLeastOffset least run valid = IfSome least (λ seconds. seconds ≤ℤ (valid -ℤ run))

-- a file has a valid time, at least the least offset after its run
abbrev pub HasTimeFrom : ℤ → Option ℤ → Loaded → Type 0
HasTimeFrom valid least file = Contains file.times valid × HasLeastOffset least file.run valid

-- some file of a run has a valid time, which lies at least the least offset after the run, and no greater run is so
pub record IsBest (files : List Loaded) (valid : ℤ) (least : Option ℤ) (run : ℤ) : Type 0 where
  pub has : Any (HasCell run valid) files
  pub late : HasLeastOffset least run valid
  pub greatest : (other : ℤ) → Any (HasCell other valid) files → HasLeastOffset least other valid → other ≤ℤ run
