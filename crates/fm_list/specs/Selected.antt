-- The files of a run, of a valid time, or of a name's code,
-- and what is asked of files before a valid time is looked for in them.
use Rattle.std.specs.Prelude.{◌≡◌, ◌≢◌, ◌≤◌, ◌++◌, All, AllPairs, Bool, List, filter, length, ℤ, true}
use Rattle.std.specs.List.{list_any}
use Rattle.std.specs.Ordering.{int_eq}
use Rattle.fm_model.specs.declared.limit.TheConstants.{MAX_TIMES}
use Rattle.fm_model.specs.declared.loaded.Loaded.{Loaded}
use Rattle.fm_model.specs.declared.op.Op.{Op}
use Rattle.fm_model.specs.declared.op.Op.TheVariants.{Put, Expire, Retract}
use Rattle.fm_model.specs.Cell.{has_time}
use Rattle.fm_model.specs.LoadTimes.{IsInstant}
use Rattle.fm_model.specs.Rising.{Rises}
use Rattle.fm_list.specs.declared.by.By.{By}
use Rattle.fm_list.specs.declared.by.By.TheVariants.{Run, Time, Name}
use Rattle.fm_list.specs.Change.{added, keeps}
use Rattle.fm_list.specs.Code.{code_of}

-- whether a file is of a run, has a valid time, or has a name of a code
unfoldable pub selects : By → ℤ → Loaded → Bool
selects Run run file = int_eq file.run run
selects Time valid file = has_time valid file
selects Name code file = int_eq (code_of file.name) code

-- the files of a run, those that have a valid time, or those of a name's code, in the list's order
unfoldable pub part : By → List Loaded → ℤ → List Loaded
part by files key = filter (selects by key) files

-- such files after an operation
unfoldable pub part_after : By → ℤ → Op → List Loaded → List Loaded
part_after by key op files = filter (keeps op) files ++ filter (selects by key) (added op)

-- rising instants are those by which a file is found
pub record IsFoundBy (by : By) (file : Loaded) (own : List ℤ) : Type 0 where
  pub rises : Rises own
  pub each : (key : ℤ) → list_any (λ other. int_eq other key) own ≡ selects by key file

-- rising instants are those by which the file is found that an operation adds
abbrev pub AreOwn : By → Op → List ℤ → Type 0
AreOwn by (Put file) own = IsFoundBy by file own
AreOwn by (Expire cutoff) own = Unit {0}
AreOwn by (Retract name) own = Unit {0}

-- a file has few times, each once, and all are instants of a collection
pub record HasSoundTimes (file : Loaded) : Type 0 where
  pub few : length file.times ≤ MAX_TIMES
  pub differ : AllPairs (λ (time other : ℤ). time ≢ other) file.times
  pub instants : All IsInstant file.times

-- each of some files has such times
abbrev pub AreSound : List Loaded → Type 0
AreSound files = All HasSoundTimes files

-- each of some files has a valid time
abbrev pub HaveTime : ℤ → List Loaded → Type 0
HaveTime valid files = All (λ (file : Loaded). has_time valid file ≡ true) files
