-- The last run that keeps a least offset, on a walk through valid times.
use Rattle.std.specs.Prelude.{◌≡◌, ◌++◌, All, List, [], ◌∷◌, Option, ℤ, false, map}
use Rattle.fm_model.specs.declared.loaded.Loaded.{Loaded}
use Rattle.fm_model.specs.Cell.{has_least_offset, runs_of}
use Rattle.fm_list.specs.declared.by.By.TheVariants.{Run, Time}
use Rattle.fm_list.specs.Selected.{part, AreSound}
use Rattle.fm_edition.specs.declared.maps.latest.Latest.{Latest}
use Rattle.fm_edition.specs.declared.maps.latest.RunFiles.{RunFiles}
use Rattle.fm_edition.specs.Indexes.{AreParts, Pages}

-- the first of some runs doesn't keep the least offset, where there is one
abbrev pub BeginLate : Option ℤ → ℤ → List ℤ → Type 0
BeginLate least valid [] = Unit {0}
BeginLate least valid (run ∷ runs) = has_least_offset least run valid ≡ false

-- a run, and its files
abbrev pub entry_of : RunFiles → ℤ × List Loaded
entry_of own = (own.run, own.files)

-- the files beside a run are those of some files that are of it
abbrev pub IsOfRun : List Loaded → RunFiles → Type 0
IsOfRun held own = part Run held own.run ≡ own.files

-- the runs alone
abbrev pub runs_beside : List RunFiles → List ℤ
runs_beside runs = map (λ (own : RunFiles). own.run) runs

-- some files have these runs, with the files of each
pub record AreRuns (held : List Loaded) (runs : List RunFiles) : Type 0 where
  pub are : runs_of held ≡ runs_beside runs
  pub own : All (IsOfRun held) runs
  pub sound : AreSound held

-- a run of some files, with its own files, and the later runs
pub record IsLatest (held : List Loaded) (latest : Latest) : Type 0 where
  pub before : List ℤ
  pub runs : runs_of held ≡ before ++ latest.run ∷ runs_beside latest.later.now
  pub own : part Run held latest.run ≡ latest.files
  pub rest : All (IsOfRun held) latest.later.now
  pub sound : AreSound held

-- what is a run of some files stays one of the same files
abbrev pub Stays : Latest → Latest → Type 0
Stays before after = (held : List Loaded) → IsLatest held before → IsLatest held after

-- the files by a valid time are among those that the run is of
abbrev pub IsPart : List Loaded → ℤ × List Loaded → Type 0
IsPart held entry = part Time held entry.0 ≡ entry.1

-- a walk leads to the rows of some valid times: its run, and the files by each of these times, are of the same files
pub record Leads (latest : Latest) (entries : List (ℤ × List Loaded)) : Type 0 where
  pub held : List Loaded
  pub is : IsLatest held latest
  pub parts : All (IsPart held) entries

-- the files by run and by valid time are of the same files
pub record AreOfOne (by_run by_time : Pages) : Type 0 where
  pub held : List Loaded
  pub runs : AreParts Run held by_run
  pub times : AreParts Time held by_time
  pub sound : AreSound held
