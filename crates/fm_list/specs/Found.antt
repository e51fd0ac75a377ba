-- What a look-up finds in one file, and the least run of some files.
use Rattle.std.specs.Prelude.{ℕ, Bool, List, [], ◌∷◌, Option, Some, None, ℤ, int_lt, if◌then◌else◌}
use Rattle.fm_model.specs.declared.loaded.Loaded.{Loaded}
use Rattle.fm_model.specs.Cell.{has_cell, has_least_offset, index_of_time}

-- the index of a valid time in a file, where the file is of a run and has the time
unfoldable pub cell_in : ℤ → ℤ → Loaded → Option ℕ
cell_in run valid file = if has_cell run valid file then Some (index_of_time valid file) else None

-- whether a valid time lies at least the least offset after a file's run, where one is given
abbrev pub is_early : Option ℤ → ℤ → Loaded → Bool
is_early least valid file = has_least_offset least file.run valid

-- the lesser of a run and of one that came before it, where there is one
abbrev pub older : Option ℤ → ℤ → ℤ
older None run = run
older (Some before) run = if int_lt run before then run else before

-- the least run of some files and of one that came before them, where there is one
abbrev pub oldest_behind : Option ℤ → List Loaded → Option ℤ
oldest_behind before [] = before
oldest_behind before (file ∷ files) = oldest_behind (Some (older before file.run)) files
