-- The instants by which one file is found, and the valid times of a run.
use Rattle.std.specs.Prelude.{List, [], ◌∷◌, filter, ℤ}
use Rattle.std.specs.List.{flat_map}
use Rattle.std.specs.Ordering.{int_eq}
use Rattle.fm_model.specs.declared.loaded.Loaded.{Loaded}
use Rattle.fm_list.specs.declared.by.By.{By}
use Rattle.fm_list.specs.declared.by.By.TheVariants.{Run, Time, Name}
use Rattle.fm_list.specs.Code.{code_of}

-- the run of a file, its valid times, or the code of its name
abbrev pub instants_of : By → Loaded → List ℤ
instants_of Run file = file.run ∷ []
instants_of Time file = file.times
instants_of Name file = code_of file.name ∷ []

-- the valid times of those files that are of a run, file after file
abbrev pub run_times : ℤ → List Loaded → List ℤ
run_times run files = flat_map (λ (f : Loaded). f.times) (filter (λ (f : Loaded). int_eq f.run run) files)
