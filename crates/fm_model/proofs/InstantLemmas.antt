-- The runs and the valid times of files: which they are, and that they rise.
use Rattle.std.proofs.Common.{◌≡◌, ◌↔◌, true, false, List, map, Option, Some, None, ℤ, refl, subst}
use Rattle.std.specs.Prelude.{Any, Contains, IsSome, filter}
use Rattle.std.specs.List.{flat_map}
use Rattle.std.specs.Ordering.{int_eq}
use Rattle.std.specs.Cmp.{signed_Decides}
use Rattle.std.proofs.lemmas.Bool.{false≢true}
use Rattle.fm_model.specs.declared.loaded.Loaded.{Loaded}
use Rattle.fm_model.specs.Cell.{runs_of, times_of, times_of_run, HasCell}
use Rattle.fm_model.specs.Rising.{rising, Rises}
use Rattle.fm_model.proofs.Members.{In, EachPair, Contains-from_in, in_from_Contains, In-map, in_map, In-flat_map, in_flat_map, In-filter, in_filter, AllPairs-from_each, Any-from_in, in_from_Any}
use Rattle.fm_model.proofs.RisingLemmas.{Above, in_rising, In-rising, rises_rising, Rises-rising, Rises-members}

-- the value that is there
pub value-from_some : {A : Type 0} (o : Option A) → IsSome o → (x : A) × (o ≡ Some x)
value-from_some None h = absurd (false≢true h)
value-from_some (Some x) h = (x, refl)

-- a file's run is among the runs of all
pub In-runs_of : (files : List Loaded) (file : Loaded) → In file files → In file.run (runs_of files)
unfolding runs_of
In-runs_of files file held = In-rising file.run (map (λ (f : Loaded). f.run) files)
    (In-map (λ (f : Loaded). f.run) file files held)

-- a time of a file is among the times of all
pub In-times_of : (files : List Loaded) (file : Loaded) (valid : ℤ) → In file files → In valid file.times
    → In valid (times_of files)
unfolding times_of
In-times_of files file valid held time = In-rising valid _
    (In-flat_map (λ (f : Loaded). f.times) valid file files held time)

-- a time of some files is that of one of them
pub in_times_of : (files : List Loaded) (valid : ℤ) → In valid (times_of files)
    → (file : Loaded) × In file files × In valid file.times
unfolding times_of
in_times_of files valid h = in_flat_map (λ (f : Loaded). f.times) valid files (in_rising valid _ h)

-- the runs of some files rise
pub rises_runs_of : (files : List Loaded) → EachPair Above (runs_of files)
unfolding runs_of
rises_runs_of files = rises_rising (map (λ (f : Loaded). f.run) files)

-- the times of some files rise
pub rises_times_of : (files : List Loaded) → EachPair Above (times_of files)
unfolding times_of
rises_times_of files = rises_rising _

-- the valid times of a run's files
pub rises_times_of_run : (files : List Loaded) (run : ℤ) → EachPair Above (times_of_run files run)
unfolding times_of_run
rises_times_of_run files run = rises_times_of (filter (λ (f : Loaded). int_eq f.run run) files)

pub Rises-times_of_run : (files : List Loaded) (run : ℤ) → Rises (times_of_run files run)
Rises-times_of_run files run = AllPairs-from_each Above (times_of_run files run) (rises_times_of_run files run)

pub Rises-runs_of : (files : List Loaded) → Rises (runs_of files)
Rises-runs_of files = AllPairs-from_each Above (runs_of files) (rises_runs_of files)

pub Contains-runs_of : (files : List Loaded) (run : ℤ)
    → Contains (runs_of files) run ↔ Any (λ (file : Loaded). file.run ≡ run) files
unfolding runs_of
Contains-runs_of files run = (
  λ c.
      let found = in_map (λ (f : Loaded). f.run) run files (in_rising run _ (in_from_Contains run (runs_of files) c)) in
      Any-from_in (λ (file : Loaded). file.run ≡ run) found.0 files found.1 found.2,
  λ any.
      let found = in_from_Any (λ (file : Loaded). file.run ≡ run) files any in
      Contains-from_in run (runs_of files)
      (subst (λ r. In r (runs_of files)) found.2 (In-runs_of files found.0 found.1)),
)

pub In-times_of_run : (files : List Loaded) (run valid : ℤ) (file : Loaded) → In file files → HasCell run valid file
    → In valid (times_of_run files run)
unfolding times_of_run
In-times_of_run files run valid file held has = In-times_of (filter (λ (f : Loaded). int_eq f.run run) files) file valid
    (In-filter (λ (f : Loaded). int_eq f.run run) file files held ((signed_Decides file.run run).1 has.run_is))
    (in_from_Contains valid file.times has.time)

pub in_times_of_run : (files : List Loaded) (run valid : ℤ) → In valid (times_of_run files run)
    → (file : Loaded) × In file files × HasCell run valid file
unfolding times_of_run
in_times_of_run files run valid h =
    let found = in_times_of (filter (λ (f : Loaded). int_eq f.run run) files) valid h in
    let kept = in_filter (λ (f : Loaded). int_eq f.run run) found.0 files found.1 in (
      found.0,
      kept.0,
      record {
        run_is = (signed_Decides found.0.run run).0 kept.1;
        time = Contains-from_in valid found.0.times found.2;
      },
    )

pub Contains-times_of_run : (files : List Loaded) (run valid : ℤ)
    → Contains (times_of_run files run) valid ↔ Any (HasCell run valid) files
Contains-times_of_run files run valid = (
  λ c.
      let found = in_times_of_run files run valid (in_from_Contains valid (times_of_run files run) c) in
      Any-from_in (HasCell run valid) found.0 files found.1 found.2,
  λ any.
      let found = in_from_Any (HasCell run valid) files any in
      Contains-from_in valid (times_of_run files run) (In-times_of_run files run valid found.0 found.1 found.2),
)

-- the valid times of all files are those of their runs
pub times_of-runs : (files : List Loaded) → times_of files ≡ rising (flat_map (times_of_run files) (runs_of files))
times_of-runs files = Rises-members (times_of files) (rising (flat_map (times_of_run files) (runs_of files)))
    (AllPairs-from_each Above (times_of files) (rises_times_of files))
    (Rises-rising (flat_map (times_of_run files) (runs_of files)))
    (λ valid. (
      λ c.
          let found = in_times_of files valid (in_from_Contains valid (times_of files) c) in
          let own : In valid (times_of_run files found.0.run) = In-times_of_run files found.0.run valid found.0 found.1
          (record { run_is = refl; time = Contains-from_in valid found.0.times found.2 }) in
          Contains-from_in valid _ (In-rising valid (flat_map (times_of_run files) (runs_of files))
          (In-flat_map (times_of_run files) valid found.0.run (runs_of files) (In-runs_of files found.0 found.1) own)),
      λ c.
          let run = in_flat_map (times_of_run files) valid (runs_of files)
          (in_rising valid _ (in_from_Contains valid _ c)) in
          let found = in_times_of_run files run.0 valid run.2 in
          Contains-from_in valid (times_of files)
          (In-times_of files found.0 valid found.1 (in_from_Contains valid found.0.times found.2.time)),
    ))
