-- The best run for a valid time.
use Rattle.std.proofs.Common.{◌≡◌, ◌↔◌, true, false, List, [], ◌∷◌, ◌++◌, Option, Some, None, ℤ, ◌≤ℤ◌, ◌<ℤ◌, ◌-ℤ◌, refl, sym, ap, subst, ◌∙◌, inl, inr, arith}
use Rattle.std.specs.Prelude.{All, Any, Contains, IsSome, is_some}
use Rattle.std.proofs.lemmas.Bool.{and_parts, and_from, both_ways}
use Rattle.std.proofs.lemmas.Int.{ints}
use Rattle.fm_model.specs.declared.loaded.Loaded.{Loaded}
use Rattle.fm_model.specs.Cell.{runs_of, times_of, times_of_run, cell, has_least_offset, is_usable, best, HasLeastOffset, HasTimeFrom, IsBest, HasCell}
use Rattle.fm_model.specs.Rising.{rising}
use Rattle.fm_model.proofs.CellLemmas.{IsCell-from_cell, held-from_cell, cell-from_file, in_from_slice_get}
use Rattle.fm_model.proofs.LastLemmas.{IsLast, is_last, none_passes}
use Rattle.fm_model.proofs.Members.{In, EachPair, Contains-from_in, in_from_Contains, In-append_right, In-append_cases, Each-in, Each-from_in, Each-weaker, All-from_each, each_from_All, Any-from_in, in_from_Any}
use Rattle.fm_model.proofs.RisingLemmas.{Above}
pub use Rattle.fm_model.proofs.InstantLemmas.{value-from_some, In-runs_of, In-times_of, rises_runs_of, In-times_of_run, in_times_of, rises_times_of, in_times_of_run}

-- a file that stands for a run and a valid time
pub cell_file : (files : List Loaded) (run valid : ℤ) → IsSome (cell files run valid)
    → (file : Loaded) × In file files × (file.run ≡ run) × In valid file.times
cell_file files run valid h =
    let found = value-from_some (cell files run valid) h in
    let c = IsCell-from_cell files run valid found.0.0 found.0.1 found.1 in (
      found.0.0,
      held-from_cell files run valid found.0.0 found.0.1 c,
      c.run_is,
      in_from_slice_get found.0.0.times found.0.1 valid c.time_is,
    )

-- a run with a cell has the time among its own
pub time_of_run_of_cell : (files : List Loaded) (run valid : ℤ) → IsSome (cell files run valid)
    → In valid (times_of_run files run)
time_of_run_of_cell files run valid h =
    let found = cell_file files run valid h in
    In-times_of_run files run valid found.0 found.1
    (record { run_is = found.2; time = Contains-from_in valid found.0.times found.3 })

-- a cell is there exactly where some file of the run has the time
pub Any-from_cell : (files : List Loaded) (run valid : ℤ) → IsSome (cell files run valid)
    → Any (HasCell run valid) files
Any-from_cell files run valid h =
    let found = cell_file files run valid h in
    Any-from_in (HasCell run valid) found.0 files found.1
    (record { run_is = found.2; time = Contains-from_in valid found.0.times found.3 })

-- there is a cell where some file has one
pub cell-from_Any : (files : List Loaded) (run valid : ℤ) → Any (HasCell run valid) files
    → IsSome (cell files run valid)
cell-from_Any files run valid any = let found = in_from_Any
    (HasCell run valid) files any in cell-from_file files run valid found.0 found.1 found.2

-- a run with a cell is among the runs, and a valid time with a cell among the times
pub run_of_cell : (files : List Loaded) (run valid : ℤ) → IsSome (cell files run valid) → In run (runs_of files)
run_of_cell files run valid h = let found = cell_file files run valid h in subst (λ r. In r (runs_of files)) found.2
    (In-runs_of files found.0 found.1)

pub time_of_cell : (files : List Loaded) (run valid : ℤ) → IsSome (cell files run valid) → In valid (times_of files)
time_of_cell files run valid h =
    let found = cell_file files run valid h in In-times_of files found.0 valid found.1 found.3

-- what stands before an instant of a rising list lies before it
below_later : (before : List ℤ) (instant : ℤ) (after : List ℤ) (earlier : ℤ)
    → EachPair Above (before ++ instant ∷ after) → In earlier before → earlier <ℤ instant
below_later [] instant after earlier rises h = absurd h
below_later (first ∷ before) instant after earlier rises (inl same) = subst (λ e. e <ℤ instant) same
    (Each-in (Above first) instant (before ++ instant ∷ after) rises.0
    (In-append_right instant before (instant ∷ after) (inl refl)))
below_later (first ∷ before) instant after earlier rises
    (inr later) = below_later before instant after earlier rises.1 later

at_most : (a b : ℤ) → a ≡ b → a ≤ℤ b
at_most a b e = omega (arith, ints)

-- the test of a least offset
pub offset_test : (least : Option ℤ) (run valid : ℤ) → HasLeastOffset least run valid
    → has_least_offset least run valid ≡ true
unfolding has_least_offset
offset_test None run valid late = refl
offset_test (Some least) run valid late = grind (arith, ints)

-- an offset that passes the test is not below the least one
pub offset_from_test : (least : Option ℤ) (run valid : ℤ) → has_least_offset least run valid ≡ true
    → HasLeastOffset least run valid
unfolding has_least_offset
offset_from_test None run valid e = tt
offset_from_test (Some least) run valid e = grind (arith, ints)

usable_parts : (files : List Loaded) (valid : ℤ) (least : Option ℤ) (run : ℤ) → is_usable files valid least run ≡ true
    → IsSome (cell files run valid) × HasLeastOffset least run valid
unfolding is_usable
usable_parts files valid least run e =
    let parts = and_parts (is_some (cell files run valid)) (has_least_offset least run valid) e in
    (parts.0, offset_from_test least run valid parts.1)

usable_from : (files : List Loaded) (valid : ℤ) (least : Option ℤ) (run : ℤ) → IsSome (cell files run valid)
    → HasLeastOffset least run valid → is_usable files valid least run ≡ true
unfolding is_usable
usable_from files valid least run has late =
    and_from (is_some (cell files run valid)) (has_least_offset least run valid) has (offset_test least run valid late)

-- the best run has the facts of the best one
pub IsBest-from_best : (files : List Loaded) (valid : ℤ) (least : Option ℤ) (run : ℤ)
    → best files valid least ≡ Some run
    → IsBest files valid least run
unfolding best
IsBest-from_best files valid least run e =
    let last = is_last (is_usable files valid least) (runs_of files) run e in
    let parts = usable_parts files valid least run last.passes in
    record {
      has = Any-from_cell files run valid parts.0;
      late = parts.1;
      greatest = λ other any late.
          let has = cell-from_Any files other valid any in
          bounded last other (usable_from files valid least other has late)
          (subst (In other) last.split (run_of_cell files other valid has));
    }
  where
    bounded : (last : IsLast (is_usable files valid least) (runs_of files) run) (other : ℤ)
        → is_usable files valid least other ≡ true → In other (last.before ++ run ∷ last.after) → other ≤ℤ run
    bounded last other usable h = elim (In-append_cases other last.before (run ∷ last.after) h) [
      | inl earlier ↦
          let below = below_later last.before run last.after other
          (subst (EachPair Above) last.split (rises_runs_of files)) earlier in
          omega (arith, ints)
      | inr (inl same) ↦ at_most other run (sym same)
      | inr (inr later) ↦ absurd (both_ways (is_usable files valid least other)
          (Each-in (λ r. is_usable files valid least r ≡ false) other last.after last.fails later) usable)
    ]

-- where there is no best run, no run with a cell lies early enough
pub no_best : (files : List Loaded) (valid : ℤ) (least : Option ℤ) → best files valid least ≡ None → (run : ℤ)
    → IsSome (cell files run valid) → ¬ HasLeastOffset least run valid
unfolding best
no_best files valid least e run has late = both_ways (is_usable files valid least run)
    (Each-in (λ r. is_usable files valid least r ≡ false) run (runs_of files)
    (none_passes (is_usable files valid least) (runs_of files) e) (run_of_cell files run valid has))
    (usable_from files valid least run has late)

same_instant : (a b : ℤ) → a ≤ℤ b → b ≤ℤ a → a ≡ b
same_instant a b h k = omega (arith, ints)

-- a run with the facts of the best one is the best run
pub best-from_IsBest : (files : List Loaded) (valid : ℤ) (least : Option ℤ) (run : ℤ) → IsBest files valid least run
    → best files valid least ≡ Some run
best-from_IsBest files valid least run b = by_best (best files valid least) refl
  where
    by_best : (o : Option ℤ) → best files valid least ≡ o → best files valid least ≡ Some run
    by_best None is = absurd (no_best files valid least is run (cell-from_Any files run valid b.has) b.late)
    by_best (Some other) is =
        let found = IsBest-from_best files valid least other is in
        is ∙ ap Some (same_instant other run (b.greatest other found.has found.late) (found.greatest run b.has b.late))

pub best_both : (files : List Loaded) (valid : ℤ) (least : Option ℤ) (run : ℤ)
    → (best files valid least ≡ Some run) ↔ IsBest files valid least run
best_both files valid least run = (IsBest-from_best files valid least run, best-from_IsBest files valid least run)

-- a file with a valid time, early enough, leaves it a best run
pub best-from_file : (files : List Loaded) (valid : ℤ) (least : Option ℤ) (file : Loaded) → In file files
    → In valid file.times
    → HasLeastOffset least file.run valid → IsSome (best files valid least)
best-from_file files valid least file held time late = by_best (best files valid least) refl
  where
    by_best : (o : Option ℤ) → best files valid least ≡ o → IsSome (best files valid least)
    by_best None is = absurd (no_best files valid least is file.run (cell-from_file files file.run valid file held
        (record { run_is = refl; time = Contains-from_in valid file.times time })) late)
    by_best (Some run) is = ap is_some is

-- the file of a best run
pub best_file : (files : List Loaded) (valid : ℤ) (least : Option ℤ) (run : ℤ) → best files valid least ≡ Some run
    → (file : Loaded) × In file files × (file.run ≡ run) × In valid file.times
best_file files valid least run e = cell_file files run valid
    (cell-from_Any files run valid (IsBest-from_best files valid least run e).has)

-- there is no best run exactly where no file has the time
pub no_best_both : (files : List Loaded) (valid : ℤ) (least : Option ℤ)
    → (best files valid least ≡ None) ↔ All (λ file. ¬ HasTimeFrom valid least file) files
no_best_both files valid least = (there, back)
  where
    there : best files valid least ≡ None → All (λ file. ¬ HasTimeFrom valid least file) files
    there e = All-from_each (λ file. ¬ HasTimeFrom valid least file) files (Each-from_in _ files (λ file held has.
        both_ways (is_some (best files valid least)) (ap is_some e)
        (best-from_file files valid least file held (in_from_Contains valid file.times has.0) has.1)))

    back : All (λ file. ¬ HasTimeFrom valid least file) files → best files valid least ≡ None
    back all = by_best (best files valid least) refl
      where
        by_best : (o : Option ℤ) → best files valid least ≡ o → best files valid least ≡ None
        by_best None is = is
        by_best (Some run) is =
            let found = best_file files valid least run is in
            let late = (IsBest-from_best files valid least run is).late in
            absurd (Each-in (λ file. ¬ HasTimeFrom valid least file) found.0 files
            (each_from_All (λ file. ¬ HasTimeFrom valid least file) files all) found.1 (
              Contains-from_in valid found.0.times found.3,
              subst (λ r. HasLeastOffset least r valid)
                  (sym found.2) late,
            ))

-- a file has no such time
abbrev Lacks : ℤ → Loaded → Type 0
Lacks valid file = ¬ Contains file.times valid

-- without a least offset there is no best run exactly where no file has the valid time
pub no_best_at_all : (files : List Loaded) (valid : ℤ) → (best files valid None ≡ None) ↔ All (Lacks valid) files
no_best_at_all files valid = (
  λ e. All-from_each (Lacks valid) files (Each-weaker _ _ (λ file none has. none (has, tt)) files
      (each_from_All (λ file. ¬ HasTimeFrom valid None file) files ((no_best_both files valid None).0 e))),
  λ all. (no_best_both files valid None).1 (All-from_each (λ file. ¬ HasTimeFrom valid None file) files
      (Each-weaker _ _ (λ file none has. none has.0) files (each_from_All (Lacks valid) files all))),
)

-- a least offset that no time of a run lies below takes nothing away
pub best-least : (files : List Loaded) (valid least : ℤ)
    → ((file : Loaded) → In file files → In valid file.times → least ≤ℤ (valid -ℤ file.run))
    → best files valid (Some least) ≡ best files valid None
best-least files valid least above = by_best (best files valid None) refl
  where
    by_best : (o : Option ℤ) → best files valid None ≡ o → best files valid (Some least) ≡ best files valid None
    by_best None is = (no_best_both files valid (Some least)).1
        (All-from_each (λ file. ¬ HasTimeFrom valid (Some least) file) files
        (Each-weaker _ _ (λ file none has. none has.0) files
        (each_from_All (Lacks valid) files ((no_best_at_all files valid).0 is)))) ∙ sym is
    by_best (Some run) is =
        let found = IsBest-from_best files valid None run is in
        let file = best_file files valid None run is in
        best-from_IsBest files valid (Some least) run (record {
          has = found.has;
          late = subst (λ r. least ≤ℤ (valid -ℤ r)) file.2 (above file.0 file.1 file.3);
          greatest = λ other any late. found.greatest other any tt;
        }) ∙ sym is
