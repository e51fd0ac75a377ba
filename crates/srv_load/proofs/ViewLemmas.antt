-- How many rows four views of made files have.
use Rattle.std.proofs.Common.{◌≡◌, ◌<◌, ◌≤◌, ◌+◌, ◌-◌, ◌*◌, inl, inr, ℕ, zero, suc, List, length, map, min, Some, ℤ, pos, ◌+ℤ◌, refl, sym, ap, subst, ◌∙◌, arith}
use Rattle.std.proofs.lemmas.Bool.{cases_lt}
use Rattle.std.proofs.lemmas.List.{length-map}
use Rattle.fm_model.specs.declared.loaded.Loaded.{Loaded}
use Rattle.fm_model.specs.declared.row.Row.{Row}
use Rattle.fm_model.specs.declared.row.ViewName.{ViewName}
use Rattle.fm_model.specs.declared.row.ViewName.TheVariants.{Best, Run, Offset, Forecast}
use Rattle.fm_model.specs.Cell.{cell, HasCell, times_of as all_times, times_of_run}
use Rattle.fm_model.specs.Rows.{instant_in, rows, Shows}
use Rattle.fm_model.proofs.CellLemmas.{cell-from_file, in_from_slice_get}
use Rattle.fm_model.proofs.InstantLemmas.{in_times_of, In-times_of, in_times_of_run, In-times_of_run, rises_times_of, Rises-times_of_run, value-from_some}
use Rattle.fm_model.proofs.Members.{AllPairs-from_each, Contains-from_in, In, in_from_Contains, In-map, in_map}
use Rattle.fm_model.proofs.RisingLemmas.{Above}
use Rattle.fm_model.proofs.RowLemmas.{Contains-rows, HasHeldFile-rows, map-valid-best, map-valid-run, Rises-rows}
use Rattle.fm_made.specs.Made.{times_of}
use Rattle.fm_gen.specs.Values.{time_of}
use Rattle.srv_load.specs.Asked.{counted}
use Rattle.srv_load.specs.Made.{files_of, held_file}
use Rattle.srv_load.specs.Summary.{summary_of, summary_over}
use Rattle.srv_load.proofs.FileLemmas.{in_files, In-files, in_times, In-times}
use Rattle.srv_load.proofs.InstantLemmas.{in_instants, In-instants, instants, length-same}
use Rattle.srv_load.proofs.RoomLemmas.{coll-puts_of}

pos_is : (m n : ℕ) → pos m ≡ pos n → m ≡ n
pos_is m n is = cc

-- the n-th hour, and the time of the n-th run, in seconds
abbrev hour : ℕ → ℕ
hour n = 3600 * n

abbrev run_of : ℕ → ℕ
run_of n = 21600 * n

hour_up : (i j : ℕ) → i < j → hour i < hour j
hour_up i j below = omega (arith, below)

run_up : (i j : ℕ) → i < j → run_of i < run_of j
run_up i j below = omega (arith, below)

-- the file and the time of each of the first 6 n + 59 hours
find_hour : (n i : ℕ) → i < 6 * suc n + 59 → (k : ℕ) × (j : ℕ) × (k < suc n) × (j < 65) × (i ≡ 6 * k + j)
find_hour zero i below = (0, i, omega arith, omega (arith, below), omega arith)
find_hour (suc n) i below = elim (cases_lt i (6 * suc n + 59)) [
  | inl earlier ↦
      let found = find_hour n i earlier in
      (found.0, found.1, omega (arith, found.2), found.3, found.4)
  | inr later ↦ (suc n, i - 6 * suc n, omega arith, omega (arith, below, later), omega (arith, later))
]

-- the best time series has the valid times of all files: an hour after the other
best_rows : (seed m : ℕ) → length (rows (files_of seed (suc m)) Best) ≡ 6 * suc m + 59
best_rows seed m =
    let files : List Loaded = files_of seed (suc m) in
    sym (length-map (rows files Best) (λ (row : Row). row.valid)) ∙ ap length (map-valid-best files)
    ∙ length-same hour hour_up 0 (6 * suc m + 59) (all_times files)
    (AllPairs-from_each Above (all_times files) (rises_times_of files)) there back
  where
    there : (t : ℤ) → In t (all_times (files_of seed (suc m))) → In t (instants hour 0 (6 * suc m + 59))
    there t is =
        let found = in_times_of (files_of seed (suc m)) t is in
        let file = in_files seed (suc m) found.0 found.1 in
        let time = in_times file.0 65 t (subst (λ (f : Loaded). In t f.times) (sym file.2) found.2) in
        let same : hour (6 * file.0 + time.0) ≡ time_of file.0 time.0 = omega arith in
        subst (λ (z : ℤ). In z (instants hour 0 (6 * suc m + 59)))
        (ap (λ (n : ℕ). pos n) same ∙ time.2)
        (In-instants hour 0 (6 * suc m + 59) (6 * file.0 + time.0) (omega arith)
        (omega (arith, file.1, time.1)))

    back : (t : ℤ) → In t (instants hour 0 (6 * suc m + 59)) → In t (all_times (files_of seed (suc m)))
    back t is =
        let found = in_instants hour 0 (6 * suc m + 59) t is in
        let at = find_hour m found.0 (omega (arith, found.2)) in
        let same : time_of at.0 at.1 ≡ hour found.0 = omega (arith, at.4) in
        subst (λ (z : ℤ). In z (all_times (files_of seed (suc m))))
        (ap (λ (n : ℕ). pos n) same ∙ found.3)
        (In-times_of (files_of seed (suc m)) (held_file seed at.0) (pos (time_of at.0 at.1))
        (In-files seed (suc m) at.0 at.2) (In-times at.0 65 at.1 at.3))

-- the first run has its 65 times
run_rows : (seed m : ℕ) → length (rows (files_of seed (suc m)) (Run (pos 0))) ≡ 65
run_rows seed m =
    let files : List Loaded = files_of seed (suc m) in
    sym (length-map (rows files (Run (pos 0))) (λ (row : Row). row.valid)) ∙ ap length (map-valid-run files (pos 0))
    ∙ length-same hour hour_up 0 65 (times_of_run files (pos 0)) (Rises-times_of_run files (pos 0)) there back
  where
    there : (t : ℤ) → In t (times_of_run (files_of seed (suc m)) (pos 0)) → In t (instants hour 0 65)
    there t is =
        let found = in_times_of_run (files_of seed (suc m)) (pos 0) t is in
        let file = in_files seed (suc m) found.0 found.1 in
        let run : pos (run_of file.0) ≡ pos 0 = ap (λ (f : Loaded). f.run) file.2 ∙ found.2.run_is in
        let first : run_of file.0 ≡ 0 = pos_is (run_of file.0) 0 run in
        let time = in_times file.0 65 t
        (subst (λ (f : Loaded). In t f.times) (sym file.2) (in_from_Contains t found.0.times found.2.time)) in
        let same : hour time.0 ≡ time_of file.0 time.0 = omega (arith, first) in
        subst (λ (z : ℤ). In z (instants hour 0 65)) (ap (λ (n : ℕ). pos n) same ∙ time.2)
        (In-instants hour 0 65 time.0 (omega arith) (omega (arith, time.1)))

    back : (t : ℤ) → In t (instants hour 0 65) → In t (times_of_run (files_of seed (suc m)) (pos 0))
    back t is =
        let found = in_instants hour 0 65 t is in
        let same : time_of 0 found.0 ≡ hour found.0 = omega arith in
        let time : In t (times_of 0 65) = subst (λ (z : ℤ). In z (times_of 0 65))
        (ap (λ (n : ℕ). pos n) same ∙ found.3) (In-times 0 65 found.0 (omega (arith, found.2))) in
        In-times_of_run (files_of seed (suc m)) (pos 0) t (held_file seed 0) (In-files seed (suc m) 0 (omega arith))
        (record { run_is = refl; time = Contains-from_in t (times_of 0 65) time })

-- the file of a row, and the index of its time
in_row : (seed n : ℕ) (view : ViewName) (row : Row) → In row (rows (files_of seed n) view)
    → (k : ℕ) × (j : ℕ) × (k < n) × (j < 65) × (pos (run_of k) ≡ row.run) × (pos (time_of k j) ≡ row.valid)
in_row seed n view row there =
    let has = HasHeldFile-rows (files_of seed n) view row
    (Contains-from_in row (rows (files_of seed n) view) there) in
    let file = in_files seed n row.file (in_from_Contains row.file (files_of seed n) has.held) in
    let time = in_times file.0 65 row.valid
    (subst (λ (f : Loaded). In row.valid f.times) (sym file.2)
    (in_from_slice_get row.file.times row.index row.valid has.time_is)) in
    (file.0, time.0, file.1, time.1, ap (λ (f : Loaded). f.run) file.2 ∙ has.run_is, time.2)

-- a view has a row of a run and a time that it shows
In-row : (seed n k j : ℕ) (view : ViewName) → k < n → j < 65
    → Shows (files_of seed n) view (pos (run_of k)) (pos (time_of k j))
    → (row : Row) × In row (rows (files_of seed n) view) × (row.run ≡ pos (run_of k))
In-row seed n k j view below within shows =
    let files : List Loaded = files_of seed n in
    let run : ℤ = pos (run_of k) in
    let valid : ℤ = pos (time_of k j) in
    let has : HasCell run valid (held_file seed k) = record {
      run_is = refl;
      time = Contains-from_in valid (times_of k 65) (In-times k 65 j within);
    } in
    let found = value-from_some (cell files run valid)
    (cell-from_file files run valid (held_file seed k) (In-files seed n k below) has) in
    let row : Row = record { valid = valid; run = run; file = found.0.0; index = found.0.1 } in
    (row, in_from_Contains row (rows files view) ((Contains-rows files view row).1 (found.1, shows)), refl)

-- the offset 0 has a row of each run
offset_rows : (seed n : ℕ) → length (rows (files_of seed n) (Offset (pos 0))) ≡ n
offset_rows seed n =
    sym (length-map (rows (files_of seed n) (Offset (pos 0))) (instant_in (Offset (pos 0))))
    ∙ length-same run_of run_up 0 n (map (instant_in (Offset (pos 0))) (rows (files_of seed n) (Offset (pos 0))))
    (Rises-rows (files_of seed n) (Offset (pos 0))) there back
  where
    there : (t : ℤ) → In t (map (instant_in (Offset (pos 0))) (rows (files_of seed n) (Offset (pos 0))))
        → In t (instants run_of 0 n)
    there t is =
        let found = in_map (instant_in (Offset (pos 0))) t (rows (files_of seed n) (Offset (pos 0))) is in
        let row = in_row seed n (Offset (pos 0)) found.0 found.1 in
        subst (λ (z : ℤ). In z (instants run_of 0 n)) (row.4 ∙ found.2)
        (In-instants run_of 0 n row.0 (omega arith) (omega (arith, row.2)))

    back : (t : ℤ) → In t (instants run_of 0 n)
        → In t (map (instant_in (Offset (pos 0))) (rows (files_of seed n) (Offset (pos 0))))
    back t is =
        let found = in_instants run_of 0 n t is in
        let at_run : pos (time_of found.0 0) ≡ pos (run_of found.0) +ℤ pos 0 =
        ap (λ (n : ℕ). pos n) (omega arith) in
        let row = In-row seed n found.0 0 (Offset (pos 0)) (omega (arith, found.2)) (omega arith) at_run in
        subst (λ (z : ℤ). In z (map (instant_in (Offset (pos 0))) (rows (files_of seed n) (Offset (pos 0)))))
        (row.2 ∙ found.3)
        (In-map (instant_in (Offset (pos 0))) row.0 (rows (files_of seed n) (Offset (pos 0))) row.1)

-- the forecast at the last run has a row of each of the last 11 runs
forecast_rows : (seed m : ℕ) → length (rows (files_of seed (suc m)) (Forecast (pos (run_of m)))) ≡ min (suc m) 11
forecast_rows seed m =
    sym (length-map (rows (files_of seed (suc m)) (Forecast (pos (run_of m)))) (instant_in (Forecast (pos (run_of m)))))
    ∙ length-same run_of run_up (suc m - min (suc m) 11) (min (suc m) 11)
    (map (instant_in (Forecast (pos (run_of m)))) (rows (files_of seed (suc m)) (Forecast (pos (run_of m)))))
    (Rises-rows (files_of seed (suc m)) (Forecast (pos (run_of m)))) there back
  where
    last : ViewName
    last = Forecast (pos (run_of m))

    from : ℕ
    from = suc m - min (suc m) 11

    there : (t : ℤ) → In t (map (instant_in last) (rows (files_of seed (suc m)) last))
        → In t (instants run_of from (min (suc m) 11))
    there t is =
        let found = in_map (instant_in last) t (rows (files_of seed (suc m)) last) is in
        let row = in_row seed (suc m) last found.0 found.1 in
        let shown = ((Contains-rows (files_of seed (suc m)) last found.0).0
        (Contains-from_in found.0 (rows (files_of seed (suc m)) last) found.1)).1 in
        let at : time_of row.0 row.1 ≡ run_of m =
        pos_is (time_of row.0 row.1) (run_of m) (row.5 ∙ shown) in
        subst (λ (z : ℤ). In z (instants run_of from (min (suc m) 11))) (row.4 ∙ found.2)
        (In-instants run_of from (min (suc m) 11) row.0 (omega (arith, at, row.3)) (omega (arith, row.2)))

    back : (t : ℤ) → In t (instants run_of from (min (suc m) 11))
        → In t (map (instant_in last) (rows (files_of seed (suc m)) last))
    back t is =
        let found = in_instants run_of from (min (suc m) 11) t is in
        let k = found.0 in
        let below : k < suc m = omega (arith, found.2) in
        let at : pos (time_of k (6 * (m - k))) ≡ pos (run_of m) = ap (λ (n : ℕ). pos n) (omega (arith, below)) in
        let row = In-row seed (suc m) k (6 * (m - k)) last below (omega (arith, found.1)) at in
        subst (λ (z : ℤ). In z (map (instant_in last) (rows (files_of seed (suc m)) last))) (row.2 ∙ found.3)
        (In-map (instant_in last) row.0 (rows (files_of seed (suc m)) last) row.1)

-- the rows of the four views of n files
counts : (seed n : ℕ) → 0 < n → (length (rows (files_of seed n) Best) ≡ 6 * n + 59)
    × (length (rows (files_of seed n) (Run (pos 0))) ≡ 65)
    × (length (rows (files_of seed n) (Offset (pos 0))) ≡ n)
    × (length (rows (files_of seed n) (Forecast (pos (run_of (n - 1))))) ≡ min n 11)
counts seed zero some = absurd (omega (arith, some))
counts seed (suc m) some =
    let before : m ≡ suc m - 1 = omega arith in (
      best_rows seed m,
      run_rows seed m,
      offset_rows seed (suc m),
      subst (λ (k : ℕ). length (rows (files_of seed (suc m)) (Forecast (pos (run_of k)))) ≡ min (suc m) 11) before
          (forecast_rows seed m),
    )

-- the numbers of a made collection
pub best-counted : (seed n : ℕ) → 0 < n → n ≤ 400 → (summary_of seed n).best ≡ 6 * n + 59
unfolding summary_over counted
best-counted seed n some few =
    ap (λ (files : List Loaded). length (rows files Best)) (coll-puts_of seed n few) ∙ (counts seed n some).0

pub run-counted : (seed n : ℕ) → 0 < n → n ≤ 400 → (summary_of seed n).run ≡ 65
unfolding summary_over counted
run-counted seed n some few =
    ap (λ (files : List Loaded). length (rows files (Run (pos 0)))) (coll-puts_of seed n few) ∙ (counts seed n some).1

pub offset-counted : (seed n : ℕ) → 0 < n → n ≤ 400 → (summary_of seed n).offset ≡ n
unfolding summary_over counted
offset-counted seed n some few =
    ap (λ (files : List Loaded). length (rows files (Offset (pos 0)))) (coll-puts_of seed n few)
    ∙ (counts seed n some).2

pub forecast-counted : (seed n : ℕ) → 0 < n → n ≤ 400 → (summary_of seed n).forecast ≡ min n 11
unfolding summary_over counted
forecast-counted seed n some few =
    ap (λ (files : List Loaded). length (rows files (Forecast (pos (run_of (n - 1)))))) (coll-puts_of seed n few)
    ∙ (counts seed n some).3

pub ruleset counted_rows = (best-counted, run-counted, offset-counted, forecast-counted)
