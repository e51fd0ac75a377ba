-- Where each valid time is that of one file, the best time series with a least offset has the rows that keep it.
use Rattle.std.proofs.Common.{◌≡◌, Bool, true, false, List, [], ◌∷◌, Option, Some, None, ℤ, length, inl, inr, map, refl, sym, ap, ap₂, ◌∙◌, arith}
use Rattle.std.specs.Prelude.{filter, is_some, option_and_then, All, Any}
use Rattle.std.specs.BTreeMap.{BTreeMap}
use Rattle.std.specs.List.{filter_map, cons_option}
use Rattle.std.proofs.Math.Path.{subst₂}
use Rattle.std.proofs.lemmas.Bool.{and_parts, eqb-true, false≢true, true≢false}
use Rattle.fm_model.specs.declared.loaded.Loaded.{Loaded}
use Rattle.fm_model.specs.declared.row.Row.{Row}
use Rattle.fm_model.specs.Cell.{best, has_least_offset, HasCell}
use Rattle.fm_model.specs.Rows.{best_row, row_at}
use Rattle.fm_model.proofs.BestLemmas.{IsBest-from_best, offset_test}
use Rattle.fm_model.proofs.Members.{in_from_Any}
use Rattle.fm_model.proofs.RowLemmas.{IsBestRow-from_best_row}
use Rattle.fm_edition.specs.declared.maps.page_rows.Oldest.{Oldest}
use Rattle.fm_edition.specs.Indexes.{best_of_entry, each_one, is_one, kept_row, oldest_runs, page_rows, with_oldest}
use Rattle.fm_edition.specs.Indexes.{IsTimed}
use Rattle.fm_edition.specs.Least.{keeps_least, row_time}
use Rattle.fm_edition.proofs.EarlyLemmas.{early_row}
use Rattle.fm_edition.proofs.LeastLemmas.{no_row, same_row}
use Rattle.fm_edition.proofs.WalkLemmas.{all_first, all_rest}

-- a run that one file has is the file's
one_run : (file : Loaded) (run valid : ℤ) → Any (HasCell run valid) (file ∷ []) → file.run ≡ run
one_run file run valid any =
    let found = in_from_Any (HasCell run valid) (file ∷ []) any in
    elim found.1 [
      | inl same ↦ ap (λ (f : Loaded). f.run) same ∙ found.2.run_is
      | inr none ↦ absurd none
    ]

-- of one file whose row doesn't keep the least offset there is none with it
late_best : (file : Loaded) (valid : ℤ) (least : Option ℤ) (row : Row) → best_row (file ∷ []) None valid ≡ Some row
    → keeps_least least row ≡ false → best (file ∷ []) valid least ≡ None
late_best file valid least row is late = by_best (best (file ∷ []) valid least) refl
  where
    by_best : (o : Option ℤ) → best (file ∷ []) valid least ≡ o → best (file ∷ []) valid least ≡ None
    by_best None found = found
    by_best (Some run) found =
        let own = IsBestRow-from_best_row (file ∷ []) None valid row is in
        let first = IsBest-from_best (file ∷ []) valid None row.run own.best_is in
        let other = IsBest-from_best (file ∷ []) valid least run found in
        let same : run ≡ row.run = sym (one_run file run valid other.has) ∙ one_run file row.run valid first.has in
        let keeps : has_least_offset least row.run row.valid ≡ true =
        subst₂ (λ (r v : ℤ). has_least_offset least r v ≡ true) same (sym own.row_is.valid_is)
        (offset_test least run valid other.late) in
        absurd (true≢false (sym keeps ∙ late))

late_row : (files : List Loaded) (valid : ℤ) (least : Option ℤ) (row : Row) → is_one files ≡ true
    → best_row files None valid ≡ Some row → keeps_least least row ≡ false → best_row files least valid ≡ None
unfolding best_row
late_row [] valid least row one is late = absurd (false≢true one)
late_row (file ∷ []) valid least row one is late =
    ap (option_and_then (λ run. row_at (file ∷ []) run valid)) (late_best file valid least row is late)
late_row (file ∷ other ∷ files) valid least row one is late =
    absurd (omega (arith, eqb-true (length (file ∷ other ∷ files)) 1 one))

-- one valid time more
alone_more : (least : Option ℤ) (files : List Loaded) (valid : ℤ) (kept late : List Row) (own : Option Row)
    → best_row files None valid ≡ own → is_one files ≡ true → filter (keeps_least least) kept ≡ late
    → filter (keeps_least least) (cons_option own kept) ≡ cons_option (best_row files least valid) late
alone_more least files valid kept late None is one more = rw (no_row files valid least is) more
alone_more least files valid kept late (Some row) is one more = by_test (keeps_least least row) refl
  where
    by_test : (b : Bool) → keeps_least least row ≡ b
        → filter (keeps_least least) (row ∷ kept) ≡ cons_option (best_row files least valid) late
    by_test true keeps =
        rw (same_row files valid least row is keeps, keeps) (ap (λ (l : List Row). row ∷ l) more)
    by_test false fails = rw (late_row files valid least row one is fails, fails) more

rows_alone : (least : Option ℤ) (entries : List (ℤ × List Loaded)) → each_one entries ≡ true
    → filter (keeps_least least) (filter_map kept_row entries) ≡ filter_map (best_of_entry least) entries
rows_alone least [] one = refl
rows_alone least (entry ∷ entries) one =
    let both = and_parts (is_one entry.1) (each_one entries) one in
    alone_more least entry.1 entry.0 (filter_map kept_row entries) (filter_map (best_of_entry least) entries)
    (best_row entry.1 None entry.0) refl both.0 (rows_alone least entries both.1)

-- the rows of a page that keep a least offset
pub from_alone : (least : Option ℤ) (page : BTreeMap ℤ (List Loaded)) → (page_rows page).alone ≡ true
    → filter (keeps_least least) (page_rows page).rows ≡ filter_map (best_of_entry least) page.entries
from_alone least page one = rows_alone least page.entries one

-- the row of one file has its run
time_one : (file : Loaded) (valid : ℤ) (row : Row) → best_row (file ∷ []) None valid ≡ Some row
    → with_oldest (valid, file ∷ []) ≡ row_time row
time_one file valid row is =
    let own = IsBestRow-from_best_row (file ∷ []) None valid row is in
    let first = IsBest-from_best (file ∷ []) valid None row.run own.best_is in
    let time : ℤ → ℤ → Oldest = λ v r. record { valid = v; run = r } in
    ap₂ time (sym own.row_is.valid_is) (one_run file row.run valid first.has)

time_alone : (files : List Loaded) (valid : ℤ) (row : Row) → is_one files ≡ true
    → best_row files None valid ≡ Some row → with_oldest (valid, files) ≡ row_time row
time_alone [] valid row one is = absurd (false≢true one)
time_alone (file ∷ []) valid row one is = time_one file valid row is
time_alone (file ∷ other ∷ files) valid row one is =
    absurd (omega (arith, eqb-true (length (file ∷ other ∷ files)) 1 one))

-- one valid time more, which has a row
times_more : (entry : ℤ × List Loaded) (own : Option Row) (times : List Oldest) (rows : List Row) → IsTimed entry
    → is_one entry.1 ≡ true → kept_row entry ≡ own → times ≡ map row_time rows
    → with_oldest entry ∷ times ≡ map row_time (cons_option own rows)
unfolding has_least_offset
times_more entry None times rows timed one is more =
    absurd (true≢false (sym (early_row None entry timed) ∙ ap is_some is))
times_more entry (Some row) times rows timed one is more =
    ap₂ (λ (t : Oldest) (l : List Oldest). t ∷ l) (time_alone entry.1 entry.0 row one is) more

-- where each valid time is that of one file, the least run of each is that of its row
pub times_alone : (entries : List (ℤ × List Loaded)) → All IsTimed entries → each_one entries ≡ true
    → oldest_runs entries ≡ map row_time (filter_map kept_row entries)
times_alone [] timed one = refl
times_alone (entry ∷ entries) timed one =
    let both = and_parts (is_one entry.1) (each_one entries) one in
    times_more entry (kept_row entry) (oldest_runs entries) (filter_map kept_row entries)
    (all_first IsTimed entry entries (entry ∷ entries) refl timed) both.0 refl
    (times_alone entries (all_rest IsTimed entry entries (entry ∷ entries) refl timed) both.1)
