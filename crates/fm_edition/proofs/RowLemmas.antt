-- The rows of the entries by valid times.
use Rattle.std.proofs.Common.{◌≡◌, ◌<◌, ℕ, List, [], ◌∷◌, length, Option, Some, None, ℤ, refl, sym, ap, subst, ◌∙◌, arith}
use Rattle.std.specs.Prelude.{All, option_and_then}
use Rattle.std.specs.Option.{option_map}
use Rattle.std.specs.List.{filter_map, cons_option}
use Rattle.std.specs.Map.{keys_of}
use Rattle.fm_model.specs.declared.loaded.Loaded.{Loaded}
use Rattle.fm_model.specs.declared.row.Row.{Row}
use Rattle.fm_model.specs.Cell.{best, cell, runs_of, times_of}
use Rattle.fm_model.specs.Rows.{best_row, row_at}
use Rattle.fm_model.proofs.Members.{In, Each, All-from_each, Each-from_in}
use Rattle.fm_list.specs.declared.by.By.{By}
use Rattle.fm_list.specs.declared.by.By.TheVariants.{Run, Time}
use Rattle.fm_list.specs.Selected.{part, AreSound, HaveTime}
use Rattle.fm_edition.specs.Indexes.{best_of_entry, entries_of, instants, AreParts, IsTimed, Pages}
use Rattle.fm_edition.proofs.EntryLemmas.{entry_files, entry_shown}
use Rattle.fm_edition.proofs.KeyLemmas.{keys_are}
use Rattle.fm_edition.proofs.PartLemmas.{best-part, cell-part, sound-part, have-part}

-- the files by a valid time have the row of its best run
pub best_row-part : (files : List Loaded) (valid : ℤ) (least : Option ℤ)
    → best_row (part Time files valid) least valid ≡ best_row files least valid
unfolding best_row row_at
best_row-part files valid least = rw (best-part files valid least) (by_best (best files valid least))
  where
    row : Loaded × ℕ → ℤ → Row
    row found run = record { valid = valid; run = run; file = found.0; index = found.1 }

    own : ℤ → Option Row
    own run = option_map (λ (found : Loaded × ℕ). row found run) (cell (part Time files valid) run valid)

    all : ℤ → Option Row
    all run = option_map (λ (found : Loaded × ℕ). row found run) (cell files run valid)

    by_best : (o : Option ℤ) → option_and_then own o ≡ option_and_then all o
    by_best None = refl
    by_best (Some run) = ap (option_map (λ (found : Loaded × ℕ). row found run)) (cell-part files run valid)

-- the rows of entries are those of their instants among all files
pub rows_by_entries : (by : By) (files : List Loaded) (row : List Loaded → ℤ → Option Row)
    → ((key : ℤ) → row (part by files key) key ≡ row files key) → (entries : List (ℤ × List Loaded))
    → Each (λ (entry : ℤ × List Loaded). part by files entry.0 ≡ entry.1) entries
    → filter_map (λ (entry : ℤ × List Loaded). row entry.1 entry.0) entries ≡ filter_map (row files) (keys_of entries)
rows_by_entries by files row same [] each = refl
rows_by_entries by files row same (entry ∷ entries) each =
    let first : row entry.1 entry.0 ≡ row files entry.0 =
    ap (λ held. row held entry.0) (sym each.0) ∙ same entry.0 in
    ap (λ o. cons_option o (filter_map (λ (e : ℤ × List Loaded). row e.1 e.0) entries)) first
    ∙ ap (cons_option (row files entry.0)) (rows_by_entries by files row same entries each.1)

-- the rows of all entries are those of the best time series
pub rows-from_pages : (files : List Loaded) (least : Option ℤ) (pages : Pages) → AreParts Time files pages
    → filter_map (best_of_entry least) (entries_of pages) ≡ filter_map (best_row files least) (times_of files)
unfolding instants
rows-from_pages files least pages are =
    rows_by_entries Time files (λ held valid. best_row held least valid) (λ valid. best_row-part files valid least)
    (entries_of pages) (entry_files Time files pages are)
    ∙ ap (filter_map (best_row files least)) (keys_are Time files pages are)

-- the keys by runs are the runs
pub runs-from_pages : (files : List Loaded) (pages : Pages) → AreParts Run files pages
    → keys_of (entries_of pages) ≡ runs_of files
unfolding instants
runs-from_pages files pages are = keys_are Run files pages are

filled : (files : List Loaded) (file : Loaded) → In file files → 0 < length files
filled [] file none = absurd none
filled (first ∷ files) file held = omega arith

-- there are files of each entry, and they have its valid time, and sound times
pub entries_timed : (files : List Loaded) (pages : Pages) → AreParts Time files pages → AreSound files
    → All IsTimed (entries_of pages)
entries_timed files pages are sound = All-from_each IsTimed (entries_of pages)
    (Each-from_in IsTimed (entries_of pages) (λ entry held.
    let shown = (entry_shown Time files pages are entry held).1 in
    record {
      some = filled entry.1 shown.some.0 shown.some.1;
      have = subst (HaveTime entry.0) shown.own (have-part files entry.0);
      sound = subst AreSound shown.own (sound-part Time files entry.0 sound);
    }))
