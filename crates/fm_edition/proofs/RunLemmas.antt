-- The rows of the entries by runs.
use Rattle.std.proofs.Common.{◌≡◌, ℕ, ◌<◌, ◌≤◌, ◌^◌, List, None, ℤ, ◌+ℤ◌, sym, ap, subst, ◌∙◌, length, map, refl, arith, rules, SFits, w64}
use Rattle.std.specs.Prelude.{All}
use Rattle.std.specs.List.{filter_map}
use Rattle.std.specs.Option.{option_map}
use Rattle.std.specs.Ordering.{int_eq}
use Rattle.std.proofs.lemmas.Bool.{and_parts}
use Rattle.std.proofs.lemmas.List.{length-map}
use Rattle.fm_model.specs.declared.limit.TheConstants.{MAX_FILES}
use Rattle.fm_model.specs.declared.loaded.Loaded.{Loaded}
use Rattle.fm_model.specs.declared.row.Row.{Row}
use Rattle.fm_model.specs.Cell.{cell, has_cell, has_time, index_of_time, runs_of, HasCell}
use Rattle.fm_model.specs.Collection.{tally, IsWithin}
use Rattle.fm_model.specs.LoadTimes.{IsInstant}
use Rattle.fm_model.specs.Rows.{row_at}
use Rattle.fm_model.proofs.CellLemmas.{no_cell_both}
use Rattle.fm_model.proofs.Members.{All-from_each, Each-from_in, Each-in, Each-weaker, each_from_All, in_from_Contains}
use Rattle.fm_list.specs.declared.by.By.TheVariants.{Run}
use Rattle.fm_edition.specs.declared.maps.wanted.Wanted.TheVariants.{After, At}
use Rattle.fm_list.specs.Selected.{part, selects, AreSound, HasSoundTimes}
use Rattle.fm_edition.specs.Indexes.{entries_of, entry_row, instants, AreParts, Pages}
use Rattle.fm_edition.proofs.CountLemmas.{length-rising}
use Rattle.fm_edition.proofs.EntryLemmas.{entry_files}
use Rattle.fm_edition.proofs.KeyLemmas.{keys_are}
use Rattle.fm_edition.proofs.PartLemmas.{last_such-filter, sound-part}
use Rattle.fm_edition.proofs.RowLemmas.{rows_by_entries}
use Rattle.fm_edition.proofs.TallyLemmas.{bounds}

-- the files of a run have its cells
pub cell-part_of_run : (files : List Loaded) (run valid : ℤ)
    → cell (part Run files run) run valid ≡ cell files run valid
unfolding cell part selects has_cell
cell-part_of_run files run valid = ap (option_map (λ file. (file, index_of_time valid file)))
    (last_such-filter (has_cell run valid) (λ (f : Loaded). int_eq f.run run)
    (λ file has. (and_parts (int_eq file.run run) (has_time valid file) has).0) files)

-- and its rows
row_at-part : (files : List Loaded) (run valid : ℤ) → row_at (part Run files run) run valid ≡ row_at files run valid
unfolding row_at
row_at-part files run valid = ap (option_map row) (cell-part_of_run files run valid)
  where
    row : Loaded × ℕ → Row
    row found = record { valid = valid; run = run; file = found.0; index = found.1 }

-- the rows of all entries are those of an offset
pub rows-at_offset : (files : List Loaded) (seconds : ℤ) (pages : Pages) → AreParts Run files pages
    → filter_map (entry_row (After seconds)) (entries_of pages)
    ≡ filter_map (λ run. row_at files run (run +ℤ seconds)) (runs_of files)
unfolding instants
rows-at_offset files seconds pages are =
    rows_by_entries Run files (λ held run. row_at held run (run +ℤ seconds))
    (λ run. row_at-part files run (run +ℤ seconds)) (entries_of pages) (entry_files Run files pages are)
    ∙ ap (filter_map (λ run. row_at files run (run +ℤ seconds))) (keys_are Run files pages are)

-- or those of a valid time
pub rows-at_valid : (files : List Loaded) (valid : ℤ) (pages : Pages) → AreParts Run files pages
    → filter_map (entry_row (At valid)) (entries_of pages)
    ≡ filter_map (λ run. row_at files run valid) (runs_of files)
unfolding instants
rows-at_valid files valid pages are =
    rows_by_entries Run files (λ held run. row_at held run valid) (λ run. row_at-part files run valid)
    (entries_of pages) (entry_files Run files pages are)
    ∙ ap (filter_map (λ run. row_at files run valid)) (keys_are Run files pages are)

-- the files of each run have sound times
pub entries_sound : (files : List Loaded) (pages : Pages) → AreParts Run files pages → AreSound files
    → All (λ (entry : ℤ × List Loaded). AreSound entry.1) (entries_of pages)
entries_sound files pages are sound = All-from_each (λ (entry : ℤ × List Loaded). AreSound entry.1) (entries_of pages)
    (Each-weaker (λ (entry : ℤ × List Loaded). part Run files entry.0 ≡ entry.1)
    (λ (entry : ℤ × List Loaded). AreSound entry.1)
    (λ entry own. subst AreSound own (sound-part Run files entry.0 sound))
    (entries_of pages) (entry_files Run files pages are))

-- there are few runs
pub runs_are_few : (files : List Loaded) (pages : Pages) → AreParts Run files pages → IsWithin (tally files)
    → length (entries_of pages) < 2 ^ 32
unfolding instants runs_of
runs_are_few files pages are within =
    let count : length files ≤ MAX_FILES = (bounds files within).count in
    let runs = length-rising (map (λ (f : Loaded). f.run) files) in
    let all = length-map files (λ (f : Loaded). f.run) in
    let keys = sym (length-map (entries_of pages) (λ (e : ℤ × List Loaded). e.0))
    ∙ ap length (keys_are Run files pages are) in
    omega (arith, count, runs, all, keys)

-- an instant of a collection fits 64 bits
fits_instant : (seconds : ℤ) → IsInstant seconds → SFits w64 seconds
fits_instant seconds is = let low = is.low in let high = is.high in search rules

-- a run has no row at a valid time that doesn't fit 64 bits
pub row_at-past : (files : List Loaded) (run valid : ℤ) → AreSound files → (SFits w64 valid → ⊥)
    → row_at files run valid ≡ None
unfolding row_at
row_at-past files run valid sound past =
    let none : cell files run valid ≡ None = (no_cell_both files run valid).1
    (All-from_each (λ file. ¬ HasCell run valid file) files
    (Each-from_in (λ file. ¬ HasCell run valid file) files (λ file held has.
    let times = Each-in HasSoundTimes file files (each_from_All HasSoundTimes files sound) held in
    past (fits_instant valid (Each-in IsInstant valid file.times (each_from_All IsInstant file.times times.instants)
    (in_from_Contains valid file.times has.time)))))) in
    rw none refl
