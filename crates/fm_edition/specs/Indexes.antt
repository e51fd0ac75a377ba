-- What the maps of an edition hold, each as a function of its list of files.
use Rattle.std.specs.Prelude.{◌≡◌, ◌<◌, ◌+ℤ◌, All, ◌&&◌, ◌==◌, Bool, true, length, List, [], ◌∷◌, Option, None, option_and_then, ℤ, pos, if◌then◌else◌, map}
use Rattle.std.specs.BTreeMap.{BTreeMap, get, values, IsOrdered}
use Rattle.std.specs.Int.{int_div_euclid}
use Rattle.std.specs.List.{filter_map, flat_map, list_any}
use Rattle.std.specs.Option.{option_map, unwrap_or}
use Rattle.std.specs.Ordering.{int_cmp, int_eq}
use Rattle.fm_model.specs.declared.full.Tally.{Tally}
use Rattle.fm_model.specs.declared.loaded.Loaded.{Loaded}
use Rattle.fm_model.specs.declared.op.Op.{Op}
use Rattle.fm_model.specs.declared.row.Row.{Row}
use Rattle.fm_model.specs.Cell.{runs_of, times_of}
use Rattle.fm_model.specs.Collection.{tally}
use Rattle.fm_model.specs.Rising.{rising}
use Rattle.fm_model.specs.Rows.{best_row, row_at}
use Rattle.fm_list.specs.declared.by.By.{By}
use Rattle.fm_list.specs.declared.by.By.TheVariants.{Run, Time, Name}
use Rattle.fm_list.specs.Code.{code_of}
use Rattle.fm_list.specs.Found.{oldest_behind}
use Rattle.fm_list.specs.Selected.{part, part_after, AreSound, HaveTime}
use Rattle.fm_edition.specs.declared.maps.best.Best.{Best}
use Rattle.fm_edition.specs.declared.maps.index.Index.{Index}
use Rattle.fm_edition.specs.declared.maps.page_rows.Oldest.{Oldest}
use Rattle.fm_edition.specs.declared.maps.wanted.Wanted.{Wanted}
use Rattle.fm_edition.specs.declared.maps.wanted.Wanted.TheVariants.{After, At}
use Rattle.fm_edition.specs.Held.{Held, IsEdition}
use Rattle.fm_edition.specs.Kept.{KeptRows}
pub use Rattle.fm_edition.specs.Page.{found_in, is_among, or_none, some_of, Entries}

-- the codes of the names of some files, each once, rising
unfoldable pub codes_of : List Loaded → List ℤ
codes_of files = rising (map (λ (file : Loaded). code_of file.name) files)

-- the runs of some files, their valid times, or the codes of their names
unfoldable pub instants : By → List Loaded → List ℤ
instants Run files = runs_of files
instants Time files = times_of files
instants Name files = codes_of files

-- the number of the page of an instant
unfoldable pub page_of : ℤ → ℤ
page_of key = int_div_euclid key (pos 1_048_576)

-- pages of files by an instant
abbrev pub Pages : Type 0
Pages = BTreeMap ℤ Entries

-- what stands at an instant in the page of a number
abbrev pub in_page : Pages → ℤ → ℤ → Option (List Loaded)
in_page pages number key = option_and_then (λ page. get int_cmp page key) (get int_cmp pages number)

-- what stands there after an operation that touches some instants
unfoldable pub page_set : By → List ℤ → Op → (ℤ → ℤ → Option (List Loaded)) → ℤ → ℤ → Option (List Loaded)
page_set by touched op held number key =
    if int_eq (page_of key) number && is_among touched key
    then some_of (part_after by key op (or_none (held number key))) else held number key

-- an instant stands in its page, with its files, where there are any
unfoldable pub shown_in : By → List Loaded → ℤ → ℤ → Option (List Loaded)
shown_in by files number key = if int_eq (page_of key) number then some_of (part by files key) else None

-- the numbers of the pages rise, and the instants of each page
pub record AreOrdered (pages : Pages) : Type 0 where
  pub numbers : IsOrdered int_cmp pages
  pub each : All (λ page. IsOrdered int_cmp page) (values pages)

-- the pages have the files by each instant
pub record AreParts (by : By) (files : List Loaded) (pages : Pages) : Type 0 where
  pub ordered : AreOrdered pages
  pub shown : (number key : ℤ) → in_page pages number key ≡ shown_in by files number key

-- the entries of some pages, page after page
abbrev pub entries_in : List (ℤ × BTreeMap ℤ (List Loaded)) → List (ℤ × List Loaded)
entries_in pages = flat_map (λ (page : ℤ × BTreeMap ℤ (List Loaded)). page.1.entries) pages

-- the entries of all pages
abbrev pub entries_of : Pages → List (ℤ × List Loaded)
entries_of pages = entries_in pages.entries

-- the row that is wanted of a run and its files: that at an offset in seconds, or that at a valid time
abbrev pub entry_row : Wanted → ℤ × List Loaded → Option Row
entry_row (After seconds) entry = row_at entry.1 entry.0 (entry.0 +ℤ seconds)
entry_row (At valid) entry = row_at entry.1 entry.0 valid

-- the row of a valid time in the best time series, also with a least offset
abbrev pub best_of_entry : Option ℤ → ℤ × List Loaded → Option Row
best_of_entry least entry = best_row entry.1 least entry.0

-- the row of a valid time in the best time series
abbrev pub kept_row : ℤ × List Loaded → Option Row
kept_row = best_of_entry None

-- whether there is one file
abbrev pub is_one : List Loaded → Bool
is_one files = length files == 1

-- whether each of some instants is that of one file
abbrev pub each_one : List (ℤ × List Loaded) → Bool
each_one [] = true
each_one (entry ∷ entries) = is_one entry.1 && each_one entries

-- the least run of some files, and 0 where there is no file
abbrev pub oldest_run : List Loaded → ℤ
oldest_run files = unwrap_or (oldest_behind None files) (pos 0)

-- a valid time and the least run of its files
abbrev pub with_oldest : ℤ × List Loaded → Oldest
with_oldest entry = record { valid = entry.0; run = oldest_run entry.1 }

-- some valid times, each with the least run of its files
abbrev pub oldest_runs : List (ℤ × List Loaded) → List Oldest
oldest_runs entries = map with_oldest entries

-- what is kept of a page
abbrev pub page_rows : BTreeMap ℤ (List Loaded) → KeptRows
page_rows page = record {
  rows = filter_map kept_row page.entries;
  oldest = oldest_runs page.entries;
  alone = each_one page.entries;
}

-- what is kept of the rows of the best time series, page by page
abbrev pub RowPages : Type 0
RowPages = BTreeMap ℤ KeptRows

-- the rows that are kept of some pages, page after page
abbrev pub kept_rows : List (ℤ × KeptRows) → List Row
kept_rows pages = flat_map (λ (page : ℤ × KeptRows). page.1.rows) pages

-- what is kept of the page of a number, where there is such a page
unfoldable pub rows_at : Pages → ℤ → Option KeptRows
rows_at pages number = option_map page_rows (get int_cmp pages number)

-- whether one of some instants is in the page of a number
abbrev pub touches : List ℤ → ℤ → Bool
touches instants number = list_any (λ key. int_eq (page_of key) number) instants

-- each page of valid times has its rows
pub record AreBest (pages : Pages) (best : RowPages) : Type 0 where
  pub ordered : IsOrdered int_cmp best
  pub shown : (number : ℤ) → get int_cmp best number ≡ rows_at pages number

-- the rows of each page of valid times, and those of all pages
pub record IsBest (pages : Pages) (best : Best) : Type 0 where
  pub paged : AreBest pages best.pages
  pub whole : best.rows ≡ kept_rows best.pages.entries

-- there are files by a valid time, and they have it, and sound times
pub record IsTimed (entry : ℤ × List Loaded) : Type 0 where
  pub some : 0 < length entry.1
  pub have : HaveTime entry.0 entry.1
  pub sound : AreSound entry.1

-- the files by an instant have sound times
abbrev pub IsSound : ℤ × List Loaded → Type 0
IsSound entry = AreSound entry.1

-- the maps have the files by each run, valid time and code of a name, and the rows of the best time series
pub record AreMaps (files : List Loaded) (index : Index) : Type 0 where
  pub of_runs : AreParts Run files index.by_run
  pub of_times : AreParts Time files index.by_time
  pub of_names : AreParts Name files index.by_name
  pub of_best : IsBest index.by_time index.best

-- what every edition keeps, also of its tally and its maps
pub record IsIndexed (held : Held) (count : Tally) (index : Index) : Type 0 where
  pub sound : IsEdition held
  pub counted : count ≡ tally held.files
  pub maps : AreMaps held.files index
