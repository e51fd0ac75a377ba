-- What is looked up among the files by an instant is what is looked up among all files.
use Rattle.std.proofs.Common.{◌≡◌, Bool, true, false, List, [], ◌∷◌, Option, Some, None, ℤ, refl, sym, ap, ◌∙◌}
use Rattle.std.specs.Prelude.{filter, if◌then◌else◌}
use Rattle.std.specs.Option.{option_map, option_or}
use Rattle.std.specs.Ordering.{int_eq}
use Rattle.std.specs.Cmp.{signed_Decides}
use Rattle.std.proofs.lemmas.Bool.{and_parts, both_ways}
use Rattle.std.proofs.lemmas.List.Elements.{All-filter}
use Rattle.fm_model.specs.declared.loaded.Loaded.{Loaded}
use Rattle.fm_model.specs.Cell.{best, cell, has_cell, has_time, last_such, index_of_time, times_of, times_of_run, HasCell, HasTimeFrom}
use Rattle.fm_model.proofs.BestLemmas.{IsBest-from_best, best-from_IsBest, no_best_both}
use Rattle.fm_model.proofs.CellLemmas.{in-has}
use Rattle.fm_model.proofs.Members.{All-from_each, Any-from_in, Each-from_in, In-filter, in_filter, in_from_Any, in_from_Contains}
use Rattle.fm_model.proofs.CollectionLemmas.{filter-filter}
use Rattle.fm_list.specs.declared.by.By.{By}
use Rattle.fm_list.specs.declared.by.By.TheVariants.{Run, Time}
use Rattle.fm_list.specs.Selected.{part, selects, AreSound, HasSoundTimes, HaveTime}
use Rattle.fm_edition.specs.Indexes.{in_page, or_none, page_of, shown_in, AreParts, Pages}
use Rattle.fm_edition.proofs.PageLemmas.{or_none-some_of}

or_nothing : {A : Type 0} (o : Option A) → option_or o None ≡ o
or_nothing None = refl
or_nothing (Some x) = refl

-- a selection that has each item that passes has the last of them
pub last_such-filter : {A : Type 0} (test selects : A → Bool) → ((x : A) → test x ≡ true → selects x ≡ true)
    → (xs : List A) → last_such test (filter selects xs) ≡ last_such test xs
last_such-filter test selects has [] = refl
last_such-filter {A} test selects has (x ∷ xs) = by_tests (selects x) (test x) refl refl
    (last_such-filter test selects has xs)
  where
    by_tests : (a b : Bool) → selects x ≡ a → test x ≡ b → last_such test (filter selects xs) ≡ last_such test xs
        → last_such test (filter selects (x ∷ xs)) ≡ last_such test (x ∷ xs)
    by_tests true b sa tb more = simp sa (ap (λ o. option_or o (if test x then Some x else None)) more)
    by_tests false true sa tb more = absurd (both_ways (selects x) sa (has x tb))
    by_tests false false sa tb more = simp (sa, tb) (more ∙ sym (or_nothing (last_such test xs)))

-- the files by a valid time have its cells
pub cell-part : (files : List Loaded) (run valid : ℤ) → cell (part Time files valid) run valid ≡ cell files run valid
unfolding cell part selects has_cell
cell-part files run valid = ap (option_map (λ file. (file, index_of_time valid file)))
    (last_such-filter (has_cell run valid) (has_time valid)
    (λ file has. (and_parts (int_eq file.run run) (has_time valid file) has).1) files)

-- and its best run
best_both : (files : List Loaded) (valid : ℤ) (least : Option ℤ) (o : Option ℤ) → best files valid least ≡ o
    → best (filter (has_time valid) files) valid least ≡ o
unfolding has_time
best_both files valid least None is =
    (no_best_both (filter (has_time valid) files) valid least).1
    (All-filter (has_time valid) (λ (f : Loaded). ¬ HasTimeFrom valid least f) files
    ((no_best_both files valid least).0 is))
best_both files valid least (Some run) is =
    let found = IsBest-from_best files valid least run is in
    let held = in_from_Any (HasCell run valid) files found.has in
    best-from_IsBest (filter (has_time valid) files) valid least run (record {
      has = Any-from_in (HasCell run valid) held.0 (filter (has_time valid) files)
          (In-filter (has_time valid) held.0 files held.1
          (in-has valid held.0.times (in_from_Contains valid held.0.times held.2.time))) held.2;
      late = found.late;
      greatest = λ other any late.
          let of_other = in_from_Any (HasCell other valid) (filter (has_time valid) files) any in
          found.greatest other (Any-from_in (HasCell other valid) of_other.0 files
          (in_filter (has_time valid) of_other.0 files of_other.1).0 of_other.2) late;
    })

pub best-part : (files : List Loaded) (valid : ℤ) (least : Option ℤ)
    → best (part Time files valid) valid least ≡ best files valid least
unfolding part selects
best-part files valid least = best_both files valid least (best files valid least) refl

-- the files of a run have its valid times
pub times_of_run-part : (files : List Loaded) (run : ℤ) → times_of_run (part Run files run) run ≡ times_of_run files run
unfolding times_of_run part selects
times_of_run-part files run = ap times_of (filter-filter (λ (f : Loaded). int_eq f.run run) files)

pub sound-part : (by : By) (files : List Loaded) (key : ℤ)
    → AreSound files → AreSound (part by files key)
unfolding part
sound-part by files key sound = All-filter (selects by key) HasSoundTimes files sound

-- the files by a valid time have it
pub have-part : (files : List Loaded) (valid : ℤ) → HaveTime valid (part Time files valid)
unfolding part selects
have-part files valid = All-from_each (λ (file : Loaded). has_time valid file ≡ true) (filter (has_time valid) files)
    (Each-from_in (λ (file : Loaded). has_time valid file ≡ true) (filter (has_time valid) files)
    (λ file held. (in_filter (has_time valid) file files held).1))

-- the files by an instant are found in its page
pub part_at : (by : By) (files : List Loaded) (pages : Pages) (key : ℤ) → AreParts by files pages
    → or_none (in_page pages (page_of key) key) ≡ part by files key
unfolding shown_in
part_at by files pages key are = ap or_none (are.shown (page_of key) key)
    ∙ simp ((signed_Decides (page_of key) (page_of key)).1 refl) (or_none-some_of (part by files key))
