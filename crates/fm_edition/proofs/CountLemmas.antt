-- How many valid times have a best run.
use Rattle.std.proofs.Common.{◌≡◌, ℕ, ◌+◌, ◌≤◌, ◌<◌, ◌^◌, Bool, true, false, cond, List, [], ◌∷◌, ◌++◌, length, Option, Some, None, ℤ, refl, sym, ap, ◌∙◌, arith}
use Rattle.std.specs.Prelude.{int_lt, is_some, option_and_then, sum_by}
use Rattle.std.specs.List.{filter_map, cons_option, flat_map}
use Rattle.std.specs.Option.{option_map}
use Rattle.std.specs.Ordering.{int_eq}
use Rattle.std.proofs.lemmas.Bool.{false≢true}
use Rattle.std.proofs.lemmas.List.{length-append, length-map}
use Rattle.std.proofs.lemmas.List.Concat.{length-flat_map}
use Rattle.std.proofs.lemmas.List.Elements.{filter_map-append}
use Rattle.fm_model.specs.declared.limit.TheConstants.{MAX_ROWS}
use Rattle.fm_model.specs.declared.loaded.Loaded.{Loaded}
use Rattle.fm_model.specs.declared.row.Row.{Row}
use Rattle.fm_model.specs.Cell.{best, cell, times_of}
use Rattle.fm_model.specs.Collection.{tally, IsWithin}
use Rattle.fm_model.specs.Rising.{insert_once, rising}
use Rattle.fm_model.specs.Rows.{best_row, row_at}
use Rattle.fm_model.proofs.BestLemmas.{cell-from_Any, IsBest-from_best, value-from_some}
use Rattle.fm_list.specs.declared.by.By.TheVariants.{Time}
use Rattle.fm_edition.specs.Indexes.{entries_of, instants, AreParts, Pages}
use Rattle.fm_edition.proofs.KeyLemmas.{keys_are}
use Rattle.fm_edition.proofs.TallyLemmas.{bounds}

-- there is a row exactly where there is a best run
pub is_some-best_row : (files : List Loaded) (least : Option ℤ) (valid : ℤ)
    → is_some (best_row files least valid) ≡ is_some (best files valid least)
unfolding best_row row_at
is_some-best_row files least valid = by_best (best files valid least) refl
  where
    own : ℤ → Option Row
    own run = option_map (λ (found : Loaded × ℕ). record { valid = valid; run = run; file = found.0; index = found.1 })
        (cell files run valid)

    by_best : (o : Option ℤ) → best files valid least ≡ o → is_some (option_and_then own o) ≡ is_some o
    by_best None is = refl
    by_best (Some run) is =
        let there = value-from_some (cell files run valid)
        (cell-from_Any files run valid (IsBest-from_best files valid least run is).has) in
        rw there.1 refl

-- one more item that something is made of
pub counted_more : {A B : Type 0} (make : A → Option B) (count : ℕ) (item : A) (rest before : List A) (whole : ℕ)
    → before ≡ item ∷ rest → count + length (filter_map make before) ≡ whole → is_some (make item) ≡ true
    → count + 1 + length (filter_map make rest) ≡ whole
counted_more {A} {B} make count item rest before whole is sum some = by_item (make item) refl some
    (ap (λ l. count + length (filter_map make l)) (sym is) ∙ sum)
  where
    by_item : (o : Option B) → make item ≡ o → is_some o ≡ true
        → count + length (cons_option (make item) (filter_map make rest)) ≡ whole
        → count + 1 + length (filter_map make rest) ≡ whole
    by_item None is some sum = absurd (false≢true some)
    by_item (Some made) is some sum =
        let all : count + length (made ∷ filter_map make rest) ≡ whole = rw is at sum in
        omega (arith, all)

-- an item that nothing is made of
pub counted_passed : {A B : Type 0} (make : A → Option B) (count : ℕ) (item : A) (rest before : List A) (whole : ℕ)
    → before ≡ item ∷ rest → count + length (filter_map make before) ≡ whole → is_some (make item) ≡ false
    → count + length (filter_map make rest) ≡ whole
counted_passed {A} {B} make count item rest before whole is sum none = by_item (make item) refl none
    (ap (λ l. count + length (filter_map make l)) (sym is) ∙ sum)
  where
    by_item : (o : Option B) → make item ≡ o → is_some o ≡ false
        → count + length (cons_option (make item) (filter_map make rest)) ≡ whole
        → count + length (filter_map make rest) ≡ whole
    by_item None is none sum = rw is at sum
    by_item (Some made) is none sum = absurd (false≢true (sym none))

-- one more page
pub counted_page : {A B : Type 0} (make : A → Option B) (count : ℕ) (items rest : List A) (whole : ℕ)
    → count + length (filter_map make (items ++ rest)) ≡ whole
    → (count + length (filter_map make items)) + length (filter_map make rest) ≡ whole
counted_page make count items rest whole sum =
    let parts : length (filter_map make (items ++ rest))
    ≡ length (filter_map make items) + length (filter_map make rest) =
    ap length (filter_map-append make items rest) ∙ length-append (filter_map make items) (filter_map make rest) in
    omega (arith, parts, sum)

length-insert_once : (instant : ℤ) (instants : List ℤ) → length (insert_once instant instants) ≤ length instants + 1
unfolding insert_once
length-insert_once instant [] = omega arith
length-insert_once instant (first ∷ more) = by_tests (int_eq instant first) (length-insert_once instant more)
  where
    by_tests : (a : Bool) → length (insert_once instant more) ≤ length more + 1
        → length (cond a (first ∷ more)
        (cond (int_lt instant first) (instant ∷ first ∷ more) (first ∷ insert_once instant more)))
        ≤ length (first ∷ more) + 1
    by_tests true le = omega arith
    by_tests false le = by_less (int_lt instant first) le
      where
        by_less : (b : Bool) → length (insert_once instant more) ≤ length more + 1
            → length (cond b (instant ∷ first ∷ more) (first ∷ insert_once instant more)) ≤ length (first ∷ more) + 1
        by_less true le = omega arith
        by_less false le = omega (arith, le)

-- a list in order is no longer than the list
pub length-rising : (instants : List ℤ) → length (rising instants) ≤ length instants
unfolding rising
length-rising [] = omega arith
length-rising (instant ∷ more) = omega (arith, length-rising more, length-insert_once instant (rising more))

-- there are few valid times
pub entries_are_few : (files : List Loaded) (pages : Pages) → AreParts Time files pages → IsWithin (tally files)
    → length (entries_of pages) < 2 ^ 32
unfolding instants times_of
entries_are_few files pages are within =
    let rows : sum_by (λ (f : Loaded). length f.times) files ≤ MAX_ROWS = (bounds files within).rows in
    let times : length (rising (flat_map (λ (f : Loaded). f.times) files))
    ≤ length (flat_map (λ (f : Loaded). f.times) files) = length-rising (flat_map (λ (f : Loaded). f.times) files) in
    let all : length (flat_map (λ (f : Loaded). f.times) files) ≡ sum_by (λ (f : Loaded). length f.times) files =
    length-flat_map (λ (f : Loaded). f.times) files in
    let keys : length (entries_of pages) ≡ length (rising (flat_map (λ (f : Loaded). f.times) files)) =
    sym (length-map (entries_of pages) (λ (e : ℤ × List Loaded). e.0)) ∙ ap length (keys_are Time files pages are) in
    omega (arith, rows, times, all, keys)
