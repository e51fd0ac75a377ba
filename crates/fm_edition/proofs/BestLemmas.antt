-- The rows that are kept page by page.
use Rattle.std.proofs.Common.{◌≡◌, ℕ, zero, suc, ◌+◌, ◌<◌, ◌≤◌, Bool, true, false, cond, List, [], ◌∷◌, length, ◌++◌, drop, get_or, take, Option, Some, None, ℤ, refl, sym, ap, subst, ◌∙◌, arith}
use Rattle.std.specs.Prelude.{◌||◌, All}
use Rattle.std.specs.BTreeMap.{BTreeMap, get, values, IsOrdered}
use Rattle.std.specs.List.{filter_map}
use Rattle.std.specs.Map.{keys_of}
use Rattle.std.specs.Option.{option_map}
use Rattle.std.specs.Ordering.{int_cmp, int_eq}
use Rattle.std.specs.Cmp.{signed_Decides}
use Rattle.std.proofs.lemmas.Bool.{false≢true}
use Rattle.std.proofs.lemmas.List.{take_more}
use Rattle.std.proofs.lemmas.List.Elements.{filter_map-append}
use Rattle.std.proofs.lemmas.List.Folds.{list_any-append}
use Rattle.std.proofs.lemmas.Option.{none-some, same_Some}
use Rattle.fm_model.specs.declared.loaded.Loaded.{Loaded}
use Rattle.fm_model.proofs.Members.{All-from_each, Contains-from_in, Each, Each-from_in, Each-in, In, In-flat_map, In-map, each_from_All, in_from_Contains, in_map}
use Rattle.fm_model.proofs.RisingLemmas.{Rises-members}
use Rattle.fm_edition.specs.Indexes.{entries_in, entries_of, kept_row, kept_rows, page_of, page_rows, rows_at, touches, AreBest, AreOrdered, Entries, IsTimed, Pages, RowPages}
use Rattle.fm_edition.specs.Kept.{KeptRows}
use Rattle.fm_edition.proofs.EntryLemmas.{entry_found, found_entry}
use Rattle.fm_edition.proofs.OrderLemmas.{Rises-from_sorted}

-- one more instant is in the page of a number or not
pub touches-more : (touched : List ℤ) (i : ℕ) (d number : ℤ) → i < length touched
    → touches (take (i + 1) touched) number
    ≡ (touches (take i touched) number || int_eq (page_of (get_or touched i d)) number)
touches-more touched i d number lt = ap (λ l. touches l number) (take_more touched i d lt)
    ∙ list_any-append (λ key. int_eq (page_of key) number) (take i touched) (get_or touched i d ∷ [])
    ∙ ap (λ b. touches (take i touched) number || b) (or_false (int_eq (page_of (get_or touched i d)) number))
  where
    or_false : (b : Bool) → (b || false) ≡ b
    or_false true = refl
    or_false false = refl

neither : (a b : Bool) → (a || b) ≡ false → (a ≡ false) × (b ≡ false)
neither false false none = (refl, refl)
neither false true none = absurd (false≢true (sym none))
neither true b none = absurd (false≢true (sym none))

-- a number that no instant up to an index touches is touched by none of those before it, and by none between
pub touches-less : (touched : List ℤ) (from at : ℕ) (d number : ℤ) → from < at → at ≤ length touched
    → touches (take at touched) number ≡ false
    → (touches (take from touched) number ≡ false) × (int_eq (page_of (get_or touched from d)) number ≡ false)
touches-less [] from at d number lt le none = absurd (omega (arith, lt, le))
touches-less (key ∷ keys) from zero d number lt le none = absurd (omega (arith, lt))
touches-less (key ∷ keys) zero (suc at) d number lt le none =
    (refl, (neither (int_eq (page_of key) number) (touches (take at keys) number) none).0)
touches-less (key ∷ keys) (suc from) (suc at) d number lt le none =
    let parts = neither (int_eq (page_of key) number) (touches (take at keys) number) none in
    let more = touches-less keys from at d number (omega (arith, lt)) (omega (arith, le)) parts.1 in
    (both _ _ parts.0 more.0, more.1)
  where
    both : (a b : Bool) → a ≡ false → b ≡ false → (a || b) ≡ false
    both false false x y = refl
    both true b x y = absurd (false≢true (sym x))
    both false true x y = absurd (false≢true (sym y))

-- the instant before an index touches its page
pub touches-last : (touched : List ℤ) (i : ℕ) (d : ℤ) → i < length touched
    → touches (take (i + 1) touched) (page_of (get_or touched i d)) ≡ true
touches-last touched i d lt =
    let key = get_or touched i d in
    touches-more touched i d (page_of key) lt
    ∙ ap (λ b. touches (take i touched) (page_of key) || b) ((signed_Decides (page_of key) (page_of key)).1 refl)
    ∙ or_true (touches (take i touched) (page_of key))
  where
    or_true : (b : Bool) → (b || true) ≡ true
    or_true true = refl
    or_true false = refl

-- a page is set, or was set already
pub set_step : {A : Type 0} (rows : ℤ → A) (key number : ℤ) (a : Bool) (first now next : A)
    → now ≡ cond a (rows number) first → next ≡ cond (int_eq key number) (rows key) now
    → next ≡ cond (a || int_eq key number) (rows number) first
set_step {A} rows key number a first now next before set = by_test (int_eq key number) refl set
  where
    all : (a : Bool) → cond (a || true) (rows number) first ≡ rows number
    all true = refl
    all false = refl

    rest : (a : Bool) → cond (a || false) (rows number) first ≡ cond a (rows number) first
    rest true = refl
    rest false = refl

    by_test : (b : Bool) → int_eq key number ≡ b → next ≡ cond b (rows key) now
        → next ≡ cond (a || b) (rows number) first
    by_test true is set = set ∙ ap rows ((signed_Decides key number).0 is) ∙ sym (all a)
    by_test false is set = set ∙ before ∙ sym (rest a)

pub same_step : {A : Type 0} (rows : ℤ → A) (key number : ℤ) (a : Bool) (first now : A)
    → (key ≡ number → a ≡ true) → now ≡ cond a (rows number) first
    → now ≡ cond (a || int_eq key number) (rows number) first
same_step {A} rows key number a first now known before = by_test (int_eq key number) refl
  where
    rest : (a : Bool) → cond a (rows number) first ≡ cond (a || false) (rows number) first
    rest true = refl
    rest false = refl

    by_test : (b : Bool) → int_eq key number ≡ b → now ≡ cond (a || b) (rows number) first
    by_test true is =
        let there : a ≡ true = known ((signed_Decides key number).0 is) in
        rw there (rw there at before)
    by_test false is = before ∙ rest a

-- a page that no instant touches has its rows already
pub all_made : {A : Type 0} (rows before : A) (touched : Bool) (now : A) → (touched ≡ false → before ≡ rows)
    → now ≡ cond touched rows before → now ≡ rows
all_made rows before true now same made = made
all_made rows before false now same made = made ∙ same refl

-- the files by each instant of a page have it
pub timed_page : (pages : Pages) (number : ℤ) (page : BTreeMap ℤ (List Loaded)) → All IsTimed (entries_of pages)
    → get int_cmp pages number ≡ Some page → All IsTimed page.entries
timed_page pages number page all found = All-from_each IsTimed page.entries
    (Each-from_in IsTimed page.entries (λ entry held.
    Each-in IsTimed entry (entries_of pages) (each_from_All IsTimed (entries_of pages) all)
    (In-flat_map (λ (p : ℤ × BTreeMap ℤ (List Loaded)). p.1.entries) entry (number, page) pages.entries
    (entry_found pages number page found) held)))

-- the rows of a page are kept
abbrev pub HasKept : RowPages → ℤ × BTreeMap ℤ (List Loaded) → Type 0
HasKept best page = get int_cmp best page.0 ≡ Some (page_rows page.1)

-- the rows of each page are kept
pub kept_entries : (pages : Pages) (best : RowPages) → AreOrdered pages → AreBest pages best
    → All (HasKept best) pages.entries
unfolding rows_at
kept_entries pages best ordered are = All-from_each (HasKept best) pages.entries
    (Each-from_in (HasKept best) pages.entries (λ page held.
    are.shown page.0 ∙ ap (option_map page_rows) (found_entry pages page.0 page.1 ordered.numbers held)))

-- the instants of a page rise
abbrev pub HasOrder : ℤ × BTreeMap ℤ (List Loaded) → Type 0
HasOrder page = IsOrdered int_cmp page.1

-- the instants of each page rise
pub ordered_entries : (pages : Pages) → AreOrdered pages → All HasOrder pages.entries
ordered_entries pages ordered = All-from_each HasOrder pages.entries
    (Each-from_in HasOrder pages.entries (λ page held.
    Each-in (λ p. IsOrdered int_cmp p) page.1 (values pages)
    (each_from_All (λ p. IsOrdered int_cmp p) (values pages) ordered.each)
    (In-map (λ (p : ℤ × BTreeMap ℤ (List Loaded)). p.1) page pages.entries held)))

some_page : (o : Option Entries) (kept : KeptRows) → option_map page_rows o ≡ Some kept
    → (page : Entries) × (o ≡ Some page)
some_page None kept e = absurd (none-some kept e)
some_page (Some page) kept e = (page, refl)

-- what is kept has the numbers of the pages
same_numbers : (pages : Pages) (best : RowPages) → AreOrdered pages → AreBest pages best
    → keys_of best.entries ≡ keys_of pages.entries
unfolding rows_at
same_numbers pages best ordered are = Rises-members (keys_of best.entries) (keys_of pages.entries)
    (Rises-from_sorted (keys_of best.entries) are.ordered)
    (Rises-from_sorted (keys_of pages.entries) ordered.numbers)
    (λ number. (
      λ c. Contains-from_in number (keys_of pages.entries)
          (there number (in_from_Contains number (keys_of best.entries) c)),
      λ c. Contains-from_in number (keys_of best.entries)
          (back number (in_from_Contains number (keys_of pages.entries) c)),
    ))
  where
    there : (number : ℤ) → In number (keys_of best.entries) → In number (keys_of pages.entries)
    there number here =
        let entry = in_map (λ (e : ℤ × KeptRows). e.0) number best.entries here in
        let key = entry.0.0 in
        let page = some_page (get int_cmp pages key) entry.0.1
        (sym (are.shown key) ∙ found_entry best key entry.0.1 are.ordered entry.1) in
        subst (λ n. In n (keys_of pages.entries)) entry.2 (In-map (λ (p : ℤ × Entries). p.0) (key, page.0)
        pages.entries (entry_found pages key page.0 page.1))

    back : (number : ℤ) → In number (keys_of pages.entries) → In number (keys_of best.entries)
    back number here =
        let entry = in_map (λ (p : ℤ × Entries). p.0) number pages.entries here in
        let key = entry.0.0 in
        let page = entry.0.1 in
        let kept : get int_cmp best key ≡ Some (page_rows page) =
        are.shown key ∙ ap (option_map page_rows) (found_entry pages key page ordered.numbers entry.1) in
        subst (λ n. In n (keys_of best.entries)) entry.2 (In-map (λ (e : ℤ × KeptRows). e.0) (key, page_rows page)
        best.entries (entry_found best key (page_rows page) kept))

-- an entry is what is found at its number
abbrev IsFound : RowPages → ℤ × KeptRows → Type 0
IsFound best kept = get int_cmp best kept.0 ≡ Some kept.1

rows-of_pages : (best : RowPages) (made : List (ℤ × KeptRows)) (pages : List (ℤ × Entries))
    → keys_of made ≡ keys_of pages → Each (IsFound best) made → Each (HasKept best) pages
    → kept_rows made ≡ filter_map kept_row (entries_in pages)
rows-of_pages best [] [] same found kept = refl
rows-of_pages best [] (page ∷ pages) same found kept = absurd cc
rows-of_pages best (own ∷ made) [] same found kept = absurd cc
rows-of_pages best (own ∷ made) (page ∷ pages) same found kept =
    let number : own.0 ≡ page.0 = ap (λ l. get_or l 0 own.0) same in
    let others : keys_of made ≡ keys_of pages = ap (drop 1) same in
    let rows : own.1 ≡ page_rows page.1 = same_Some own.1 (page_rows page.1)
    (sym found.0 ∙ ap (get int_cmp best) number ∙ kept.0) in
    ap (λ (k : KeptRows). k.rows ++ kept_rows made) rows
    ∙ ap (λ l. (page_rows page.1).rows ++ l) (rows-of_pages best made pages others found.1 kept.1)
    ∙ sym (filter_map-append kept_row page.1.entries (entries_in pages))

-- the rows that are kept of all pages are those of the best time series
pub kept-from_pages : (pages : Pages) (best : RowPages) → AreOrdered pages → AreBest pages best
    → kept_rows best.entries ≡ filter_map kept_row (entries_of pages)
kept-from_pages pages best ordered are = rows-of_pages best best.entries pages.entries
    (same_numbers pages best ordered are)
    (Each-from_in (IsFound best) best.entries (λ kept held. found_entry best kept.0 kept.1 are.ordered held))
    (each_from_All (HasKept best) pages.entries (kept_entries pages best ordered are))
