-- What stands at each instant of a page after an operation.
use Rattle.std.proofs.Common.{◌≡◌, ℕ, ◌+◌, ◌<◌, Bool, true, false, List, [], ◌∷◌, ◌++◌, map, length, get_or, take, Option, Some, None, ℤ, refl, sym, ap, subst, ◌∙◌, inl, inr}
use Rattle.std.specs.Prelude.{All}
use Rattle.std.specs.BTreeMap.{BTreeMap, get, keys}
use Rattle.std.specs.Cmp.{signed_Decides}
use Rattle.std.specs.List.{cons_option, filter_map}
use Rattle.std.specs.Map.{keys_of, lookup}
use Rattle.std.specs.Option.{option_map}
use Rattle.std.specs.Ordering.{int_cmp, int_eq}
use Rattle.std.proofs.lemmas.Bool.{false≢true}
use Rattle.std.proofs.lemmas.List.{take_more}
use Rattle.std.proofs.lemmas.List.Elements.{All-nil, filter_map-append}
use Rattle.fm_model.specs.declared.loaded.Loaded.{Loaded}
use Rattle.fm_model.specs.declared.op.Op.{Op}
use Rattle.fm_model.specs.Rising.{rising, Rises}
use Rattle.fm_model.proofs.CellLemmas.{has-in, in-has}
use Rattle.fm_model.proofs.Members.{In, Each, Each-in, EachPair, AllPairs-from_each, In-append_left, In-append_right, In-map, each_from_All}
use Rattle.fm_model.proofs.RisingLemmas.{Above, In-rising, rises_rising}
use Rattle.fm_list.specs.declared.by.By.{By}
use Rattle.fm_list.specs.Change.{HasGone, IsAmongGone}
use Rattle.fm_edition.specs.declared.maps.page.Entry.{Entry}
use Rattle.fm_edition.specs.Page.{instants_of, is_among, map_of, or_none, shown, turned_at}
use Rattle.fm_edition.specs.Turning.{turned_entries, turned_entry}
use Rattle.fm_edition.proofs.EntryLemmas.{entry_found}
use Rattle.fm_edition.proofs.ShownLemmas.{keys-shown}
use Rattle.fm_edition.proofs.TurningLemmas.{turned_at-left}

-- some instants, each with what is found there
abbrev found_at : {A : Type 0} → (ℤ → Option A) → List ℤ → List (ℤ × A)
found_at {A} f instants = filter_map (λ key. option_map (λ (value : A). (key, value)) (f key)) instants

-- what is found at an instant, before those that are found at others
abbrev found_first : {A : Type 0} → ℤ → Option A → List (ℤ × A) → List (ℤ × A)
found_first {A} key o more = cons_option (option_map (λ (value : A). (key, value)) o) more

-- what stands by a key
abbrev value_at : {A : Type 0} → ℤ → List (ℤ × A) → Option A
value_at key entries = lookup (λ other. int_eq key other) entries

value-behind : {A : Type 0} (key other : ℤ) (o : Option A) (more : List (ℤ × A)) → int_eq key other ≡ false
    → value_at key (found_first other o more) ≡ value_at key more
value-behind key other None more apart = refl
value-behind key other (Some value) more apart = rw apart refl

-- nothing stands where nothing is found
found-none : {A : Type 0} (f : ℤ → Option A) (key : ℤ) (instants : List ℤ) → f key ≡ None
    → value_at key (found_at f instants) ≡ None
found-none f key [] none = refl
found-none {A} f key (other ∷ instants) none =
    by_test (int_eq key other) refl (found-none f key instants none)
  where
    by_test : (b : Bool) → int_eq key other ≡ b → value_at key (found_at f instants) ≡ None
        → value_at key (found_at f (other ∷ instants)) ≡ None
    by_test true is rest =
        let nothing : f other ≡ None = ap f (sym ((signed_Decides key other).0 is)) ∙ none in
        rw nothing rest
    by_test false is rest = value-behind key other (f other) (found_at f instants) is ∙ rest

value-first : {A : Type 0} (key other : ℤ) (o : Option A) (more : List (ℤ × A)) → int_eq key other ≡ true
    → (o ≡ None → value_at key more ≡ None) → value_at key (found_first other o more) ≡ o
value-first key other None more is rest = rest refl
value-first key other (Some value) more is rest = rw is refl

-- what is found at one of the instants stands there
found-some : {A : Type 0} (f : ℤ → Option A) (key : ℤ) (instants : List ℤ) → In key instants
    → value_at key (found_at f instants) ≡ f key
found-some f key [] here = absurd here
found-some {A} f key (other ∷ instants) here = by_test (int_eq key other) refl here (found-some f key instants)
  where
    by_test : (b : Bool) → int_eq key other ≡ b → In key (other ∷ instants)
        → (In key instants → value_at key (found_at f instants) ≡ f key)
        → value_at key (found_at f (other ∷ instants)) ≡ f key
    by_test true is there rest =
        let same : f other ≡ f key = ap f (sym ((signed_Decides key other).0 is)) in
        ap (λ o. value_at key (found_first other o (found_at f instants))) same
        ∙ value-first key other (f key) (found_at f instants) is (found-none f key instants)
    by_test false is (inl same) rest = absurd (false≢true (sym is ∙ (signed_Decides key other).1 (sym same)))
    by_test false is (inr later) rest = value-behind key other (f other) (found_at f instants) is ∙ rest later

each_first : {A : Type 0} (P : ℤ → Type 0) (key : ℤ) (o : Option A) (more : List (ℤ × A)) → P key
    → Each P (keys_of more) → Each P (keys_of (found_first key o more))
each_first P key None more first rest = rest
each_first P key (Some value) more first rest = (first, rest)

each_found : {A : Type 0} (P : ℤ → Type 0) (f : ℤ → Option A) (instants : List ℤ) → Each P instants
    → Each P (keys_of (found_at f instants))
each_found P f [] each = tt
each_found P f (key ∷ instants) each =
    each_first P key (f key) (found_at f instants) each.0 (each_found P f instants each.1)

rises_first : {A : Type 0} (key : ℤ) (o : Option A) (more : List (ℤ × A)) → Each (Above key) (keys_of more)
    → EachPair Above (keys_of more) → EachPair Above (keys_of (found_first key o more))
rises_first key None more above rest = rest
rises_first key (Some value) more above rest = (above, rest)

rises_found : {A : Type 0} (f : ℤ → Option A) (instants : List ℤ) → EachPair Above instants
    → EachPair Above (keys_of (found_at f instants))
rises_found f [] rises = tt
rises_found f (key ∷ instants) rises = rises_first key (f key) (found_at f instants)
    (each_found (Above key) f instants rises.0) (rises_found f instants rises.1)

-- the entries of a page after an operation rise
pub Rises-turned : (by : By) (touched : List ℤ) (op : Op) (page : BTreeMap ℤ (List Loaded)) (own instants : List ℤ)
    (lists : List (List Loaded)) (entries : List Entry) → instants ≡ rising (own ++ touched)
    → map (shown lists) entries ≡ turned_entries by touched op page instants → Rises (instants_of entries)
Rises-turned by touched op page own instants lists entries all are =
    let rises : EachPair Above instants = subst (EachPair Above) (sym all) (rises_rising (own ++ touched)) in
    let keys : keys_of (turned_entries by touched op page instants) ≡ instants_of entries =
    ap (λ (l : List (ℤ × List Loaded)). keys_of l) (sym are) ∙ keys-shown lists entries in
    AllPairs-from_each Above (instants_of entries) (subst (EachPair Above) keys
    (rises_found (λ key. turned_at by touched op key (get int_cmp page key)) instants rises))

not_among : (key : ℤ) (instants : List ℤ) (touched : List ℤ) → is_among instants key ≡ false
    → (In key touched → In key instants) → is_among touched key ≡ false
not_among key instants touched none holds = by_test (is_among touched key) refl
  where
    by_test : (b : Bool) → is_among touched key ≡ b → is_among touched key ≡ false
    by_test false is = is
    by_test true is = absurd (false≢true (sym none ∙ in-has key instants (holds (has-in key touched is))))

nothing_at : (page : BTreeMap ℤ (List Loaded)) (key : ℤ) (instants : List ℤ) → is_among instants key ≡ false
    → (In key (keys page) → In key instants) → get int_cmp page key ≡ None
nothing_at page key instants none holds = by_value (get int_cmp page key) refl
  where
    by_value : (o : Option (List Loaded)) → get int_cmp page key ≡ o → get int_cmp page key ≡ None
    by_value None is = is
    by_value (Some files) is = absurd (false≢true (sym none ∙ in-has key instants (holds
        (In-map (λ (entry : ℤ × List Loaded). entry.0) (key, files) page.entries (entry_found page key files is)))))

entries_get : (by : By) (touched : List ℤ) (op : Op) (page : BTreeMap ℤ (List Loaded)) (instants : List ℤ) (key : ℤ)
    → (In key (keys page) → In key instants) → (In key touched → In key instants)
    → value_at key (turned_entries by touched op page instants) ≡ turned_at by touched op key (get int_cmp page key)
entries_get by touched op page instants key own others = by_test (is_among instants key) refl
  where
    at : ℤ → Option (List Loaded)
    at k = turned_at by touched op k (get int_cmp page k)

    by_test : (b : Bool) → is_among instants key ≡ b
        → value_at key (turned_entries by touched op page instants) ≡ at key
    by_test true is = found-some at key instants (has-in key instants is)
    by_test false is =
        let none : at key ≡ None =
        turned_at-left by touched op key (get int_cmp page key) (not_among key instants touched is others)
        ∙ nothing_at page key instants is own in
        found-none at key instants none ∙ sym none

-- and show what stands at each instant after the operation
pub get-turned : (by : By) (touched : List ℤ) (op : Op) (page : BTreeMap ℤ (List Loaded)) (own instants : List ℤ)
    (lists : List (List Loaded)) (entries : List Entry) → keys page ≡ own → instants ≡ rising (own ++ touched)
    → map (shown lists) entries ≡ turned_entries by touched op page instants → (key : ℤ)
    → get int_cmp (map_of lists entries) key ≡ turned_at by touched op key (get int_cmp page key)
get-turned by touched op page own instants lists entries keys all are key =
    ap (value_at key) are ∙ entries_get by touched op page instants key
    (λ here. among (In-append_left key own touched (subst (In key) keys here)))
    (λ here. among (In-append_right key own touched here))
  where
    among : In key (own ++ touched) → In key instants
    among here = subst (In key) (sym all) (In-rising key (own ++ touched) here)

-- one instant more, with its files after the operation
pub turned_entries-more : (by : By) (touched : List ℤ) (op : Op) (page : BTreeMap ℤ (List Loaded)) (instants : List ℤ)
    (index : ℕ) (d : ℤ) (held : Option (List Loaded)) (made next : List (ℤ × List Loaded)) → index < length instants
    → get int_cmp page (get_or instants index d) ≡ held
    → made ≡ turned_entries by touched op page (take index instants)
    → next ≡ made ++ cons_option (turned_entry by touched op (get_or instants index d) held) []
    → next ≡ turned_entries by touched op page (take (index + 1) instants)
turned_entries-more by touched op page instants index d held made next within is so pushed =
    let at = λ (key : ℤ). turned_entry by touched op key (get int_cmp page key) in
    pushed
    ∙ ap (λ l. l ++ cons_option (turned_entry by touched op (get_or instants index d) held) []) so
    ∙ ap (λ o. turned_entries by touched op page (take index instants)
    ++ cons_option (turned_entry by touched op (get_or instants index d) o) []) (sym is)
    ∙ sym (filter_map-append at (take index instants) (get_or instants index d ∷ []))
    ∙ ap (filter_map at) (sym (take_more instants index d within))

-- what an operation takes out of the files by an instant is among what it takes out of those of the page
pub HasGone-found : (went : List Loaded) (op : Op) (page : BTreeMap ℤ (List Loaded)) (key : ℤ)
    (held : Option (List Loaded)) → All (λ (entry : ℤ × List Loaded). HasGone went op entry.1) page.entries
    → get int_cmp page key ≡ held → HasGone went op (or_none held)
HasGone-found went op page key None gone is = All-nil (IsAmongGone went op)
HasGone-found went op page key (Some files) gone is =
    Each-in (λ (entry : ℤ × List Loaded). HasGone went op entry.1) (key, files) page.entries
    (each_from_All (λ (entry : ℤ × List Loaded). HasGone went op entry.1) page.entries gone)
    (entry_found page key files is)
