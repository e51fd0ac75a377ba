-- The entries of all pages: each instant of the files, with its files.
use Rattle.std.proofs.Common.{◌≡◌, ◌∷◌, [], Bool, true, false, cond, List, Option, Some, None, ℤ, refl, sym, subst, ◌∙◌, inl}
use Rattle.std.specs.Prelude.{filter}
use Rattle.std.specs.BTreeMap.{BTreeMap, get, values, IsOrdered}
use Rattle.std.specs.Cmp.{signed_Decides}
use Rattle.std.specs.Map.{keys_of}
use Rattle.std.specs.Ordering.{int_cmp, int_eq}
use Rattle.std.proofs.lemmas.Cmp.{int_eq_equiv}
use Rattle.std.proofs.lemmas.Map.Keys.{IsDistinct-from_sorted}
use Rattle.std.proofs.lemmas.Map.Views.{Contains-from_lookup, lookup-from_Contains}
use Rattle.std.proofs.lemmas.Option.{none-some, same_Some}
use Rattle.fm_model.specs.declared.loaded.Loaded.{Loaded}
use Rattle.fm_model.specs.Cell.{has_time, runs_of}
use Rattle.fm_model.proofs.CellLemmas.{has-in, in-has}
use Rattle.fm_model.proofs.InstantLemmas.{in_times_of}
use Rattle.fm_model.proofs.Members.{In, Each, Contains-from_in, in_from_Contains, Each-from_in, Each-in, each_from_All, In-filter, in_filter, In-flat_map, in_flat_map, In-map, in_map}
use Rattle.fm_model.proofs.RisingLemmas.{in_rising}
use Rattle.fm_list.specs.declared.by.By.{By}
use Rattle.fm_list.specs.declared.by.By.TheVariants.{Run, Time, Name}
use Rattle.fm_list.specs.Code.{code_of}
use Rattle.fm_list.specs.Selected.{part, selects}
use Rattle.fm_edition.specs.Indexes.{codes_of, entries_of, in_page, instants, page_of, shown_in, some_of, AreParts, Pages}
use Rattle.fm_edition.proofs.ChangeLemmas.{one_of}

-- an entry of a map in order is what is found there
pub found_entry : {A : Type 0} (m : BTreeMap ℤ A) (key : ℤ) (value : A) → IsOrdered int_cmp m
    → In (key, value) m.entries → get int_cmp m key ≡ Some value
found_entry m key value ordered held = lookup-from_Contains int_eq_equiv key value m.entries
    (IsDistinct-from_sorted int_cmp (keys_of m.entries) ordered) (Contains-from_in (key, value) m.entries held)

-- and what is found there is an entry
pub entry_found : {A : Type 0} (m : BTreeMap ℤ A) (key : ℤ) (value : A) → get int_cmp m key ≡ Some value
    → In (key, value) m.entries
entry_found m key value is = in_from_Contains (key, value) m.entries
    (Contains-from_lookup (λ x y e. (signed_Decides x y).0 e) key value m.entries is)

-- what an entry of a page says of the files
pub record IsShown (by : By) (files : List Loaded) (number key : ℤ) (held : List Loaded) : Type 0 where
  pub page : page_of key ≡ number
  pub own : part by files key ≡ held
  pub some : (file : Loaded) × In file held

some_held : (items held : List Loaded) → some_of items ≡ Some held
    → (items ≡ held) × ((file : Loaded) × In file held)
some_held [] held e = absurd (none-some held e)
some_held (item ∷ items) held e =
    let same : item ∷ items ≡ held = same_Some (item ∷ items) held e in
    (same, (item, subst (In item) same (inl refl)))

shown_parts : (by : By) (files : List Loaded) (number key : ℤ) (held : List Loaded)
    → shown_in by files number key ≡ Some held → IsShown by files number key held
unfolding shown_in
shown_parts by files number key held e = by_page (int_eq (page_of key) number) refl e
  where
    by_page : (a : Bool) → int_eq (page_of key) number ≡ a → cond a (some_of (part by files key)) None ≡ Some held
        → IsShown by files number key held
    by_page true is e =
        let parts = some_held (part by files key) held e in
        record { page = (signed_Decides (page_of key) number).0 is; own = parts.0; some = parts.1 }
    by_page false is e = absurd (none-some held e)

pub shown_entry : (by : By) (files : List Loaded) (pages : Pages) → AreParts by files pages → (number : ℤ)
    → (page : BTreeMap ℤ (List Loaded)) → In (number, page) pages.entries → (key : ℤ) (held : List Loaded)
    → In (key, held) page.entries → IsShown by files number key held
shown_entry by files pages are number page here key held entry =
    let outer : get int_cmp pages number ≡ Some page = found_entry pages number page are.ordered.numbers here in
    let order : IsOrdered int_cmp page = Each-in (λ p. IsOrdered int_cmp p) page (values pages)
    (each_from_All (λ p. IsOrdered int_cmp p) (values pages) are.ordered.each)
    (In-map (λ (p : ℤ × BTreeMap ℤ (List Loaded)). p.1) (number, page) pages.entries here) in
    let inner : get int_cmp page key ≡ Some held = found_entry page key held order entry in
    let there : in_page pages number key ≡ Some held = rw outer inner in
    shown_parts by files number key held (sym (are.shown number key) ∙ there)

-- the page of an entry, and what the entry says of the files
pub entry_shown : (by : By) (files : List Loaded) (pages : Pages) → AreParts by files pages → (entry : ℤ × List Loaded)
    → In entry (entries_of pages) → (number : ℤ) × IsShown by files number entry.0 entry.1
entry_shown by files pages are entry held =
    let page = in_flat_map (λ (p : ℤ × BTreeMap ℤ (List Loaded)). p.1.entries) entry pages.entries held in
    (page.0.0, shown_entry by files pages are page.0.0 page.0.1 page.1 entry.0 entry.1 page.2)

-- each entry has the files by its instant
pub entry_files : (by : By) (files : List Loaded) (pages : Pages) → AreParts by files pages
    → Each (λ (entry : ℤ × List Loaded). part by files entry.0 ≡ entry.1) (entries_of pages)
entry_files by files pages are = Each-from_in (λ (entry : ℤ × List Loaded). part by files entry.0 ≡ entry.1)
    (entries_of pages) (λ entry held. (entry_shown by files pages are entry held).1.own)

-- an instant of the files is that of a file that it selects
pub of_file : (by : By) (files : List Loaded) (key : ℤ) → In key (instants by files)
    → (file : Loaded) × In file files × (selects by key file ≡ true)
unfolding instants selects runs_of codes_of has_time
of_file Run files key held =
    let found = in_map (λ (f : Loaded). f.run) key files (in_rising key _ held) in
    (found.0, found.1, (signed_Decides found.0.run key).1 found.2)
of_file Time files key held =
    let found = in_times_of files key held in
    (found.0, found.1, in-has key found.0.times found.2)
of_file Name files key held =
    let found = in_map (λ (f : Loaded). code_of f.name) key files (in_rising key _ held) in
    (found.0, found.1, (signed_Decides (code_of found.0.name) key).1 found.2)

-- an instant of the files is a key
pub key_there : (by : By) (files : List Loaded) (pages : Pages) → AreParts by files pages → (key : ℤ)
    → In key (instants by files) → In key (keys_of (entries_of pages))
unfolding shown_in part
key_there by files pages are key held =
    let file = of_file by files key held in
    let own = In-filter (selects by key) file.0 files file.1 file.2 in
    some_there (filter (selects by key) files) file.0 own
    (are.shown (page_of key) key ∙ rw ((signed_Decides (page_of key) (page_of key)).1 refl) refl)
  where
    in_there : (o : Option (BTreeMap ℤ (List Loaded))) → get int_cmp pages (page_of key) ≡ o → (files : List Loaded)
        → in_page pages (page_of key) key ≡ Some files → In key (keys_of (entries_of pages))
    in_there None is held e = absurd (none-some held (rw is at e))
    in_there (Some page) is held e =
        let inner : get int_cmp page key ≡ Some held = rw is at e in
        In-map (λ (entry : ℤ × List Loaded). entry.0) (key, held) (entries_of pages)
        (In-flat_map (λ (p : ℤ × BTreeMap ℤ (List Loaded)). p.1.entries) (key, held) (page_of key, page) pages.entries
        (entry_found pages (page_of key) page is) (entry_found page key held inner))

    some_there : (items : List Loaded) (file : Loaded) → In file items
        → in_page pages (page_of key) key ≡ some_of items → In key (keys_of (entries_of pages))
    some_there [] file none e = absurd none
    some_there (item ∷ items) file own e = in_there (get int_cmp pages (page_of key)) refl (item ∷ items) e

-- a key is an instant of the files
pub key_held : (by : By) (files : List Loaded) (pages : Pages) → AreParts by files pages → (key : ℤ)
    → In key (keys_of (entries_of pages)) → In key (instants by files)
unfolding part
key_held by files pages are key there =
    let entry = in_map (λ (e : ℤ × List Loaded). e.0) key (entries_of pages) there in
    let page = in_flat_map (λ (p : ℤ × BTreeMap ℤ (List Loaded)). p.1.entries) entry.0 pages.entries entry.1 in
    let shown = shown_entry by files pages are page.0.0 page.0.1 page.1 entry.0.0 entry.0.1 page.2 in
    let file = in_filter (selects by entry.0.0) shown.some.0 files
    (subst (In shown.some.0) (sym shown.own) shown.some.1) in
    subst (λ k. In k (instants by files)) entry.2
    (has-in entry.0.0 (instants by files) (one_of by files entry.0.0 shown.some.0 file.0 file.1))
