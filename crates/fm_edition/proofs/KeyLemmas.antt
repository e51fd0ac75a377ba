-- The keys of all pages rise: they are the instants of the files.
use Rattle.std.proofs.Common.{◌≡◌, ◌∷◌, ◌++◌, [], Bool, true, false, List, ℤ, pos, negsuc, ◌<ℤ◌, refl, sym, ap, subst, ◌∙◌, inl, inr, arith}
use Rattle.std.specs.Prelude.{map}
use Rattle.std.specs.BTreeMap.{BTreeMap, keys, values, IsOrdered}
use Rattle.std.specs.List.{flat_map}
use Rattle.std.specs.Map.{keys_of}
use Rattle.std.specs.Ordering.{int_cmp}
use Rattle.std.proofs.lemmas.Bool.{both_ways}
use Rattle.std.proofs.lemmas.Int.{ints}
use Rattle.fm_model.specs.declared.loaded.Loaded.{Loaded}
use Rattle.fm_model.specs.Rising.{Rises}
use Rattle.fm_model.proofs.InstantLemmas.{rises_runs_of, rises_times_of}
use Rattle.fm_model.proofs.Members.{In, Each, EachPair, AllPairs-from_each, each_from_AllPairs, Contains-from_in, in_from_Contains, Each-from_in, Each-in, each_from_All, in_flat_map, In-map, in_map}
use Rattle.fm_model.proofs.RisingLemmas.{Above, rises_rising, Rises-members}
use Rattle.fm_model.specs.declared.op.Op.{Op}
use Rattle.fm_model.specs.declared.op.Op.TheVariants.{Put, Expire, Retract}
use Rattle.fm_model.proofs.CellLemmas.{has-in}
use Rattle.fm_list.specs.Change.{added}
use Rattle.fm_list.specs.Selected.{selects, AreOwn}
use Rattle.fm_list.specs.declared.by.By.{By}
use Rattle.fm_list.specs.declared.by.By.TheVariants.{Run, Time, Name}
use Rattle.fm_edition.specs.Indexes.{codes_of, entries_of, instants, is_among, page_of, AreParts, Pages}
use Rattle.fm_edition.proofs.ChangeLemmas.{one_of}
use Rattle.fm_edition.proofs.EntryLemmas.{key_held, key_there, of_file, shown_entry}
use Rattle.fm_edition.proofs.OrderLemmas.{Rises-from_sorted}

-- a later page has later instants
pub page_rises : (a b : ℤ) → page_of a <ℤ page_of b → a <ℤ b
unfolding page_of
page_rises (pos a) (pos b) lt = omega (arith, ints)
page_rises (pos a) (negsuc b) lt = omega (arith, ints)
page_rises (negsuc a) (pos b) lt = omega (arith, ints)
page_rises (negsuc a) (negsuc b) lt = omega (arith, ints)

each_append : {A : Type 0} (P : A → Type 0) (xs ys : List A) → Each P xs → Each P ys → Each P (xs ++ ys)
each_append P [] ys before after = after
each_append P (x ∷ xs) ys before after = (before.0, each_append P xs ys before.1 after)

pairs_append : (xs ys : List ℤ) → EachPair Above xs → EachPair Above ys
    → ((a b : ℤ) → In a xs → In b ys → a <ℤ b) → EachPair Above (xs ++ ys)
pairs_append [] ys before after between = after
pairs_append (x ∷ xs) ys before after between = (
  each_append (Above x) xs ys before.0 (Each-from_in (Above x) ys (λ b held. between x b (inl refl) held)),
  pairs_append xs ys before.1 after (λ a b one two. between a b (inr one) two),
)

keys-append : (xs ys : List (ℤ × List Loaded)) → keys_of (xs ++ ys) ≡ keys_of xs ++ keys_of ys
keys-append [] ys = refl
keys-append (x ∷ xs) ys = ap (λ l. x.0 ∷ l) (keys-append xs ys)

-- pages whose numbers rise, with rising keys that are of their pages
record IsRising (entries : List (ℤ × BTreeMap ℤ (List Loaded))) : Type 0 where
  numbers : EachPair Above (map (λ (p : ℤ × BTreeMap ℤ (List Loaded)). p.0) entries)
  each : Each (λ (p : ℤ × BTreeMap ℤ (List Loaded)). EachPair Above (keys p.1)) entries
  own : Each (λ (p : ℤ × BTreeMap ℤ (List Loaded)). Each (λ key. page_of key ≡ p.0) (keys p.1)) entries

abbrev flat : List (ℤ × BTreeMap ℤ (List Loaded)) → List (ℤ × List Loaded)
flat entries = flat_map (λ (p : ℤ × BTreeMap ℤ (List Loaded)). p.1.entries) entries

-- the page of a key
key_page : (key : ℤ) (entries : List (ℤ × BTreeMap ℤ (List Loaded))) → In key (keys_of (flat entries))
    → (p : ℤ × BTreeMap ℤ (List Loaded)) × In p entries × In key (keys p.1)
key_page key entries there =
    let entry = in_map (λ (e : ℤ × List Loaded). e.0) key (flat entries) there in
    let page = in_flat_map (λ (p : ℤ × BTreeMap ℤ (List Loaded)). p.1.entries) entry.0 entries entry.1 in (
      page.0,
      page.1,
      subst (λ k. In k (keys page.0.1)) entry.2
          (In-map (λ (e : ℤ × List Loaded). e.0) entry.0 page.0.1.entries page.2),
    )

rises_flat : (entries : List (ℤ × BTreeMap ℤ (List Loaded))) → IsRising entries
    → EachPair Above (keys_of (flat entries))
rises_flat [] is = tt
rises_flat (p ∷ ps) is = subst (EachPair Above) (sym (keys-append p.1.entries (flat ps)))
    (pairs_append (keys p.1) (keys_of (flat ps)) is.each.0
    (rises_flat ps (record { numbers = is.numbers.1; each = is.each.1; own = is.own.1 }))
    (λ a b one two.
    let later = key_page b ps two in
    let less : p.0 <ℤ later.0.0 = Each-in (Above p.0) later.0.0 (map (λ (q : ℤ × BTreeMap ℤ (List Loaded)). q.0) ps)
    is.numbers.0 (In-map (λ (q : ℤ × BTreeMap ℤ (List Loaded)). q.0) later.0 ps later.1) in
    let own_a : page_of a ≡ p.0 = Each-in (λ key. page_of key ≡ p.0) a (keys p.1) is.own.0 one in
    let own_b : page_of b ≡ later.0.0 = Each-in (λ key. page_of key ≡ later.0.0) b (keys later.0.1)
    (Each-in (λ (q : ℤ × BTreeMap ℤ (List Loaded)). Each (λ key. page_of key ≡ q.0) (keys q.1)) later.0 ps is.own.1
    later.1) later.2 in
    page_rises a b (rw (own_a, own_b) less)))

are_rising : (by : By) (files : List Loaded) (pages : Pages) → AreParts by files pages → IsRising pages.entries
are_rising by files pages are = record {
  numbers = each_from_AllPairs Above (keys pages) (Rises-from_sorted (keys pages) are.ordered.numbers);
  each = Each-from_in (λ (p : ℤ × BTreeMap ℤ (List Loaded)). EachPair Above (keys p.1)) pages.entries (λ p here.
      each_from_AllPairs Above (keys p.1) (Rises-from_sorted (keys p.1)
      (Each-in (λ page. IsOrdered int_cmp page) p.1 (values pages)
      (each_from_All (λ page. IsOrdered int_cmp page) (values pages) are.ordered.each)
      (In-map (λ (q : ℤ × BTreeMap ℤ (List Loaded)). q.1) p pages.entries here))));
  own = Each-from_in (λ (p : ℤ × BTreeMap ℤ (List Loaded)). Each (λ key. page_of key ≡ p.0) (keys p.1)) pages.entries
      (λ p here. Each-from_in (λ key. page_of key ≡ p.0) (keys p.1) (λ key one.
      let e = in_map (λ (q : ℤ × List Loaded). q.0) key p.1.entries one in
      subst (λ k. page_of k ≡ p.0) e.2 (shown_entry by files pages are p.0 p.1 here e.0.0 e.0.1 e.1).page));
}

rises_instants : (by : By) (files : List Loaded) → EachPair Above (instants by files)
unfolding instants codes_of
rises_instants Run files = rises_runs_of files
rises_instants Time files = rises_times_of files
rises_instants Name files = rises_rising _

-- the instants of some files rise
pub Rises-instants : (by : By) (files : List Loaded) → Rises (instants by files)
Rises-instants by files = AllPairs-from_each Above (instants by files) (rises_instants by files)

-- the keys of all pages are the instants of the files
pub keys_are : (by : By) (files : List Loaded) (pages : Pages) → AreParts by files pages
    → keys_of (entries_of pages) ≡ instants by files
keys_are by files pages are = Rises-members (keys_of (entries_of pages)) (instants by files)
    (AllPairs-from_each Above (keys_of (entries_of pages)) (rises_flat pages.entries (are_rising by files pages are)))
    (Rises-instants by files)
    (λ key. (
      λ c. Contains-from_in key (instants by files)
          (key_held by files pages are key (in_from_Contains key (keys_of (entries_of pages)) c)),
      λ c. Contains-from_in key (keys_of (entries_of pages))
          (key_there by files pages are key (in_from_Contains key (instants by files) c)),
    ))

-- an instant is among those of one file where it selects the file
own_key : (by : By) (file : Loaded) (key : ℤ) → is_among (instants by (file ∷ [])) key ≡ selects by key file
own_key by file key = by_test (selects by key file) refl
  where
    not_there : selects by key file ≡ false → (b : Bool) → is_among (instants by (file ∷ [])) key ≡ b
        → is_among (instants by (file ∷ [])) key ≡ false
    not_there lacks false is = is
    not_there lacks true is =
        let found = of_file by (file ∷ []) key (has-in key (instants by (file ∷ [])) is) in
        elim found.1 [
          | inl same ↦ absurd (both_ways (selects by key file) lacks
              (subst (λ f. selects by key f ≡ true) (sym same) found.2))
          | inr none ↦ absurd none
        ]

    by_test : (b : Bool) → selects by key file ≡ b → is_among (instants by (file ∷ [])) key ≡ selects by key file
    by_test true has = one_of by (file ∷ []) key file (inl refl) has ∙ sym has
    by_test false lacks = not_there lacks (is_among (instants by (file ∷ [])) key) refl ∙ sym lacks

-- the instants of the file that an operation adds are those by which it is found
pub AreOwn-instants : (by : By) (op : Op) → AreOwn by op (instants by (added op))
AreOwn-instants by (Put file) = record {
  rises = Rises-instants by (file ∷ []);
  each = own_key by file;
}
AreOwn-instants by (Expire cutoff) = tt
AreOwn-instants by (Retract name) = tt
