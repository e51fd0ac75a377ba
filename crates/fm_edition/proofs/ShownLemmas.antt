-- A page as an ordered map, and the entry that a search finds among the instants.
use Rattle.std.proofs.Common.{◌≡◌, ℕ, ◌+◌, ◌<◌, ◌≤◌, ◌<ℤ◌, Bool, true, false, List, [], ◌∷◌, length, get_or, map, drop, None, Some, ℤ, pos, refl, sym, ap, subst, ◌∙◌, arith}
use Rattle.std.specs.Prelude.{◌||◌}
use Rattle.std.specs.BTreeMap.{get, IsOrdered}
use Rattle.std.specs.Cmp.{signed_Decides}
use Rattle.std.specs.List.{list_any}
use Rattle.std.specs.List.Sorted.{IsNonDecreasingBy, IsPartitionPoint, IsStrictlySortedBy}
use Rattle.std.specs.Map.{keys_of}
use Rattle.std.specs.Ordering.{int_cmp, int_eq, ordering_index}
use Rattle.std.specs.declared.cmp.Ordering.{Ordering}
use Rattle.std.specs.declared.cmp.Ordering.TheVariants.{Less, Equal, Greater}
use Rattle.std.proofs.lemmas.Bool.{false≢true}
use Rattle.std.proofs.lemmas.Cmp.{int_cmp_total, int_ranked}
use Rattle.std.proofs.lemmas.Int.{ints}
use Rattle.std.proofs.lemmas.List.{drop_more, get_or-map, length-map}
use Rattle.std.proofs.lemmas.List.Elements.{Contains-get_or}
use Rattle.std.proofs.lemmas.Map.Keys.{sorted_from_all_adjacent}
use Rattle.fm_model.specs.declared.loaded.Loaded.{Loaded}
use Rattle.fm_model.specs.Rising.{Rises}
use Rattle.fm_model.proofs.Members.{In, In-map, in_from_Contains}
use Rattle.fm_list.proofs.SearchLemmas.{among_nowhere}
use Rattle.fm_edition.specs.declared.maps.page.Entry.{Entry}
use Rattle.fm_edition.specs.Page.{instants_of, map_of, shown}
use Rattle.fm_edition.proofs.EntryLemmas.{found_entry}

-- a lesser instant compares so
less : (a b : ℤ) → a <ℤ b → int_cmp a b ≡ Less
less a b lt = by_cmp (int_cmp a b) refl
  where
    by_cmp : (o : Ordering) → int_cmp a b ≡ o → int_cmp a b ≡ Less
    by_cmp Less is = is
    by_cmp Equal is =
        let same : a ≡ b = int_ranked a b Equal (sym is) in
        absurd (omega (arith, ints, lt, same))
    by_cmp Greater is =
        let more : b <ℤ a = int_ranked a b Greater (sym is) in
        absurd (omega (arith, ints, lt, more))

-- the keys of a page are its instants
pub keys-shown : (lists : List (List Loaded)) (entries : List Entry)
    → keys_of (map (shown lists) entries) ≡ instants_of entries
keys-shown lists [] = refl
keys-shown lists (entry ∷ entries) = ap (λ l. entry.instant ∷ l) (keys-shown lists entries)

-- a page whose instants rise is in order
pub IsOrdered-shown : (lists : List (List Loaded)) (entries : List Entry) → Rises (instants_of entries)
    → IsOrdered int_cmp (map_of lists entries)
IsOrdered-shown lists entries rises = subst (IsStrictlySortedBy int_cmp) (sym (keys-shown lists entries))
    (sorted_from_all_adjacent int_cmp_total (instants_of entries) d
    (λ k within. less (get_or (instants_of entries) k d) (get_or (instants_of entries) (k + 1) d)
    (rises k (k + 1) d (omega arith) within)))
  where
    d : ℤ
    d = pos 0

abbrev entry_with : ℤ → Entry
entry_with instant = record { instant = instant; list = 0 }

-- the instant of an entry
instant_at : (entries : List Entry) (k : ℕ) (d : Entry) → k < length entries
    → get_or (instants_of entries) k d.instant ≡ (get_or entries k d).instant
instant_at entries k d within = get_or-map (λ (entry : Entry). entry.instant) entries k d d.instant within

apart : (a b : ℤ) → int_eq a b ≡ false → int_eq b a ≡ false
apart a b differ = by_test (int_eq b a) refl
  where
    by_test : (t : Bool) → int_eq b a ≡ t → int_eq b a ≡ false
    by_test false is = is
    by_test true is = absurd (false≢true (sym differ ∙ (signed_Decides a b).1 (sym ((signed_Decides b a).0 is))))

-- where no instant is a key, there is nothing by the key
none_by : (lists : List (List Loaded)) (entries : List Entry) (key : ℤ)
    → false ≡ list_any (λ other. int_eq other key) (instants_of entries) → get int_cmp (map_of lists entries) key ≡ None
none_by lists [] key none = refl
none_by lists (entry ∷ entries) key none = by_test (int_eq entry.instant key) refl none (none_by lists entries key)
  where
    more : Bool
    more = list_any (λ other. int_eq other key) (instants_of entries)

    by_test : (here : Bool) → int_eq entry.instant key ≡ here → false ≡ (here || more)
        → (false ≡ more → get int_cmp (map_of lists entries) key ≡ None)
        → get int_cmp (map_of lists (entry ∷ entries)) key ≡ None
    by_test true is some rest = absurd (false≢true some)
    by_test false is none rest = rw (apart entry.instant key is) (rest none)

-- what a search finds is by the key
pub shown_at : (lists : List (List Loaded)) (entries : List Entry) (key : ℤ) (at : ℕ) (d : Entry)
    → Rises (instants_of entries) → at < length entries
    → ((other : Entry) → int_cmp (get_or entries at other).instant key ≡ Equal)
    → get int_cmp (map_of lists entries) key ≡ Some (get_or lists (get_or entries at d).list [])
shown_at lists entries key at d rises within here =
    let entry = get_or entries at d in
    let files = get_or lists entry.list [] in
    let same : entry.instant ≡ key = int_ranked entry.instant key Equal (sym (here d)) in
    found_entry (map_of lists entries) key files (IsOrdered-shown lists entries rises)
    (subst (λ k. In (k, files) (map (shown lists) entries)) same
    (In-map (shown lists) entry entries (in_from_Contains entry entries (Contains-get_or entries at d within))))

-- where a search finds nothing, there is nothing by the key
pub shown_nowhere : (lists : List (List Loaded)) (entries : List Entry) (key : ℤ) (index : ℕ)
    → Rises (instants_of entries) → index ≤ length entries
    → (IsNonDecreasingBy (λ (entry : Entry). ordering_index (int_cmp entry.instant key)) entries
    → IsPartitionPoint (λ (entry : Entry). int_cmp entry.instant key ≡ Less)
    (λ (entry : Entry). int_cmp entry.instant key ≡ Greater) entries index)
    → get int_cmp (map_of lists entries) key ≡ None
shown_nowhere lists entries key index rises bound parted = none_by lists entries key
    (among_nowhere (instants_of entries) index key rises (λ falls.
    let parts = parted (λ i j d le within. rw (
      ← instant_at entries i d (omega (arith, le, within)),
      ← instant_at entries j d within,
    ) (falls i j d.instant le (omega (arith, within, long)))) in (
      λ k d from below. subst (λ other. int_cmp other key ≡ Less)
          (sym (instant_at entries k (entry_with d) (omega (arith, below, bound))))
          (parts.0 k (entry_with d) from below),
      λ k d from below. subst (λ other. int_cmp other key ≡ Greater)
          (sym (instant_at entries k (entry_with d) (omega (arith, below, long))))
          (parts.1 k (entry_with d) from (omega (arith, below, long))),
    )))
  where
    long : length (instants_of entries) ≡ length entries
    long = length-map entries (λ (entry : Entry). entry.instant)

-- the entries from an index on begin with the one there
pub drop_shown : (lists : List (List Loaded)) (entries : List Entry) (at : ℕ) (d : Entry) (files : List Loaded)
    → at < length entries → files ≡ get_or lists (get_or entries at d).list []
    → drop at (map (shown lists) entries)
    ≡ ((get_or entries at d).instant, files) ∷ drop (at + 1) (map (shown lists) entries)
drop_shown lists entries at d files within is = drop_more (map (shown lists) entries) at (shown lists d)
    (omega (arith, within, length-map entries (shown lists)))
    ∙ ap (λ p. p ∷ drop (at + 1) (map (shown lists) entries))
    (get_or-map (shown lists) entries at d (shown lists d) within
    ∙ ap (λ (l : List Loaded). ((get_or entries at d).instant, l)) (sym is))
