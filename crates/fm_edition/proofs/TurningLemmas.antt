-- What is known of the lists of a page in an operation stays known, and what its entries show grows by what is pushed.
use Rattle.std.proofs.Common.{◌≡◌, ℕ, zero, suc, ◌+◌, ◌<◌, Bool, true, false, eqb, List, [], ◌∷◌, ◌++◌, map, length, get_or, Option, Some, None, ℤ, refl, sym, ap, ◌∙◌, arith}
use Rattle.std.specs.Prelude.{All, filter, slice_get, slice_set}
use Rattle.std.specs.List.{cons_option}
use Rattle.std.specs.Option.{option_map}
use Rattle.std.proofs.lemmas.Bool.{eqb-false, eqb-true}
use Rattle.std.proofs.lemmas.List.{append-nil, get_or-set_other, get_or-set_same, length-append, map-append}
use Rattle.fm_model.specs.declared.loaded.Loaded.{Loaded}
use Rattle.fm_model.specs.declared.op.Op.{Op}
use Rattle.fm_model.proofs.Members.{Each, All-from_each, Each-push, each_from_All}
use Rattle.fm_list.specs.declared.by.By.{By}
use Rattle.fm_list.specs.Change.{added, keeps}
use Rattle.fm_list.specs.Selected.{part_after, selects}
use Rattle.fm_edition.specs.declared.maps.page.Entry.{Entry}
use Rattle.fm_edition.specs.declared.maps.page.turning.spots.Spot.{Spot}
use Rattle.fm_edition.specs.declared.maps.page.turning.spots.Spot.TheVariants.{Unknown, Known}
use Rattle.fm_edition.specs.declared.maps.page.turning.spots.Spots.{Spots}
use Rattle.fm_edition.specs.declared.maps.page.turning.turn.Turn.{Turn}
use Rattle.fm_edition.specs.declared.maps.page.turning.turn.Turn.TheVariants.{Leaves, Takes, Adds}
use Rattle.fm_edition.specs.Page.{is_among, or_none, shown, some_of, turned_at, IsListed}
use Rattle.fm_edition.specs.Turning.{known, no_spots, spot_of, turned, with_spot, AreUnknown, IsSpot, StandAt, Stay}

-- an instant that isn't touched has the files that it had
pub turned_at-left : (by : By) (touched : List ℤ) (op : Op) (key : ℤ) (held : Option (List Loaded))
    → is_among touched key ≡ false → turned_at by touched op key held ≡ held
unfolding turned_at
turned_at-left by touched op key held left = rw left refl

-- what an operation adds at an instant that it touches stands behind the files that it leaves there
pub turned_at-touched : (by : By) (touched : List ℤ) (op : Op) (key : ℤ) (held : Option (List Loaded))
    (more : List Loaded) → is_among touched key ≡ true → filter (selects by key) (added op) ≡ more
    → turned_at by touched op key held ≡ some_of (filter (keeps op) (or_none held) ++ more)
unfolding turned_at part_after
turned_at-touched by touched op key held more here adds =
    rw here (ap (λ l. some_of (filter (keeps op) (or_none held) ++ l)) adds)

pub turned_at-taken : (by : By) (touched : List ℤ) (op : Op) (key : ℤ) (held : Option (List Loaded))
    → is_among touched key ≡ true → filter (selects by key) (added op) ≡ []
    → turned_at by touched op key held ≡ some_of (filter (keeps op) (or_none held))
turned_at-taken by touched op key held here none =
    turned_at-touched by touched op key held [] here none ∙ ap some_of (append-nil (filter (keeps op) (or_none held)))

default_more : {A : Type 0} (items : List A) (item : A) → ((index : ℕ) → get_or items index item ≡ item)
    → (index : ℕ) → get_or (items ++ item ∷ []) index item ≡ item
default_more [] item each zero = refl
default_more [] item each (suc index) = refl
default_more (first ∷ items) item each zero = each 0
default_more (first ∷ items) item each (suc index) = default_more items item (λ k. each (suc k)) index

-- spots of which nothing is known, and one more of them
pub AreUnknown-more : (number : ℕ) (spots : List Spots) → AreUnknown number spots
    → AreUnknown (number + 1) (spots ++ no_spots ∷ [])
AreUnknown-more number spots are = record {
  count = length-append spots (no_spots ∷ []) ∙ ap (λ n. n + 1) are.count;
  each = default_more spots no_spots are.each;
}

-- what stands among some lists stands there among more
StandAt-stays : (lists next : List (List Loaded)) (files : Option (List Loaded)) (at : Option ℕ) → Stay lists next
    → StandAt lists files at → StandAt next files at
StandAt-stays lists next files None stay stands = stands
StandAt-stays lists next files (Some at) stay stands =
    (omega (arith, stay.within, stands.0), stands.1 ∙ ap Some (sym (stay.same at stands.0)))

IsSpot-stays : (lists next : List (List Loaded)) (files : Option (List Loaded)) (spot : Spot) → Stay lists next
    → IsSpot lists files spot → IsSpot next files spot
IsSpot-stays lists next files Unknown stay is = tt
IsSpot-stays lists next files (Known at) stay is = StandAt-stays lists next files at stay is

spot_noted : (lists next : List (List Loaded)) (op : Op) (held : Option (List Loaded)) (spots : Spots)
    (turn other : Turn) (at : Option ℕ) → Stay lists next → StandAt next (turned turn op held) at
    → IsSpot lists (turned other op held) (spot_of other spots)
    → IsSpot next (turned other op held) (spot_of other (with_spot turn (known at) spots))
spot_noted lists next op held spots Leaves Leaves at stay stands is = stands
spot_noted lists next op held spots Leaves Takes at stay stands is = IsSpot-stays lists next _ spots.taken stay is
spot_noted lists next op held spots Leaves Adds at stay stands is = IsSpot-stays lists next _ spots.added stay is
spot_noted lists next op held spots Takes Leaves at stay stands is = IsSpot-stays lists next _ spots.left stay is
spot_noted lists next op held spots Takes Takes at stay stands is = stands
spot_noted lists next op held spots Takes Adds at stay stands is = IsSpot-stays lists next _ spots.added stay is
spot_noted lists next op held spots Adds Leaves at stay stands is = IsSpot-stays lists next _ spots.left stay is
spot_noted lists next op held spots Adds Takes at stay stands is = IsSpot-stays lists next _ spots.taken stay is
spot_noted lists next op held spots Adds Adds at stay stands is = stands

-- the spots of each list are so once that of one list is noted
pub each-noted : (before lists next : List (List Loaded)) (op : Op) (spots : List Spots) (index : ℕ) (turn : Turn)
    (at : Option ℕ) → index < length spots → Stay lists next
    → StandAt next (turned turn op (slice_get before index)) at
    → ((k : ℕ) (other : Turn)
    → IsSpot lists (turned other op (slice_get before k)) (spot_of other (get_or spots k no_spots)))
    → (k : ℕ) (other : Turn) → IsSpot next (turned other op (slice_get before k)) (spot_of other
    (get_or (slice_set spots index (with_spot turn (known at) (get_or spots index no_spots))) k no_spots))
each-noted before lists next op spots index turn at within stay stands each k other = by_test (eqb k index) refl
  where
    noted : Spots
    noted = with_spot turn (known at) (get_or spots index no_spots)

    by_test : (b : Bool) → eqb k index ≡ b → IsSpot next (turned other op (slice_get before k))
        (spot_of other (get_or (slice_set spots index noted) k no_spots))
    by_test true is =
        let same : k ≡ index = eqb-true k index is in
        rw (same, get_or-set_same spots index noted no_spots within)
        (spot_noted lists next op (slice_get before index) (get_or spots index no_spots) turn other at stay stands
        (each index other))
    by_test false is =
        rw (get_or-set_other spots index k noted no_spots (eqb-false k index is))
        (IsSpot-stays lists next _ (spot_of other (get_or spots k no_spots)) stay (each k other))

each_listed : (lists next : List (List Loaded)) (entries : List Entry) → Stay lists next
    → Each (IsListed lists) entries → Each (IsListed next) entries
each_listed lists next [] stay listed = tt
each_listed lists next (entry ∷ entries) stay listed =
    (omega (arith, stay.within, listed.0), each_listed lists next entries stay listed.1)

each_shown : (lists next : List (List Loaded)) (entries : List Entry) → Stay lists next
    → Each (IsListed lists) entries → map (shown next) entries ≡ map (shown lists) entries
each_shown lists next [] stay listed = refl
each_shown lists next (entry ∷ entries) stay listed =
    rw (stay.same entry.list listed.0, each_shown lists next entries stay listed.1) refl

-- the entries of some lists show the same of more
pub shown-stays : (lists next : List (List Loaded)) (entries : List Entry) → Stay lists next
    → All (IsListed lists) entries → map (shown next) entries ≡ map (shown lists) entries
shown-stays lists next entries stay listed =
    each_shown lists next entries stay (each_from_All (IsListed lists) entries listed)

-- what the entries show once an instant without files is left out
pub pushed-none : (lists next : List (List Loaded)) (entries : List Entry) (key : ℤ) (now files : Option (List Loaded))
    → Stay lists next → All (IsListed lists) entries → now ≡ files → StandAt next files None
    → map (shown next) entries
    ≡ map (shown lists) entries ++ cons_option (option_map (λ (own : List Loaded). (key, own)) now) []
pushed-none lists next entries key now files stay listed is none =
    rw (is, none) (shown-stays lists next entries stay listed ∙ sym (append-nil (map (shown lists) entries)))

-- and once an entry is added for one with files
pub pushed-some : (lists next : List (List Loaded)) (entries : List Entry) (key : ℤ) (now files : Option (List Loaded))
    (at : ℕ) → Stay lists next → All (IsListed lists) entries → now ≡ files → StandAt next files (Some at)
    → map (shown next) (entries ++ record { instant = key; list = at } ∷ [])
    ≡ map (shown lists) entries ++ cons_option (option_map (λ (own : List Loaded). (key, own)) now) []
pushed-some lists next entries key now files at stay listed is stands =
    rw (is, stands.1) (map-append (shown next) entries (record { instant = key; list = at } ∷ [])
    ∙ ap (λ l. l ++ (key, get_or next at []) ∷ []) (shown-stays lists next entries stay listed))

-- an entry that is added has one of the lists
pub listed-pushed : (lists next : List (List Loaded)) (entries : List Entry) (key : ℤ) (files : Option (List Loaded))
    (at : ℕ) → Stay lists next → All (IsListed lists) entries → StandAt next files (Some at)
    → All (IsListed next) (entries ++ record { instant = key; list = at } ∷ [])
listed-pushed lists next entries key files at stay listed stands =
    let own : Entry = record { instant = key; list = at } in
    All-from_each (IsListed next) (entries ++ own ∷ []) (Each-push (IsListed next) entries own
    (each_listed lists next entries stay (each_from_All (IsListed lists) entries listed)) stands.0)
