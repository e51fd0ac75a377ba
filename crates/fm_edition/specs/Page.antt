-- The files by each instant of a page: what a clause says of them, and as they stand in memory.
use Rattle.std.specs.Prelude.{◌<◌, ◌∷◌, All, Bool, List, [], Option, None, Some, get_or, if◌then◌else◌, length, map, ℤ}
use Rattle.std.specs.BTreeMap.{BTreeMap, get}
use Rattle.std.specs.List.{list_any}
use Rattle.std.specs.Ordering.{int_cmp, int_eq}
use Rattle.std_collections.specs.Layout.BTreeMap.{btree_map}
use mathlib.Core.Logic.{inl}
use Rattle.fm_model.specs.declared.loaded.Loaded.{Loaded}
use Rattle.fm_model.specs.declared.op.Op.{Op}
use Rattle.fm_model.specs.Rising.{Rises}
use Rattle.fm_list.specs.declared.by.By.{By}
use Rattle.fm_list.specs.Selected.{part_after}
use Rattle.fm_edition.specs.declared.maps.page.Entry.{Entry}

-- a list, unless it is empty
abbrev pub some_of : {A : Type 0} → List A → Option (List A)
some_of [] = None
some_of (item ∷ items) = Some (item ∷ items)

-- the items of a list, and none where there is no list
abbrev pub or_none : {A : Type 0} → Option (List A) → List A
or_none None = []
or_none (Some items) = items

-- whether an instant is one of these
abbrev pub is_among : List ℤ → ℤ → Bool
is_among instants instant = list_any (λ other. int_eq other instant) instants

-- the files by each instant of a page
abbrev pub Entries : Type 0
Entries = BTreeMap ℤ (List Loaded)

-- the files by an instant of a page
abbrev pub found_in : BTreeMap ℤ (List Loaded) → ℤ → List Loaded
found_in page key = or_none (get int_cmp page key)

-- what stands at an instant of a page after an operation that touches some of the page's instants
unfoldable pub turned_at : By → List ℤ → Op → ℤ → Option (List Loaded) → Option (List Loaded)
turned_at by touched op key held = if is_among touched key then some_of (part_after by key op (or_none held)) else held

-- an instant and its files, which stand at an index of the page's lists
abbrev pub shown : List (List Loaded) → Entry → ℤ × List Loaded
shown lists entry = (entry.instant, get_or lists entry.list [])

-- a page as an ordered map
abbrev pub map_of : List (List Loaded) → List Entry → BTreeMap ℤ (List Loaded)
map_of lists entries = btree_map (map (shown lists) entries) (inl tt)

-- the instants of some entries
abbrev pub instants_of : List Entry → List ℤ
instants_of entries = map (λ (entry : Entry). entry.instant) entries

-- an entry's list is one of a page's
abbrev pub IsListed : List (List Loaded) → Entry → Type 0
IsListed lists entry = entry.list < length lists

-- the instants rise, and each has one of the lists
pub record IsPage (lists : List (List Loaded)) (entries : List Entry) : Type 0 where
  pub rises : Rises (instants_of entries)
  pub listed : All (IsListed lists) entries
