-- What becomes of the lists of a page in an operation, and where they stand in the page after it.
use Rattle.std.specs.Prelude.{◌≡◌, ◌<◌, ◌≤◌, ◌+◌, ◌++◌, ℕ, ℤ, List, [], Option, None, Some, filter, get_or, length, slice_get}
use Rattle.std.specs.BTreeMap.{BTreeMap, get}
use Rattle.std.specs.List.{filter_map}
use Rattle.std.specs.Option.{option_map}
use Rattle.std.specs.Ordering.{int_cmp}
use Rattle.fm_model.specs.declared.loaded.Loaded.{Loaded}
use Rattle.fm_model.specs.declared.op.Op.{Op}
use Rattle.fm_list.specs.declared.by.By.{By}
use Rattle.fm_list.specs.Change.{added, keeps}
use Rattle.fm_edition.specs.declared.maps.page.Entry.{Entry}
use Rattle.fm_edition.specs.declared.maps.page.turning.spots.Spot.{Spot}
use Rattle.fm_edition.specs.declared.maps.page.turning.spots.Spot.TheVariants.{Unknown, Known}
use Rattle.fm_edition.specs.declared.maps.page.turning.spots.Spots.{Spots}
use Rattle.fm_edition.specs.declared.maps.page.turning.turn.Turn.{Turn}
use Rattle.fm_edition.specs.declared.maps.page.turning.turn.Turn.TheVariants.{Leaves, Takes, Adds}
use Rattle.fm_edition.specs.declared.maps.page.turning.Turning.{Turning}
use Rattle.fm_edition.specs.Page.{or_none, some_of, turned_at}

-- the files by an instant after a turn
abbrev pub turned : Turn → Op → Option (List Loaded) → Option (List Loaded)
turned Leaves op held = held
turned Takes op held = some_of (filter (keeps op) (or_none held))
turned Adds op held = some_of (filter (keeps op) (or_none held) ++ added op)

-- the files of an entry
abbrev pub files_of : List (List Loaded) → Option Entry → Option (List Loaded)
files_of lists entry = option_map (λ (own : Entry). get_or lists own.list []) entry

-- an instant with its files after an operation, where there are any
abbrev pub turned_entry : By → List ℤ → Op → ℤ → Option (List Loaded) → Option (ℤ × List Loaded)
turned_entry by touched op key held =
    option_map (λ (files : List Loaded). (key, files)) (turned_at by touched op key held)

-- some instants of a page with their files after an operation
abbrev pub turned_entries : By → List ℤ → Op → BTreeMap ℤ (List Loaded) → List ℤ → List (ℤ × List Loaded)
turned_entries by touched op page keys =
    filter_map (λ key. turned_entry by touched op key (get int_cmp page key)) keys

-- the spot after a turn
abbrev pub spot_of : Turn → Spots → Spot
spot_of Leaves spots = spots.left
spot_of Takes spots = spots.taken
spot_of Adds spots = spots.added

-- the same spots with another one after a turn
abbrev pub with_spot : Turn → Spot → Spots → Spots
with_spot Leaves spot spots = record { left = spot; taken = spots.taken; added = spots.added }
with_spot Takes spot spots = record { left = spots.left; taken = spot; added = spots.added }
with_spot Adds spot spots = record { left = spots.left; taken = spots.taken; added = spot }

-- a spot that is known
abbrev pub known : Option ℕ → Spot
known at = Known at

-- spots of which nothing is known
abbrev pub no_spots : Spots
no_spots = record { left = Unknown; taken = Unknown; added = Unknown }

-- a number of spots of which nothing is known
pub record AreUnknown (number : ℕ) (spots : List Spots) : Type 0 where
  pub count : length spots ≡ number
  pub each : (index : ℕ) → get_or spots index no_spots ≡ no_spots

-- some files stand at an index of some lists, or there are none
abbrev pub StandAt : List (List Loaded) → Option (List Loaded) → Option ℕ → Type 0
StandAt lists files None = files ≡ None
StandAt lists files (Some at) = (at < length lists) × (files ≡ Some (get_or lists at []))

-- what is known of where some files stand is so
abbrev pub IsSpot : List (List Loaded) → Option (List Loaded) → Spot → Type 0
IsSpot lists files Unknown = Unit {0}
IsSpot lists files (Known at) = StandAt lists files at

-- each list of the page before has spots, and they are so
pub record IsTurning (op : Op) (turning : Turning) : Type 0 where
  pub count : length turning.spots ≡ length turning.before.now + 1
  pub each : (index : ℕ) (turn : Turn)
      → IsSpot turning.lists (turned turn op (slice_get turning.before.now index))
      (spot_of turn (get_or turning.spots index no_spots))

-- some lists stand first among others
pub record Stay (lists next : List (List Loaded)) : Type 0 where
  pub within : length lists ≤ length next
  pub same : (index : ℕ) → index < length lists → get_or next index [] ≡ get_or lists index []

-- it is found where some files stand, and the lists so far stay
pub record Finds (op : Op) (files : Option (List Loaded)) (turning next : Turning) (at : Option ℕ) : Type 0 where
  pub before : next.before.now ≡ turning.before.now
  pub known : IsTurning op next
  pub stay : Stay turning.lists next.lists
  pub stands : StandAt next.lists files at
