-- What a door holds.
use Rattle.std.specs.Prelude.{⊤, ◌≡◌, ℕ, ◌<◌, ◌+◌, ◌-◌, List, [], ◌∷◌, ◌++◌, drop, Option, Some, None, IfSome}
use Rattle.dev_traits.specs.Shown.{LinkShown, Shown}
use Rattle.dev_traits.specs.declared.door.Coming.{Coming}
use Rattle.dev_traits.specs.declared.door.Coming.TheVariants.{Came, Ready, Closed}
use Rattle.dev_traits.specs.declared.door.DoorAsked.{DoorAsked}

-- what a door in memory holds
pub record Doorway (L : Type 0) : Type 0 where
  -- what it was opened with, if an opener opened it
  pub asked : Option DoorAsked
  -- the links left to come
  pub left : List L
  -- how many links were given out and not given back
  pub out : ℕ
  -- the links that were given back, in order, as they were left
  pub given : List L

-- what a door shows
abbrev pub DoorShown : Type 0 → Type 0
DoorShown L = Shown (Doorway L)

-- a door with these links to come, before its first call
abbrev pub fresh_doorway : {L : Type 0} → List L → Doorway L
fresh_doorway links = record { asked = None; left = links; out = 0; given = [] }

-- the first of some, if there is one
abbrev pub first_of : {A : Type 0} → List A → Option A
first_of [] = None
first_of (first ∷ more) = Some first

-- what may come next: the first of the links left, a link that is out may go on, or the end where none is left or out
abbrev pub MayCome : {L : Type 0} → Doorway L → Coming L → Type 0
MayCome doorway (Came link) = first_of doorway.left ≡ Some link
MayCome doorway (Ready key) = 0 < doorway.out
MayCome doorway Closed = (doorway.left ≡ []) × (doorway.out ≡ 0)

-- The link that came, if one did, has this.
abbrev pub IfCame : {L : Type 0} → (L → Type 0) → Coming L → Type 0
IfCame P (Came link) = P link
IfCame P (Ready key) = ⊤
IfCame P Closed = ⊤

-- the door after it said what comes next
abbrev pub after_coming : {L : Type 0} → Coming L → Option (Doorway L) → Option (Doorway L)
after_coming coming None = None
after_coming (Came link) (Some doorway) =
    Some (record doorway { left = drop 1 doorway.left; out = doorway.out + 1 })
after_coming (Ready key) (Some doorway) = Some doorway
after_coming Closed (Some doorway) = Some doorway

-- the door after this link was given back
abbrev pub after_done : {L : Type 0} → L → Option (Doorway L) → Option (Doorway L)
after_done link None = None
after_done link (Some doorway) =
    Some (record doorway { out = doorway.out - 1; given = doorway.given ++ link ∷ [] })

-- Nothing was taken from a link or put on it, and none of its calls failed.
pub record IsFresh (link : LinkShown) : Type 0 where
  pub faults : link.faults ≡ 0
  pub unused : IfSome link.held (λ wire. (wire.taken ≡ []) × (wire.put ≡ []))
