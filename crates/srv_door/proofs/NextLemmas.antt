-- What comes next at a door.
use Rattle.std.proofs.Common.{◌≡◌, ℕ, [], Bool, Option, Some, sym, ap, subst, ◌∙◌}
use Rattle.std.specs.Prelude.{IfSome}
use Rattle.slab.specs.Slab.{ContainsKey, Slab, Updates}
use Rattle.dev_traits.specs.Door.{after_coming, first_of, Doorway, DoorShown, IfCame, IsFresh, MayCome}
use Rattle.dev_traits.specs.declared.door.Coming.{Coming}
use Rattle.dev_traits.specs.declared.door.Coming.TheVariants.{Came, Closed, Ready}
use Rattle.dev_traits.specs.Shown.{LinkShown}
use Rattle.dap_reply.specs.Collections.{Collections, Views}
use Rattle.srv_door.specs.declared.hall.Hall.{Hall}
use Rattle.srv_door.specs.AtDoor.{AtDoor, IsOutSome}
use Rattle.srv_door.proofs.HallLemmas.{at-out, closed-none, same-closed, same-ready}

-- doors that show the same hold the same
pub held-same : {L : Type 0} {door door' : DoorShown L} → door' ≡ door → door'.held ≡ door.held
held-same {L} same = ap (λ (d : DoorShown L). d.held) same

-- tables that are the same have the same slots
pub slots-same : {A : Type 0} {one other : Slab A} → one ≡ other → one.slots ≡ other.slots
slots-same {A} same = ap (λ (s : Slab A). s.slots) same

-- a value that is the same changes a table in the same way
pub updates-same : {A : Type 0} {old new : Slab A} {key : ℕ} {value value' : A} → value ≡ value'
    → Updates old new key (Some value) → Updates old new key (Some value')
updates-same {A} {old} {new} {key} same updates =
    subst (λ (x : A). Updates old new key (Some x)) same updates

-- the link that came is the next one
pub came-next : {L : Type 0} {coming : Coming L} {link : L} (held : Option (Doorway L)) → coming ≡ Came link
    → IfSome held (λ doorway. MayCome doorway coming) → IfSome held (λ doorway. first_of doorway.left ≡ Some link)
came-next {L} held is next =
    subst (λ (it : Coming L). IfSome held (λ doorway. MayCome doorway it)) is next

pub came-after : {L : Type 0} {coming this : Coming L} (held held' : Option (Doorway L)) → coming ≡ this
    → held' ≡ after_coming coming held → held' ≡ after_coming this held
came-after {L} held held' is after =
    subst (λ (it : Coming L). held' ≡ after_coming it held) is after

-- it wasn't used
pub came-fresh : {L : Type 0} (shown : L → LinkShown) {coming : Coming L} {link : L} → coming ≡ Came link
    → IfCame (λ it. IsFresh (shown it)) coming → IsFresh (shown link)
came-fresh {L} shown is fresh = subst (IfCame (λ it. IsFresh (shown it))) is fresh

-- a door that gave no link holds what it held
pub ready-held : {L : Type 0} {coming : Coming L} {key : ℕ} {held held' : Option (Doorway L)} → coming ≡ Ready key
    → held' ≡ after_coming coming held → held' ≡ held
ready-held {key = key} {held = held} {held' = held'} is after = came-after held held' is after ∙ same-ready key held

pub closed-held : {L : Type 0} {coming : Coming L} {held held' : Option (Doorway L)} → coming ≡ Closed
    → held' ≡ after_coming coming held → held' ≡ held
closed-held {held = held} {held' = held'} is after = came-after held held' is after ∙ same-closed held

-- and one that closed has none left
pub closed-left : {L : Type 0} {coming : Coming L} (held held' : Option (Doorway L)) → coming ≡ Closed
    → IfSome held (λ doorway. MayCome doorway coming) → held' ≡ after_coming coming held
    → IfSome held' (λ doorway. doorway.left ≡ [])
closed-left {L} held held' is next after =
    closed-none held held' (subst (λ (it : Coming L). IfSome held (λ doorway. MayCome doorway it)) is next)
    (came-after held held' is after)

module _ {L : Type 0} {shown : L → LinkShown} {them : Collections} where
  -- the links are as they were, at a door that holds the same
  pub at-same : {door door' door'' : Option (Doorway L)} {views views' : Views} {hall : Hall L} → door'' ≡ door'
      → AtDoor shown them door door' views views' hall → AtDoor shown them door door'' views views' hall
  at-same {door} {views = views} {views' = views'} {hall = hall} same at =
      subst (λ (d : Option (Doorway L)). AtDoor shown them door d views views' hall) (sym same) at

  -- and one that is held is out
  pub out-same : {door door' door'' : Option (Doorway L)} {views views' : Views} {hall : Hall L} (key : ℕ)
      → door'' ≡ door' → AtDoor shown them door door' views views' hall → ContainsKey hall.links key
      → IfSome door'' IsOutSome
  out-same key same at there = at-out key (at-same same at) there
