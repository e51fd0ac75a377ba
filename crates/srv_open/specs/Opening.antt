-- The doors, inboxes and clocks that an opener gave, one after the other.
use Rattle.std.specs.Prelude.{◌≡◌, ◌⊎◌, ◌<◌, ℕ, List, [], ◌∷◌, All, drop, length, map, take, Option, option_map, IfSome}
use Rattle.fm_base.specs.declared.fail.Fail.{Fail}
use Rattle.fm_base.specs.declared.fail.Fail.TheVariants.{NoMemory, Fault}
use Rattle.dev_traits.specs.Cause.{one_more}
use Rattle.dev_traits.specs.Clock.{Moments}
use Rattle.dev_traits.specs.declared.door.DoorAsked.{DoorAsked}
use Rattle.dev_traits.specs.Door.{DoorShown}
use Rattle.dev_traits.specs.Inbox.{InboxShown}
use Rattle.dev_traits.specs.Opener.{Stock, after_clock, door_asked, inbox_asked, next_clock}
use Rattle.srv_alone.specs.declared.end.End.{End}
use Rattle.srv_alone.specs.declared.end.End.TheVariants as ends

-- an opener after it gave this number of doors
abbrev pub after_doors : {D I C : Type 0} → ℕ → Option (Stock D I C) → Option (Stock D I C)
after_doors {D} {I} {C} count stock =
    option_map (λ (s : Stock D I C). record s { doors = drop count s.doors }) stock

-- an opener after it gave this number of inboxes
abbrev pub after_inboxes : {D I C : Type 0} → ℕ → Option (Stock D I C) → Option (Stock D I C)
after_inboxes {D} {I} {C} count stock =
    option_map (λ (s : Stock D I C). record s { inboxes = drop count s.inboxes }) stock

-- what doors show that were opened with this
abbrev pub asked_doors : {D L : Type 0} → (D → DoorShown L) → DoorAsked → List D → List (DoorShown L)
asked_doors {D} shown asked doors = map (λ (door : D). door_asked asked (shown door)) doors

-- what inboxes show that were opened with these folders, as far as both go
abbrev pub asked_inboxes : {I : Type 0} → (I → InboxShown) → List (List ℕ) → List I → List InboxShown
asked_inboxes shown [] inboxes = []
asked_inboxes shown (folder ∷ folders) [] = []
asked_inboxes shown (folder ∷ folders) (inbox ∷ inboxes) =
    inbox_asked folder (shown inbox) ∷ asked_inboxes shown folders inboxes

-- These doors were opened: they are the first of an opener's doors, which has the others left. No call of them has
-- failed.
pub record OpensDoors {D I C L : Type 0} (shown : D → DoorShown L) (asked : DoorAsked)
    (opener opener' : Option (Stock D I C)) (doors : List D) : Type 0 where
  pub first : IfSome opener (λ stock. map shown doors ≡ take (length doors) (asked_doors shown asked stock.doors))
  pub left : opener' ≡ after_doors (length doors) opener
  pub calm : All (λ door. (shown door).faults ≡ 0) doors

-- These inboxes were opened, one for each of the first folders: they are the first of an opener's inboxes, which has
-- the others left. No call of them has failed.
pub record OpensInboxes {D I C : Type 0} (shown : I → InboxShown) (folders : List (List ℕ))
    (opener opener' : Option (Stock D I C)) (inboxes : List I) : Type 0 where
  pub first : IfSome opener
      (λ stock. map shown inboxes ≡ take (length inboxes) (asked_inboxes shown folders stock.inboxes))
  pub left : opener' ≡ after_inboxes (length inboxes) opener
  pub calm : All (λ inbox. (shown inbox).faults ≡ 0) inboxes

-- how opening ends where a call failed, or memory ran out
abbrev pub end_of : {E : Type 0} → Fail E → End → End
end_of NoMemory end = ends.NoMemory
end_of (Fault e) end = end

-- Of some devices of a kind the first were opened, and not all: memory ran out, or the next wasn't opened, since a call
-- of the opener failed.
abbrev pub StopsShort : (ℕ → End) → ℕ → ℕ → ℕ → ℕ → End → Type 0
StopsShort end_at opened wanted faults faults' end = ((end ≡ ends.NoMemory) × (faults' ≡ faults))
    ⊎ ((end ≡ end_at opened) × (opened < wanted) × (faults' ≡ one_more faults))

-- These clocks were opened, each for this number of ticks: each is the next of an opener's clocks, which has the others
-- left.
abbrev pub OpensClocks : {D I C : Type 0} → (C → Option Moments) → ℕ → Option (Stock D I C) → Option (Stock D I C)
    → List C → Type 0
OpensClocks shown ticks opener opener' [] = opener' ≡ opener
OpensClocks shown ticks opener opener' (clock ∷ clocks) =
    IfSome opener (λ stock. shown clock ≡ next_clock shown stock.clocks ticks)
    × OpensClocks shown ticks (after_clock opener) opener' clocks
