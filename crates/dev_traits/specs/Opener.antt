-- What an opener holds.
use Rattle.std.specs.Prelude.{◌≡◌, ℕ, List, [], ◌∷◌, drop, Option, Some, None, option_map, IsSomeAnd}
use Rattle.dev_traits.specs.Shown.{Shown}
use Rattle.dev_traits.specs.declared.door.DoorAsked.{DoorAsked}
use Rattle.dev_traits.specs.Clock.{Moments, fresh_moments}
use Rattle.dev_traits.specs.Door.{DoorShown, Doorway, first_of}
use Rattle.dev_traits.specs.Inbox.{InboxShown, Post}
use Rattle.dev_traits.specs.Lines.{Told}

-- what an opener in memory holds: the doors, the inboxes and the clocks that it will give, in order, and the lines of
-- the journal
pub record Stock (D I C : Type 0) : Type 0 where
  pub doors : List D
  pub inboxes : List I
  pub clocks : List C
  pub lines : Told

-- what an opener shows
abbrev pub OpenerShown : Type 0 → Type 0 → Type 0 → Type 0
OpenerShown D I C = Shown (Stock D I C)

-- what a door shows that was opened with this
abbrev pub door_asked : {L : Type 0} → DoorAsked → DoorShown L → DoorShown L
door_asked {L} asked door = record {
  held = option_map (λ (doorway : Doorway L). record doorway { asked = Some asked }) door.held;
  faults = door.faults;
}

-- what an inbox shows that was opened with this folder
abbrev pub inbox_asked : List ℕ → InboxShown → InboxShown
inbox_asked folder inbox = record {
  held = option_map (λ (post : Post). record post { asked = Some folder }) inbox.held;
  faults = inbox.faults;
}

-- what a clock shows that was opened with `ticks` ticks
abbrev pub clock_asked : ℕ → Option Moments → Option Moments
clock_asked ticks clock = option_map (λ (moments : Moments). record moments { asked = Some ticks }) clock

-- the door that was opened is the first of these
abbrev pub IsNextDoor : {D L : Type 0} → (D → DoorShown L) → List D → DoorAsked → D → Type 0
IsNextDoor shown doors asked door = IsSomeAnd (first_of doors) (λ first. shown door ≡ door_asked asked (shown first))

-- the inbox that was opened is the first of these
abbrev pub IsNextInbox : {I : Type 0} → (I → InboxShown) → List I → List ℕ → I → Type 0
IsNextInbox shown inboxes folder inbox =
    IsSomeAnd (first_of inboxes) (λ first. shown inbox ≡ inbox_asked folder (shown first))

-- what the next of these clocks shows, or one without moments where none is left
abbrev pub next_clock : {C : Type 0} → (C → Option Moments) → List C → ℕ → Option Moments
next_clock shown [] ticks = clock_asked ticks (Some (fresh_moments []))
next_clock shown (clock ∷ more) ticks = clock_asked ticks (shown clock)

-- the opener after it gave a door
abbrev pub after_door : {D I C : Type 0} → Option (Stock D I C) → Option (Stock D I C)
after_door {D} {I} {C} stock = option_map (λ (s : Stock D I C). record s { doors = drop 1 s.doors }) stock

-- the opener after it gave an inbox
abbrev pub after_inbox : {D I C : Type 0} → Option (Stock D I C) → Option (Stock D I C)
after_inbox {D} {I} {C} stock = option_map (λ (s : Stock D I C). record s { inboxes = drop 1 s.inboxes }) stock

-- the opener after it gave a clock
abbrev pub after_clock : {D I C : Type 0} → Option (Stock D I C) → Option (Stock D I C)
after_clock {D} {I} {C} stock = option_map (λ (s : Stock D I C). record s { clocks = drop 1 s.clocks }) stock

-- the lines that an opener was told, where they are known
abbrev pub opener_lines : {D I C : Type 0} → Option (Stock D I C) → Told
opener_lines None = None
opener_lines (Some stock) = stock.lines

-- an opener with these lines
abbrev pub with_opener_lines : {D I C : Type 0} → Told → Option (Stock D I C) → Option (Stock D I C)
with_opener_lines {D} {I} {C} told stock = option_map (λ (s : Stock D I C). record s { lines = told }) stock
