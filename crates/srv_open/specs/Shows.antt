-- What devices show.
use Rattle.std.specs.Prelude.{Option}
use Rattle.dev_traits.specs.Clock.{Moments}
use Rattle.dev_traits.specs.Door.{DoorShown}
use Rattle.dev_traits.specs.Inbox.{InboxShown}
use Rattle.dev_traits.specs.Shown.{LinkShown}

-- what doors, their links, inboxes and clocks show
pub record Shows (D I C L : Type 0) : Type 0 where
  pub door : D → DoorShown L
  pub link : L → LinkShown
  pub inbox : I → InboxShown
  pub clock : C → Option Moments

abbrev pub shows : {D I C L : Type 0} → (D → DoorShown L) → (L → LinkShown) → (I → InboxShown) → (C → Option Moments)
    → Shows D I C L
shows door link inbox clock = record { door = door; link = link; inbox = inbox; clock = clock }
