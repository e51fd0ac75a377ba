-- Lines that devices are told, and all else that they show stays.
use Rattle.std.specs.Prelude.{◌≡◌, ℕ, List, Option}
use Rattle.dev_traits.specs.Clock.{clock_lines, Moments, with_clock_lines}
use Rattle.dev_traits.specs.Inbox.{inbox_lines, InboxShown, with_lines}
use Rattle.dev_traits.specs.Lines.{Tells, Told}

-- These lines were told to an inbox, and all else that it shows stays.
pub record TellsInbox (lines : List (List ℕ)) (inbox inbox' : InboxShown) : Type 0 where
  pub told : Told
  pub tells : Tells lines (inbox_lines inbox.held) told
  pub held_is : inbox'.held ≡ with_lines told inbox.held
  pub faults_are : inbox'.faults ≡ inbox.faults

-- These lines were told to a clock, and all else that it shows stays.
pub record TellsClock (lines : List (List ℕ)) (clock clock' : Option Moments) : Type 0 where
  pub told : Told
  pub tells : Tells lines (clock_lines clock) told
  pub clock_is : clock' ≡ with_clock_lines told clock
