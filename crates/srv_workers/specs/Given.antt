-- What workers are given.
use Rattle.std.specs.Prelude.{◌≡◌, ℕ, zero, suc, ◌+◌, ◌<◌, ◌≤◌, List, [], ◌++◌, length, map, replicate, All}
use Rattle.dev_traits.specs.declared.world.Devices.{Devices}
use Rattle.dap_reply.specs.Collections.{Collections, Views}
use Rattle.pub_snap.specs.Opening.{unused}
use Rattle.srv_workers.specs.declared.given.Given.{Given}
use Rattle.srv_workers.specs.declared.given.Vacant.{Vacant}
use Rattle.srv_workers.specs.Desks.{IsNew, IsUnseen, Means, Publisher}
use Rattle.srv_workers.specs.Slots.{Slotted}
use Rattle.srv_workers.specs.Workers.{counted_with}

-- hands by which nothing was published yet, one for each of some devices
pub record AreNewHands {E H : Type 0} (means : Means E H) (count : ℕ) (hands : List H) : Type 0 where
  pub each : length hands ≡ count
  pub new : All (λ hand. IsNew means.them (means.publisher hand)) hands

-- eyes for each door, which have seen nothing, and a new hand for each other device, with all shares of each desk
pub record IsGiven {D I C E H : Type 0} (means : Means E H) (parts : ℕ → ℕ) (devices : Devices D I C)
    (given : Given E H) : Type 0 where
  pub eyes_are : length given.eyes ≡ length devices.doors
  pub unseen : All (λ those. IsUnseen (means.views those)) given.eyes
  pub at_inboxes : AreNewHands means (length devices.inboxes) given.at_inboxes
  pub at_clocks : AreNewHands means (length devices.clocks) given.at_clocks
  pub shares : (number : ℕ) → number < means.them.count
      → length (counted_with means number given.at_inboxes) + length (counted_with means number given.at_clocks)
      ≡ parts number

-- no share was given back yet, and there is room for all shares of each desk
pub record IsBackFor {B : Type 0} (slots : B → ℕ → Slotted ℕ) (count : ℕ) (parts : ℕ → ℕ) (back : B) : Type 0 where
  pub none : (number : ℕ) → number < count → (slots back number).items ≡ []
  pub free : (number : ℕ) → number < count → parts number ≤ (slots back number).free

-- nothing is there yet, and there is room for what the workers of these numbers of devices are given
pub record IsVacant {E H : Type 0} (doors inboxes clocks : ℕ) (vacant : Vacant E H) : Type 0 where
  pub no_eyes : vacant.eyes.items ≡ []
  pub eyes : doors ≤ vacant.eyes.free
  pub no_at_inboxes : vacant.at_inboxes.items ≡ []
  pub at_inboxes : inboxes ≤ vacant.at_inboxes.free
  pub no_at_clocks : vacant.at_clocks.items ≡ []
  pub at_clocks : clocks ≤ vacant.at_clocks.free

-- one that has seen and published nothing at the desk of a number
abbrev pub new_at : Collections → ℕ → Publisher
new_at them number = record { desk = number; pass = unused (them.proto number); share = 0 }

-- n of each number below a count, in order
abbrev pub each_of : {A : Type 0} → ℕ → ℕ → (ℕ → A) → List A
each_of times zero made = []
each_of times (suc count) made = replicate times (made 0) ++ each_of times count (λ number. made (suc number))

-- what was given out by some desks: what gives looks at all of them for each door, which has seen nothing, and of each
-- desk a new hand for its inbox, and one for each of its clocks
pub record AreGivenOut {E H : Type 0} (them : Collections) (views : E → Views) (publisher : H → Publisher)
    (doors clocks : ℕ) (given : Given E H) : Type 0 where
  pub eyes_are : length given.eyes ≡ doors
  pub unseen : All (λ those. IsUnseen (views those)) given.eyes
  pub at_inboxes_are : map publisher given.at_inboxes ≡ each_of 1 them.count (new_at them)
  pub at_clocks_are : map publisher given.at_clocks ≡ each_of clocks them.count (new_at them)
