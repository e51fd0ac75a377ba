-- The devices of a run of `serve`: the requested ones, and the opened ones.
use Rattle.std.specs.Prelude.{◌≡◌, ℕ, ◌<◌, List, [], length, slice_get, Option, Some, None, IsSomeAnd}
use Rattle.dev_traits.specs.Cause.{one_more}
use Rattle.dev_traits.specs.declared.door.DoorAsked.{DoorAsked}
use Rattle.dev_traits.specs.Opener.{Stock}
use Rattle.srv_words.specs.declared.job.Serving.{Serving}
use Rattle.dev_traits.specs.declared.world.Devices.{Devices}
use Rattle.srv_alone.specs.declared.end.End.{End}
use Rattle.srv_alone.specs.declared.end.End.TheVariants.{NoMemory, DoorFault, InboxFault}
use Rattle.srv_open.specs.declared.opening.Asked.{Asked}
use Rattle.srv_open.specs.Opening.{OpensClocks, OpensDoors, OpensInboxes}
use Rattle.srv_open.specs.Shows.{Shows}

-- the devices that are asked for: doors at an address, each for a number of connections, an inbox for each folder, and
-- clocks, each of a number of ticks
pub record Wanted : Type 0 where
  pub listen : List ℕ
  pub connections : ℕ
  pub workers : ℕ
  pub inboxes : List (List ℕ)
  pub clocks : ℕ
  pub ticks : ℕ

-- the same, of a request in code
abbrev pub wanted_of : Asked → Wanted
wanted_of asked = record {
  listen = asked.listen.now;
  connections = asked.connections;
  workers = asked.workers;
  inboxes = asked.inboxes.now;
  clocks = asked.clocks;
  ticks = asked.ticks;
}

-- for how many seconds a run is kept; nothing asks where there is no clock
abbrev pub kept_for : Option ℕ → ℕ
kept_for None = 0
kept_for (Some seconds) = seconds

-- how many clocks are asked for: one for each collection where runs are kept for a time
abbrev pub clocks_for : ℕ → Option ℕ → ℕ
clocks_for collections None = 0
clocks_for collections (Some seconds) = collections

-- the devices that the options of `serve` ask for
abbrev pub asked_by : Serving → Wanted
asked_by serving = record {
  listen = serving.listen;
  connections = serving.connections;
  workers = serving.workers;
  inboxes = serving.inboxes;
  clocks = clocks_for 1 serving.keep;
  ticks = serving.ticks;
}

-- the request for each door
abbrev pub door_request : Wanted → DoorAsked
door_request wanted = record { address = wanted.listen; connections = wanted.connections }

-- These devices were opened: doors first, then inboxes, one for each of the first folders, and then clocks.
pub record OpensDevices {D I C L : Type 0} (show : Shows D I C L) (wanted : Wanted)
    (opener opener' : Option (Stock D I C)) (devices : Devices D I C) : Type 0 where
  pub after_doors : Option (Stock D I C)
  pub after_inboxes : Option (Stock D I C)
  pub doors : OpensDoors show.door (door_request wanted) opener after_doors devices.doors
  pub inboxes : OpensInboxes show.inbox wanted.inboxes after_doors after_inboxes devices.inboxes
  pub clocks : OpensClocks show.clock wanted.ticks after_inboxes opener' devices.clocks

-- All devices were opened that are asked for, and no call of the opener failed.
pub record AreAllOpened {D I C : Type 0} (wanted : Wanted) (devices : Devices D I C) (faults faults' : ℕ)
    : Type 0 where
  pub doors : length devices.doors ≡ wanted.workers
  pub inboxes : length devices.inboxes ≡ length wanted.inboxes
  pub clocks : length devices.clocks ≡ wanted.clocks
  pub calm : faults' ≡ faults

-- The door of this number wasn't opened, since a call of the opener failed, nor was anything after it.
pub record StopsAtDoor {D I C : Type 0} (wanted : Wanted) (devices : Devices D I C) (faults faults' number : ℕ)
    : Type 0 where
  pub number_is : number ≡ length devices.doors
  pub few_doors : number < wanted.workers
  pub no_inboxes : devices.inboxes ≡ []
  pub no_clocks : devices.clocks ≡ []
  pub cause : faults' ≡ one_more faults

-- All doors were opened, and the inbox of this number wasn't, since a call of the opener failed.
pub record StopsAtInbox {D I C : Type 0} (wanted : Wanted) (devices : Devices D I C) (faults faults' number : ℕ)
    : Type 0 where
  pub doors : length devices.doors ≡ wanted.workers
  pub number_is : number ≡ length devices.inboxes
  pub few_inboxes : number < length wanted.inboxes
  pub no_clocks : devices.clocks ≡ []
  pub cause : faults' ≡ one_more faults

-- Opening stopped at a device, or memory ran out.
abbrev pub StopsAt : {D I C : Type 0} → Wanted → Devices D I C → ℕ → ℕ → End → Type 0
StopsAt wanted devices faults faults' (DoorFault number) = StopsAtDoor wanted devices faults faults' number
StopsAt wanted devices faults faults' (InboxFault number) = StopsAtInbox wanted devices faults faults' number
StopsAt wanted devices faults faults' NoMemory = faults' ≡ faults
StopsAt wanted devices faults faults' end = ⊥

-- One of these devices has failed.
abbrev pub HasFailedAt : {X : Type 0} → (X → ℕ) → List X → ℕ → Type 0
HasFailedAt faults devices number = IsSomeAnd (slice_get devices number) (λ device. 0 < faults device)
