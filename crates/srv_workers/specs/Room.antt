-- All room that a run needs.
use Rattle.std.specs.Prelude.{◌≡◌, ℕ, ◌+◌, ◌≤◌, [], length}
use Rattle.dev_traits.specs.declared.world.Devices.{Devices}
use Rattle.srv_workers.specs.declared.room.Room.{Room}
use Rattle.srv_workers.specs.Parts.{IsEmpty}

-- the number of devices
abbrev pub device_count : {D I C : Type 0} → Devices D I C → ℕ
device_count devices = length devices.doors + length devices.inboxes + length devices.clocks

-- nothing is there yet, and there is room for the workers of these devices, for their parts and for the ends of desks
pub record IsRoomFor {D I C E H B : Type 0} (devices : Devices D I C) (desks : ℕ) (back : B) (room : Room D I C E H B)
    : Type 0 where
  pub no_staff : room.staff.items ≡ []
  pub staff : device_count devices ≤ room.staff.free
  pub no_closed : room.closed.items ≡ []
  pub closed : desks ≤ room.closed.free
  pub no_parts : IsEmpty room.parts
  pub back_is : room.parts.back ≡ back
  pub doors : length devices.doors ≤ room.parts.doors.free
  pub doors_told : length devices.doors ≤ room.parts.doors_told.free
  pub inboxes : length devices.inboxes ≤ room.parts.inboxes.free
  pub inboxes_told : length devices.inboxes ≤ room.parts.inboxes_told.free
  pub clocks : length devices.clocks ≤ room.parts.clocks.free
  pub clocks_told : length devices.clocks ≤ room.parts.clocks_told.free
