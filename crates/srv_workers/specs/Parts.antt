-- The parts of workers.
use Rattle.std.specs.Prelude.{◌≡◌, ℕ, ◌<◌, ◌≤◌, List, [], length}
use Rattle.std.specs.List.{filter_map}
use Rattle.srv_workers.specs.declared.parts.Parts.{Parts}
use Rattle.srv_workers.specs.declared.worker.Worker.{Worker}
use Rattle.srv_workers.specs.Desks.{Means}
use Rattle.srv_workers.specs.Slots.{PutsItems, Slotted}
use Rattle.srv_workers.specs.Workers.{clock_of, clock_told, counted_by, door_of, door_told, inbox_of, inbox_told}

-- there are no devices and no reports yet
pub record IsEmpty {D I C B : Type 0} (parts : Parts D I C B) : Type 0 where
  pub doors : parts.doors.items ≡ []
  pub inboxes : parts.inboxes.items ≡ []
  pub clocks : parts.clocks.items ≡ []
  pub doors_told : parts.doors_told.items ≡ []
  pub inboxes_told : parts.inboxes_told.items ≡ []
  pub clocks_told : parts.clocks_told.items ≡ []

-- there is room for the devices and the reports of these workers
pub record HasRoom {D I C E H B : Type 0} (staff : List (Worker D I C E H)) (parts : Parts D I C B) : Type 0 where
  pub doors : length (filter_map door_of staff) ≤ parts.doors.free
  pub inboxes : length (filter_map inbox_of staff) ≤ parts.inboxes.free
  pub clocks : length (filter_map clock_of staff) ≤ parts.clocks.free
  pub doors_told : length (filter_map door_told staff) ≤ parts.doors_told.free
  pub inboxes_told : length (filter_map inbox_told staff) ≤ parts.inboxes_told.free
  pub clocks_told : length (filter_map clock_told staff) ≤ parts.clocks_told.free

-- there is room for their shares
abbrev pub TakesShares : {D I C E H B : Type 0} → Means E H → (B → ℕ → Slotted ℕ) → List (Worker D I C E H) → B → Type 0
TakesShares means slots staff back =
    (number : ℕ) → number < means.them.count → length (counted_by means number staff) ≤ (slots back number).free

-- the parts of these workers were put behind others
pub record PutsParts {D I C E H B : Type 0} (means : Means E H) (slots : B → ℕ → Slotted ℕ)
    (staff : List (Worker D I C E H)) (before after : Parts D I C B) : Type 0 where
  pub doors : PutsItems (filter_map door_of staff) before.doors after.doors
  pub inboxes : PutsItems (filter_map inbox_of staff) before.inboxes after.inboxes
  pub clocks : PutsItems (filter_map clock_of staff) before.clocks after.clocks
  pub shares : (number : ℕ) → number < means.them.count
      → PutsItems (counted_by means number staff) (slots before.back number) (slots after.back number)
  pub doors_told : PutsItems (filter_map door_told staff) before.doors_told after.doors_told
  pub inboxes_told : PutsItems (filter_map inbox_told staff) before.inboxes_told after.inboxes_told
  pub clocks_told : PutsItems (filter_map clock_told staff) before.clocks_told after.clocks_told
