-- The end of a run.
use Rattle.std.specs.Prelude.{◌≡◌, ℕ, ◌<◌, List, length, map, sum}
use Rattle.std.specs.List.{filter_map}
use Rattle.fm_model.specs.declared.op.Op.{Op}
use Rattle.dev_traits.specs.declared.world.Devices.{Devices}
use Rattle.srv_workers.specs.declared.outcome.Outcomes.{Outcomes}
use Rattle.srv_workers.specs.declared.worker.Worker.{Worker}
use Rattle.srv_workers.specs.Desks.{closed_of, first_of, Means}
use Rattle.srv_workers.specs.Workers.{clock_of, clock_told, counted_by, door_of, door_told, inbox_of, inbox_told}

-- desks with these logs were closed, and the devices and reports of these workers were given back
pub record Closes {D I C E H : Type 0} (means : Means E H) (log : ℕ → List Op) (staff : List (Worker D I C E H))
    (devices : Devices D I C) (outcomes : Outcomes) : Type 0 where
  pub doors : devices.doors ≡ filter_map door_of staff
  pub doors_told : outcomes.doors ≡ filter_map door_told staff
  pub inboxes : devices.inboxes ≡ filter_map inbox_of staff
  pub inboxes_told : outcomes.inboxes ≡ filter_map inbox_told staff
  pub clocks : devices.clocks ≡ filter_map clock_of staff
  pub clocks_told : outcomes.clocks ≡ filter_map clock_told staff
  pub desks : outcomes.desks ≡ map closed_of (first_of means.them.count log)
  pub counted : (number : ℕ) → number < means.them.count → sum (counted_by means number staff) ≡ length (log number)
