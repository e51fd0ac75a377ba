-- The workers once they have ended.
use Rattle.std.specs.Prelude.{◌≡◌, ℕ, ◌+◌, List, [], map, sum, All}
use Rattle.std.specs.List.{AllZip, filter_map}
use Rattle.fm_model.specs.declared.op.Op.{Op}
use Rattle.dev_traits.specs.declared.world.Devices.{Devices}
use Rattle.srv_workers.specs.declared.given.Given.{Given}
use Rattle.srv_workers.specs.declared.worker.Worker.{Worker}
use Rattle.srv_workers.specs.Course.{Begins, Keeps}
use Rattle.srv_workers.specs.Desks.{Means}
use Rattle.srv_workers.specs.Does.{Does, Shows}
use Rattle.srv_workers.specs.Over.{AreDeskRuns, counted_in, IsClockRunAt, IsDoorRunAt, IsInboxRunAt}
use Rattle.srv_workers.specs.Workers.{Adds, clock_of, clock_told, counted_by, door_of, door_told, inbox_of, inbox_told, IsFirst}

-- all workers did their tasks, what they had then seen begins the logs, and since then they have kept what they had
pub record HaveWorked {D I C L E H : Type 0} (shown : Shows D I C L) (keep : ℕ) (means : Means E H)
    (log : ℕ → List Op) (before after : List (Worker D I C E H)) : Type 0 where
  pub middle : List (Worker D I C E H)
  pub worked : AllZip (Does shown keep means) before middle
  pub begin : All (Begins means log) middle
  pub kept : AllZip (Keeps means) middle after

-- tasks are done for these devices: the runs of each kind, each with the hand that was given for it, and what the
-- shares have counted at each desk
pub record AreDone {D I C L E H : Type 0} (shown : Shows D I C L) (keep : ℕ) (means : Means E H) (log : ℕ → List Op)
    (devices : Devices D I C) (given : Given E H) (staff : List (Worker D I C E H)) : Type 0 where
  pub doors : AreDeskRuns (IsDoorRunAt shown means log) devices.doors (filter_map door_of staff)
      (filter_map door_told staff)
  pub inboxes : AreDeskRuns (IsInboxRunAt shown means log) devices.inboxes (filter_map inbox_of staff)
      (filter_map inbox_told staff)
  pub clocks : AreDeskRuns (IsClockRunAt shown keep means log) devices.clocks (filter_map clock_of staff)
      (filter_map clock_told staff)
  pub at_inboxes_are : map (λ run. run.first) inboxes.runs ≡ given.at_inboxes
  pub at_clocks_are : map (λ run. run.first) clocks.runs ≡ given.at_clocks
  pub counted : (number : ℕ) → sum (counted_by means number staff)
      ≡ sum (counted_in means number inboxes.runs) + sum (counted_in means number clocks.runs)

-- workers were hired for these devices with what was given, and have seen nothing and published nothing
pub record IsHired {D I C E H : Type 0} (means : Means E H) (devices : Devices D I C) (given : Given E H)
    (staff : List (Worker D I C E H)) : Type 0 where
  pub adds : Adds means [] staff devices.doors devices.inboxes devices.clocks given.at_inboxes given.at_clocks
  pub first : All (IsFirst means) staff
