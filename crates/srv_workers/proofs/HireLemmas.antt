-- Workers that are hired, and the end of a run.
use Rattle.std.proofs.Common.{◌≡◌, ℕ, ◌<◌, ◌≤◌, List, [], length, sym, ap, ◌∙◌, arith}
use Rattle.std.proofs.lemmas.List.Elements.{All-nil}
use Rattle.std.specs.List.{filter_map}
use Rattle.fm_edition.specs.Log.{IsLog}
use Rattle.fm_model.specs.declared.op.Op.{Op}
use Rattle.dev_traits.specs.declared.world.Devices.{Devices}
use Rattle.srv_workers.specs.declared.given.Given.{Given}
use Rattle.srv_workers.specs.declared.outcome.Outcomes.{Outcomes}
use Rattle.srv_workers.specs.declared.parts.Parts.{Parts}
use Rattle.srv_workers.specs.declared.worker.Worker.{Worker}
use Rattle.srv_workers.specs.Close.{Closes}
use Rattle.srv_workers.specs.Desks.{Means}
use Rattle.srv_workers.specs.Does.{Shows}
use Rattle.srv_workers.specs.Done.{AreDone, IsHired}
use Rattle.srv_workers.specs.Over.{AreDeskRuns, DeskRun, IsClockRunAt, IsDoorRunAt, IsInboxRunAt, RanOver}
use Rattle.srv_workers.specs.Parts.{HasRoom}
use Rattle.srv_workers.specs.Workers.{Adds, clock_of, clock_told, door_of, door_told, inbox_of, inbox_told, IsFirst}
use Rattle.srv_workers.proofs.DoneLemmas.{runs-count, told-count}

-- workers that were put where nothing was
pub IsHired-is : {D I C E H : Type 0} (means : Means E H) (devices : Devices D I C) (given : Given E H)
    (staff : List (Worker D I C E H))
    → Adds means [] staff devices.doors devices.inboxes devices.clocks given.at_inboxes given.at_clocks
    → IsHired means devices given staff
IsHired-is means devices given staff adds = record { adds = adds; first = adds.first (All-nil (IsFirst means)) }

-- there is a door's worker where there is a door
pub hired-some : {D I C E H : Type 0} (means : Means E H) (devices : Devices D I C) (given : Given E H)
    (staff : List (Worker D I C E H)) → 1 ≤ length devices.doors → IsHired means devices given staff
    → 0 < length (filter_map door_of staff)
hired-some {D} means devices given staff some hired =
    omega (arith, some, ap (λ (l : List D). length l) hired.adds.doors_are)

-- there is room for the workers' parts
pub HasRoom-done : {D I C L E H B : Type 0} (shown : Shows D I C L) (keep : ℕ) (means : Means E H)
    (log : ℕ → List Op) (devices : Devices D I C) (given : Given E H) (staff : List (Worker D I C E H))
    (parts : Parts D I C B) → AreDone shown keep means log devices given staff
    → length devices.doors ≤ parts.doors.free → length devices.doors ≤ parts.doors_told.free
    → length devices.inboxes ≤ parts.inboxes.free → length devices.inboxes ≤ parts.inboxes_told.free
    → length devices.clocks ≤ parts.clocks.free → length devices.clocks ≤ parts.clocks_told.free
    → HasRoom staff parts
HasRoom-done shown keep means log devices given staff parts done doors doors_told inboxes inboxes_told clocks
    clocks_told = record {
      doors = omega (
        arith,
        doors,
        runs-count (IsDoorRunAt shown means log) devices.doors (filter_map door_of staff)
            (filter_map door_told staff) done.doors,
      );
      inboxes = omega (
        arith,
        inboxes,
        runs-count (IsInboxRunAt shown means log) devices.inboxes
            (filter_map inbox_of staff) (filter_map inbox_told staff) done.inboxes,
      );
      clocks = omega (
        arith,
        clocks,
        runs-count (IsClockRunAt shown keep means log) devices.clocks
            (filter_map clock_of staff) (filter_map clock_told staff) done.clocks,
      );
      doors_told = omega (
        arith,
        doors_told,
        told-count (IsDoorRunAt shown means log) devices.doors
            (filter_map door_of staff) (filter_map door_told staff) done.doors,
      );
      inboxes_told = omega (
        arith,
        inboxes_told,
        told-count (IsInboxRunAt shown means log) devices.inboxes
            (filter_map inbox_of staff) (filter_map inbox_told staff) done.inboxes,
      );
      clocks_told = omega (
        arith,
        clocks_told,
        told-count (IsClockRunAt shown keep means log) devices.clocks
            (filter_map clock_of staff) (filter_map clock_told staff) done.clocks,
      );
    }

-- runs that ended with equal lists
runs-end : {X K R : Type 0} (Is : DeskRun X K R → Type 0) (before after after' : List X) (reports reports' : List R)
    → after' ≡ after → reports' ≡ reports → AreDeskRuns Is before after reports → AreDeskRuns Is before after' reports'
runs-end Is before after after' reports reports' one two runs = record {
  runs = runs.runs;
  came = runs.came;
  left = runs.left ∙ sym one;
  told = runs.told ∙ sym two;
  each = runs.each;
}

-- a run whose tasks are done and whose desks were closed
pub RanOver-is : {D I C L E H : Type 0} (shown : Shows D I C L) (keep : ℕ) (means : Means E H) (log : ℕ → List Op)
    (before after : Devices D I C) (given : Given E H) (staff : List (Worker D I C E H)) (outcomes : Outcomes)
    → AreDone shown keep means log before given staff
    → ((number : ℕ) → number < means.them.count → IsLog (means.them.proto number) (log number))
    → Closes means log staff after outcomes → RanOver shown keep means given before after outcomes
unfolding runs-end
RanOver-is shown keep means log before after given staff outcomes done sound closes = record {
  log = log;
  sound = sound;
  doors = runs-end (IsDoorRunAt shown means log) before.doors (filter_map door_of staff) after.doors
      (filter_map door_told staff) outcomes.doors closes.doors closes.doors_told done.doors;
  inboxes = runs-end (IsInboxRunAt shown means log) before.inboxes (filter_map inbox_of staff) after.inboxes
      (filter_map inbox_told staff) outcomes.inboxes closes.inboxes closes.inboxes_told done.inboxes;
  clocks = runs-end (IsClockRunAt shown keep means log) before.clocks (filter_map clock_of staff) after.clocks
      (filter_map clock_told staff) outcomes.clocks closes.clocks closes.clocks_told done.clocks;
  at_inboxes_are = done.at_inboxes_are;
  at_clocks_are = done.at_clocks_are;
  closed = closes.desks;
  told = λ number below. sym (done.counted number) ∙ closes.counted number below;
}
