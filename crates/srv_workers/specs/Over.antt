-- The work of all workers of a run over desks: runs of doors, inboxes and clocks, whose verdicts and replies speak of
-- one log for each desk.
use Rattle.std.specs.Prelude.{◌≡◌, ℕ, ◌+◌, ◌<◌, List, [], ◌∷◌, ◌++◌, length, map, sum, All}
use Rattle.fm_edition.specs.Log.{IsLog}
use Rattle.fm_model.specs.declared.op.Op.{Op}
use Rattle.pub_look.specs.History.{Continues}
use Rattle.srv_door.specs.declared.door_report.DoorReport.{DoorReport}
use Rattle.srv_ingest.specs.declared.report.ExpireReport.{ExpireReport}
use Rattle.srv_ingest.specs.declared.report.IngestReport.{IngestReport}
use Rattle.dev_traits.specs.declared.world.Devices.{Devices}
use Rattle.srv_workers.specs.declared.given.Given.{Given}
use Rattle.srv_workers.specs.declared.outcome.Outcomes.{Outcomes}
use Rattle.srv_workers.specs.Desks.{closed_of, counted_at, first_of, IsNew, IsUnseen, Means}
use Rattle.srv_workers.specs.Does.{Shows}
use Rattle.srv_workers.specs.Work.{LetsGo, ServesDoor, TakesIn}

-- one device in the hands of a worker: as it came and as it was left, what the worker looked or published with, as that
-- was at first and at the end, and its report
pub record DeskRun (X K R : Type 0) : Type 0 where
  pub came : X
  pub left : X
  pub first : K
  pub last : K
  pub report : R

-- the runs of all devices of a kind, in order
pub record AreDeskRuns {X K R : Type 0} (Is : DeskRun X K R → Type 0) (before after : List X) (reports : List R)
    : Type 0 where
  pub runs : List (DeskRun X K R)
  pub came : map (λ run. run.came) runs ≡ before
  pub left : map (λ run. run.left) runs ≡ after
  pub told : map (λ run. run.report) runs ≡ reports
  pub each : All Is runs

-- eyes that had seen nothing served a door, and the operations that they saw of each desk begin its log
pub record IsDoorRunAt {D I C L E H : Type 0} (shown : Shows D I C L) (means : Means E H) (log : ℕ → List Op)
    (run : DeskRun D E DoorReport) : Type 0 where
  pub new : IsUnseen (means.views run.first)
  pub serves : ServesDoor shown.door shown.link means.them (means.views run.first) (means.views run.last)
      run.came run.left run.report
  pub begins : (number : ℕ) → number < means.them.count → Continues ((means.views run.last).seen number) (log number)

-- one that had seen nothing and published nothing took in an inbox's names, and what it saw begins the log of its desk
pub record IsInboxRunAt {D I C L E H : Type 0} (shown : Shows D I C L) (means : Means E H) (log : ℕ → List Op)
    (run : DeskRun I H IngestReport) : Type 0 where
  pub new : IsNew means.them (means.publisher run.first)
  pub takes : TakesIn shown.inbox means.them (means.publisher run.first) (means.publisher run.last)
      run.came run.left run.report
  pub begins : Continues (means.publisher run.last).pass.seen (log (means.publisher run.last).desk)

-- one let runs go that were too old at each moment of a clock
pub record IsClockRunAt {D I C L E H : Type 0} (shown : Shows D I C L) (keep : ℕ) (means : Means E H)
    (log : ℕ → List Op) (run : DeskRun C H ExpireReport) : Type 0 where
  pub new : IsNew means.them (means.publisher run.first)
  pub lets : LetsGo shown.clock means.them keep (means.publisher run.first) (means.publisher run.last)
      run.came run.left run.report
  pub begins : Continues (means.publisher run.last).pass.seen (log (means.publisher run.last).desk)

-- what the shares of runs have counted at the desk of a number
abbrev pub counted_in : {X E H R : Type 0} → Means E H → ℕ → List (DeskRun X H R) → List ℕ
counted_in means number [] = []
counted_in means number (run ∷ runs) =
    counted_at number (means.publisher run.last) ++ counted_in means number runs

-- All devices were in the hands of workers over some desks, each with a log. Each of its operations could be done to
-- what those before it left, and the shares of its desk count as many. Each inbox and each clock had the hand that was
-- given for it.
pub record RanOver {D I C L E H : Type 0} (shown : Shows D I C L) (keep : ℕ) (means : Means E H) (given : Given E H)
    (before after : Devices D I C) (outcomes : Outcomes) : Type 0 where
  pub log : ℕ → List Op
  pub sound : (number : ℕ) → number < means.them.count → IsLog (means.them.proto number) (log number)
  pub doors : AreDeskRuns (IsDoorRunAt shown means log) before.doors after.doors outcomes.doors
  pub inboxes : AreDeskRuns (IsInboxRunAt shown means log) before.inboxes after.inboxes outcomes.inboxes
  pub clocks : AreDeskRuns (IsClockRunAt shown keep means log) before.clocks after.clocks outcomes.clocks
  pub at_inboxes_are : map (λ run. run.first) inboxes.runs ≡ given.at_inboxes
  pub at_clocks_are : map (λ run. run.first) clocks.runs ≡ given.at_clocks
  pub closed : outcomes.desks ≡ map closed_of (first_of means.them.count log)
  pub told : (number : ℕ) → number < means.them.count
      → sum (counted_in means number inboxes.runs) + sum (counted_in means number clocks.runs) ≡ length (log number)
