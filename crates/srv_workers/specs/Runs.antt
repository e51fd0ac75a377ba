-- The work of all workers: runs of doors, inboxes and clocks, whose verdicts and replies speak of one log.
use Rattle.std.specs.Prelude.{◌≡◌, ℕ, ◌+◌, List, length, map, sum_by, All, false, Option}
use Rattle.fm_edition.specs.Log.{IsLog}
use Rattle.fm_model.specs.declared.op.Op.{Op}
use Rattle.fm_model.specs.declared.proto.Proto.{Proto}
use Rattle.fm_model.specs.Collection.{coll, tally}
use Rattle.dev_traits.specs.Shown.{LinkShown}
use Rattle.dev_traits.specs.Clock.{Moments}
use Rattle.dev_traits.specs.Door.{DoorShown}
use Rattle.dev_traits.specs.Inbox.{InboxShown}
use Rattle.pub_look.specs.History.{Continues, History}
use Rattle.pub_snap.specs.Opening.{unused}
use Rattle.srv_door.specs.DoorTurns.{EndsDoor, ServesEach}
use Rattle.srv_ingest.specs.Expires.{AllSettledWith}
use Rattle.srv_ingest.specs.Ingests.{EndsIngest, SettledWith}
use Rattle.srv_door.specs.declared.door_report.DoorReport.{DoorReport}
use Rattle.srv_ingest.specs.declared.report.ExpireReport.{ExpireReport}
use Rattle.srv_ingest.specs.declared.report.IngestReport.{IngestReport}
use Rattle.dev_traits.specs.declared.world.Devices.{Devices}
use Rattle.srv_workers.specs.declared.outcome.Outcome.{Outcome}
use Rattle.srv_workers.specs.Work.{sight}

-- one device in the hands of a worker: as it came and as it was left, the worker's pass at the end, and its report
pub record Run (X R : Type 0) : Type 0 where
  pub came : X
  pub left : X
  pub pass : History
  pub report : R

-- the runs of all devices of a kind, in order
pub record AreRuns {X R : Type 0} (Is : Run X R → Type 0) (before after : List X) (reports : List R) : Type 0 where
  pub runs : List (Run X R)
  pub came : map (λ run. run.came) runs ≡ before
  pub left : map (λ run. run.left) runs ≡ after
  pub told : map (λ run. run.report) runs ≡ reports
  pub each : All Is runs

-- a pass that had seen nothing served a door, and the operations that it saw begin the log
pub record IsDoorRun {D L : Type 0} (door : D → DoorShown L) (link : L → LinkShown) (proto : Proto) (log : List Op)
    (run : Run D DoorReport) : Type 0 where
  pub serves : ServesEach link proto false (door run.came).held (door run.left).held (sight (unused proto))
      (sight run.pass) run.report.served run.report.short
  pub ends : EndsDoor (door run.came) (door run.left) run.report.end
  pub begins : Continues run.pass.seen log

-- a pass that had seen nothing took in an inbox's names, and the operations that it saw begin the log
pub record IsInboxRun {I : Type 0} (inbox : I → InboxShown) (proto : Proto) (log : List Op) (run : Run I IngestReport)
    : Type 0 where
  pub settles : SettledWith proto (inbox run.came).held (inbox run.left).held (unused proto) run.pass run.report
  pub ends : EndsIngest (inbox run.came) (inbox run.left) run.report.end
  pub begins : Continues run.pass.seen log

-- a pass that had seen nothing let runs go that were too old at each moment of a clock, and the operations that it saw
-- begin the log
pub record IsClockRun {C : Type 0} (clock : C → Option Moments) (proto : Proto) (keep : ℕ) (log : List Op)
    (run : Run C ExpireReport) : Type 0 where
  pub settles : AllSettledWith keep proto.site.epoch (clock run.came) (clock run.left) (unused proto) run.pass
      run.report
  pub begins : Continues run.pass.seen log

-- the number of operations that the reports count
abbrev pub told_of : Outcome → ℕ
told_of outcome = sum_by (λ (report : IngestReport). report.published) outcome.inboxes
    + sum_by (λ (report : IngestReport). report.retracted) outcome.inboxes
    + sum_by (λ (report : ExpireReport). report.expired) outcome.clocks

-- All devices were in the hands of workers over one log. Each of its operations could be done to what those before it
-- left, and the reports count as many.
pub record RanTogether {D I C L : Type 0} (door : D → DoorShown L) (link : L → LinkShown) (inbox : I → InboxShown)
    (clock : C → Option Moments) (proto : Proto) (keep : ℕ) (before after : Devices D I C) (outcome : Outcome)
    : Type 0 where
  pub log : List Op
  pub sound : IsLog proto log
  pub doors : AreRuns (IsDoorRun door link proto log) before.doors after.doors outcome.doors
  pub inboxes : AreRuns (IsInboxRun inbox proto log) before.inboxes after.inboxes outcome.inboxes
  pub clocks : AreRuns (IsClockRun clock proto keep log) before.clocks after.clocks outcome.clocks
  pub tally_is : outcome.tally ≡ tally (coll log)
  pub revision_is : outcome.revision ≡ length log
  pub told : told_of outcome ≡ outcome.revision
