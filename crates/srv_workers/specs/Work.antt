-- The work of one worker.
use Rattle.std.specs.Prelude.{◌≡◌, ℕ, ◌+◌, Option}
use Rattle.dev_traits.specs.Shown.{LinkShown}
use Rattle.dev_traits.specs.Clock.{Moments}
use Rattle.dev_traits.specs.Door.{DoorShown}
use Rattle.dev_traits.specs.Inbox.{InboxShown}
use Rattle.pub_look.specs.History.{History}
use Rattle.dap_reply.specs.Collections.{Collections, Views}
use Rattle.srv_door.specs.declared.door_report.DoorReport.{DoorReport}
use Rattle.srv_door.specs.DoorTurns.{EndsDoor, ServesEachMany}
use Rattle.srv_conn.specs.Sight.{Sight}
use Rattle.srv_ingest.specs.declared.report.ExpireReport.{ExpireReport}
use Rattle.srv_ingest.specs.declared.report.IngestReport.{IngestReport}
use Rattle.srv_ingest.specs.Expires.{AllSettledWith}
use Rattle.srv_ingest.specs.Ingests.{EndsIngest, SettledWith}
use Rattle.srv_workers.specs.Desks.{Publisher}

-- the view of a pass that serving a door has
abbrev pub sight : History → Sight
sight pass = record { seen = pass.seen; looks = pass.looks }

-- A door was served over some collections: all links that it gave, up to its end.
pub record ServesDoor {D L : Type 0} (door : D → DoorShown L) (link : L → LinkShown) (them : Collections)
    (views views' : Views) (before after : D) (report : DoorReport) : Type 0 where
  pub serves : ServesEachMany link them (door before).held (door after).held views views' report.served report.short
  pub ends : EndsDoor (door before) (door after) report.end

-- An inbox's names were taken in, up to their end, and a share counted them.
pub record TakesIn {I : Type 0} (inbox : I → InboxShown) (them : Collections) (hand hand' : Publisher)
    (before after : I) (report : IngestReport) : Type 0 where
  pub settles : SettledWith (them.proto hand.desk) (inbox before).held (inbox after).held hand.pass hand'.pass report
  pub ends : EndsIngest (inbox before) (inbox after) report.end
  pub counted : hand'.share ≡ hand.share + report.published + report.retracted
  pub same_desk : hand'.desk ≡ hand.desk

-- At each moment of a clock the runs that were too old were let go, and a share counted the times.
pub record LetsGo {C : Type 0} (clock : C → Option Moments) (them : Collections) (keep : ℕ) (hand hand' : Publisher)
    (before after : C) (report : ExpireReport) : Type 0 where
  pub settles : AllSettledWith keep (them.proto hand.desk).site.epoch (clock before) (clock after) hand.pass hand'.pass
      report
  pub counted : hand'.share ≡ hand.share + report.expired
  pub same_desk : hand'.desk ≡ hand.desk
