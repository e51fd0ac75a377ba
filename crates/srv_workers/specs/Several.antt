-- The work of all workers over several collections: each door is served over all of them, and each inbox and each clock
-- is of the collection of its number. Verdicts and replies speak of one log for each.
use Rattle.std.specs.Prelude.{⊤, ◌≡◌, ℕ, ◌+◌, ◌<◌, suc, List, [], ◌∷◌, length, map, slice_get, false, Option, Some, None}
use Rattle.fm_edition.specs.Log.{IsLog}
use Rattle.fm_model.specs.declared.op.Op.{Op}
use Rattle.fm_model.specs.declared.proto.Proto.{Proto}
use Rattle.dev_traits.specs.Shown.{LinkShown}
use Rattle.dev_traits.specs.Clock.{Moments}
use Rattle.dev_traits.specs.Door.{DoorShown}
use Rattle.dev_traits.specs.Inbox.{InboxShown}
use Rattle.dev_traits.specs.declared.world.Devices.{Devices}
use Rattle.pub_look.specs.History.{Continues}
use Rattle.pub_snap.specs.Opening.{no_proto}
use Rattle.dap_reply.specs.Collections.{Collections, Views}
use Rattle.srv_door.specs.declared.door_report.DoorReport.{DoorReport}
use Rattle.srv_ingest.specs.declared.report.ExpireReport.{ExpireReport}
use Rattle.srv_ingest.specs.declared.report.IngestReport.{IngestReport}
use Rattle.srv_many.specs.Choice.{choice_of}
use Rattle.srv_many.specs.Several.{nth}
use Rattle.srv_workers.specs.declared.outcome.Outcomes.{Outcomes}
use Rattle.srv_workers.specs.Desks.{closed_of, first_of, IsUnseen}
use Rattle.srv_workers.specs.Over.{AreDeskRuns, DeskRun}
use Rattle.srv_workers.specs.Runs.{IsClockRun, IsInboxRun, Run}
use Rattle.srv_workers.specs.Work.{ServesDoor}

-- the collections over these prototypes; what is said of the first is said of numbers past the last
abbrev pub collections_over : List Proto → Collections
collections_over protos = record {
  count = length protos;
  proto = nth (nth no_proto protos 0) protos;
  still = λ _. false;
  choice = choice_of protos;
}

-- nothing had been seen of any collection, a door was served over all of them, and the operations that were seen of
-- each begin its log
pub record IsDoorRunOver {D L : Type 0} (door : D → DoorShown L) (link : L → LinkShown) (them : Collections)
    (log : ℕ → List Op) (run : DeskRun D Views DoorReport) : Type 0 where
  pub new : IsUnseen run.first
  pub serves : ServesDoor door link them run.first run.last run.came run.left run.report
  pub begins : (number : ℕ) → number < them.count → Continues (run.last.seen number) (log number)

-- this is so of each by its number from 0
abbrev pub EachInOrder : {R : Type 0} → (ℕ → R → Type 0) → List R → Type 0
EachInOrder Is [] = ⊤
EachInOrder Is (run ∷ runs) = Is 0 run × EachInOrder (λ number. Is (suc number)) runs

-- the runs of all devices of a kind, in order, one for each collection
pub record AreRunsInOrder {X R : Type 0} (Is : ℕ → Run X R → Type 0) (before after : List X) (reports : List R)
    : Type 0 where
  pub runs : List (Run X R)
  pub came : map (λ run. run.came) runs ≡ before
  pub left : map (λ run. run.left) runs ≡ after
  pub told : map (λ run. run.report) runs ≡ reports
  pub each : EachInOrder Is runs

-- how many operations an inbox's report counts, if there is one
abbrev pub taken_by : Option IngestReport → ℕ
taken_by None = 0
taken_by (Some report) = report.published + report.retracted

-- how many a clock's report counts
abbrev pub gone_by : Option ExpireReport → ℕ
gone_by None = 0
gone_by (Some report) = report.expired

-- how many the reports of a collection count
abbrev pub told_at : ℕ → Outcomes → ℕ
told_at number outcomes =
    taken_by (slice_get outcomes.inboxes number) + gone_by (slice_get outcomes.clocks number)

-- All devices were in the hands of workers over these collections, each with a log. Each of its operations could be
-- done to what those before it left, the end of its desk tells how much it leaves and its length, and its reports count
-- as many.
pub record RanAmong {D I C L : Type 0} (door : D → DoorShown L) (link : L → LinkShown) (inbox : I → InboxShown)
    (clock : C → Option Moments) (them : Collections) (keep : ℕ) (before after : Devices D I C) (outcomes : Outcomes)
    : Type 0 where
  pub log : ℕ → List Op
  pub sound : (number : ℕ) → number < them.count → IsLog (them.proto number) (log number)
  pub doors : AreDeskRuns (IsDoorRunOver door link them log) before.doors after.doors outcomes.doors
  pub inboxes : AreRunsInOrder (λ number. IsInboxRun inbox (them.proto number) (log number)) before.inboxes
      after.inboxes outcomes.inboxes
  pub clocks : AreRunsInOrder (λ number. IsClockRun clock (them.proto number) keep (log number)) before.clocks
      after.clocks outcomes.clocks
  pub closed : outcomes.desks ≡ map closed_of (first_of them.count log)
  pub told : (number : ℕ) → number < them.count → told_at number outcomes ≡ length (log number)

-- The same over these prototypes.
abbrev pub RanSeveral : {D I C L : Type 0} → (D → DoorShown L) → (L → LinkShown) → (I → InboxShown)
    → (C → Option Moments) → List Proto → ℕ → Devices D I C → Devices D I C → Outcomes → Type 0
RanSeveral door link inbox clock protos keep before after outcomes =
    RanAmong door link inbox clock (collections_over protos) keep before after outcomes
