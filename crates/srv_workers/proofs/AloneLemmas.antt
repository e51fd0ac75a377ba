-- A run over one desk, in the terms of one log.
use Rattle.std.proofs.Common.{◌≡◌, ℕ, ◌+◌, List, [], ◌∷◌, map, sum, sum_by, All, Option, false, refl, sym, ap₂, subst, ◌∙◌, arith}
use Rattle.std.proofs.lemmas.List.Elements.{All-head, All-map, All-tail, All-weaker}
use Rattle.std.proofs.lemmas.List.Sums.{sum_by-cons}
use Rattle.fm_model.specs.declared.op.Op.{Op}
use Rattle.fm_model.specs.declared.proto.Proto.{Proto}
use Rattle.dev_traits.specs.Shown.{LinkShown}
use Rattle.dev_traits.specs.Clock.{Moments}
use Rattle.dev_traits.specs.Door.{DoorShown}
use Rattle.dev_traits.specs.Inbox.{InboxShown}
use Rattle.dev_traits.specs.declared.world.Devices.{Devices}
use Rattle.pub_look.specs.History.{History}
use Rattle.dap_reply.specs.Collections.{alone}
use Rattle.srv_door.specs.declared.door_report.DoorReport.{DoorReport}
use Rattle.srv_door.specs.DoorTurns.{ServesEach, ServesEachMany}
use Rattle.srv_conn.specs.Sight.{views_of}
use Rattle.srv_ingest.specs.declared.report.ExpireReport.{ExpireReport}
use Rattle.srv_ingest.specs.declared.report.IngestReport.{IngestReport}
use Rattle.srv_ingest.specs.Expires.{AllSettledWith}
use Rattle.srv_ingest.specs.Ingests.{SettledWith}
use Rattle.srv_workers.specs.declared.given.Given.{Given}
use Rattle.srv_workers.specs.declared.one.OwnHand.{OwnHand}
use Rattle.srv_workers.specs.declared.outcome.Outcome.{Outcome}
use Rattle.srv_workers.specs.declared.outcome.Outcomes.{Outcomes}
use Rattle.srv_workers.specs.Desks.{closed_of}
use Rattle.srv_workers.specs.Does.{shows}
use Rattle.srv_workers.specs.One.{IsOfOne, one_means}
use Rattle.srv_workers.specs.Over.{AreDeskRuns, counted_in, DeskRun, IsClockRunAt, IsDoorRunAt, IsInboxRunAt, RanOver}
use Rattle.srv_workers.specs.Runs.{AreRuns, IsClockRun, IsDoorRun, IsInboxRun, RanTogether, Run}
use Rattle.srv_workers.specs.Work.{sight}

-- a run at a desk, with the pass at the end
abbrev pub run_of : {X K R : Type 0} → (K → History) → DeskRun X K R → Run X R
run_of pass run = record { came = run.came; left = run.left; pass = pass run.last; report = run.report }

-- what is read off each, before and after
pub same-map : {A B C : Type 0} (f : A → B) (g : B → C) (h : A → C) (xs : List A) → ((x : A) → g (f x) ≡ h x)
    → map g (map f xs) ≡ map h xs
same-map f g h [] same = refl
same-map {C = C} f g h (x ∷ xs) same = ap₂ (λ (y : C) (ys : List C). y ∷ ys) (same x) (same-map f g h xs same)

-- the runs of all devices of a kind
runs-alone : {X K R : Type 0} (pass : K → History) (Is : DeskRun X K R → Type 0) (IsSo : Run X R → Type 0)
    (before after : List X) (reports : List R) → ((run : DeskRun X K R) → Is run → IsSo (run_of pass run))
    → AreDeskRuns Is before after reports → AreRuns IsSo before after reports
runs-alone {X} {K} {R} pass Is IsSo before after reports so runs = record {
  runs = map (run_of pass) runs.runs;
  came = same-map (run_of pass) (λ (run : Run X R). run.came) (λ (run : DeskRun X K R). run.came) runs.runs
      (λ run. refl) ∙ runs.came;
  left = same-map (run_of pass) (λ (run : Run X R). run.left) (λ (run : DeskRun X K R). run.left) runs.runs
      (λ run. refl) ∙ runs.left;
  told = same-map (run_of pass) (λ (run : Run X R). run.report) (λ (run : DeskRun X K R). run.report) runs.runs
      (λ run. refl) ∙ runs.told;
  each = All-map IsSo (run_of pass) runs.runs
      (All-weaker Is (λ (run : DeskRun X K R). IsSo (run_of pass run)) so runs.runs runs.each);
}

-- a door that eyes served which had seen nothing
door-alone : {D I C L N : Type 0} (door : D → DoorShown L) (link : L → LinkShown) (inbox : I → InboxShown)
    (clock : C → Option Moments) (proto : Proto) (log : ℕ → List Op) (run : DeskRun D History DoorReport)
    → IsDoorRunAt (shows door link inbox clock) (one_means {N = N} proto) log run
    → IsDoorRun door link proto (log 0) (run_of (λ pass. pass) run)
unfolding ServesEach
door-alone door link inbox clock proto log run is = record {
  serves = subst (λ (looks : List ℕ). Serves [] looks) (is.new.looks 0)
      (subst (λ (seen : List Op). Serves seen run.first.looks) (is.new.seen 0) is.serves.serves);
  ends = is.serves.ends;
  begins = is.begins 0 (omega arith);
}
  where
    Serves : List Op → List ℕ → Type 0
    Serves seen looks = ServesEachMany link (alone proto false) (door run.came).held (door run.left).held
        (views_of (record { seen = seen; looks = looks })) (views_of (sight run.last))
        run.report.served run.report.short

-- an inbox whose names one took in that had seen nothing
inbox-alone : {D I C L N : Type 0} (door : D → DoorShown L) (link : L → LinkShown) (inbox : I → InboxShown)
    (clock : C → Option Moments) (proto : Proto) (log : ℕ → List Op) (run : DeskRun I (OwnHand N) IngestReport)
    → IsInboxRunAt (shows door link inbox clock) (one_means {N = N} proto) log run
    → IsInboxRun inbox proto (log 0) (run_of (λ hand. hand.own) run)
inbox-alone door link inbox clock proto log run is = record {
  settles = subst (λ (pass : History). SettledWith proto (inbox run.came).held (inbox run.left).held pass run.last.own
      run.report) is.new.pass_is is.takes.settles;
  ends = is.takes.ends;
  begins = is.begins;
}

-- a clock at whose moments one let runs go
clock-alone : {D I C L N : Type 0} (door : D → DoorShown L) (link : L → LinkShown) (inbox : I → InboxShown)
    (clock : C → Option Moments) (proto : Proto) (keep : ℕ) (log : ℕ → List Op)
    (run : DeskRun C (OwnHand N) ExpireReport)
    → IsClockRunAt (shows door link inbox clock) keep (one_means {N = N} proto) log run
    → IsClockRun clock proto keep (log 0) (run_of (λ hand. hand.own) run)
clock-alone door link inbox clock proto keep log run is = record {
  settles = subst (λ (pass : History). AllSettledWith keep proto.site.epoch (clock run.came) (clock run.left) pass
      run.last.own run.report) is.new.pass_is is.lets.settles;
  begins = is.begins;
}

-- the shares of inboxes count what their reports tell
inboxes-told : {D I C L N : Type 0} (door : D → DoorShown L) (link : L → LinkShown) (inbox : I → InboxShown)
    (clock : C → Option Moments) (proto : Proto) (log : ℕ → List Op) (runs : List (DeskRun I (OwnHand N) IngestReport))
    → All (IsInboxRunAt (shows door link inbox clock) (one_means {N = N} proto) log) runs
    → sum_by (λ (report : IngestReport). report.published) (map (λ run. run.report) runs)
    + sum_by (λ (report : IngestReport). report.retracted) (map (λ run. run.report) runs)
    ≡ sum (counted_in (one_means {N = N} proto) 0 runs)
inboxes-told door link inbox clock proto log [] all = refl
inboxes-told {D} {I} {C} {L} {N} door link inbox clock proto log (run ∷ runs) all =
    ap₂ (λ (a b : ℕ). a + b)
    (sum_by-cons (λ (report : IngestReport). report.published) run.report (map (λ run. run.report) runs))
    (sum_by-cons (λ (report : IngestReport). report.retracted) run.report (map (λ run. run.report) runs))
    ∙ sums (inboxes-told door link inbox clock proto log runs (All-tail IsAt run runs all))
    ∙ sym (sum_by-cons (λ (n : ℕ). n) run.last.share (counted_in (one_means {N = N} proto) 0 runs))
  where
    IsAt : DeskRun I (OwnHand N) IngestReport → Type 0
    IsAt = IsInboxRunAt (shows door link inbox clock) (one_means {N = N} proto) log

    here : IsAt run
    here = All-head IsAt run runs all

    sums : sum_by (λ (report : IngestReport). report.published) (map (λ run. run.report) runs)
        + sum_by (λ (report : IngestReport). report.retracted) (map (λ run. run.report) runs)
        ≡ sum (counted_in (one_means {N = N} proto) 0 runs)
        → run.report.published + sum_by (λ (report : IngestReport). report.published) (map (λ run. run.report) runs)
        + (run.report.retracted + sum_by (λ (report : IngestReport). report.retracted) (map (λ run. run.report) runs))
        ≡ run.last.share + sum (counted_in (one_means {N = N} proto) 0 runs)
    sums rest = omega (arith, here.takes.counted, here.new.share_is, rest)

-- those of clocks
clocks-told : {D I C L N : Type 0} (door : D → DoorShown L) (link : L → LinkShown) (inbox : I → InboxShown)
    (clock : C → Option Moments) (proto : Proto) (keep : ℕ) (log : ℕ → List Op)
    (runs : List (DeskRun C (OwnHand N) ExpireReport))
    → All (IsClockRunAt (shows door link inbox clock) keep (one_means {N = N} proto) log) runs
    → sum_by (λ (report : ExpireReport). report.expired) (map (λ run. run.report) runs)
    ≡ sum (counted_in (one_means {N = N} proto) 0 runs)
clocks-told door link inbox clock proto keep log [] all = refl
clocks-told {D} {I} {C} {L} {N} door link inbox clock proto keep log (run ∷ runs) all =
    sum_by-cons (λ (report : ExpireReport). report.expired) run.report (map (λ run. run.report) runs)
    ∙ sums (clocks-told door link inbox clock proto keep log runs (All-tail IsAt run runs all))
    ∙ sym (sum_by-cons (λ (n : ℕ). n) run.last.share (counted_in (one_means {N = N} proto) 0 runs))
  where
    IsAt : DeskRun C (OwnHand N) ExpireReport → Type 0
    IsAt = IsClockRunAt (shows door link inbox clock) keep (one_means {N = N} proto) log

    here : IsAt run
    here = All-head IsAt run runs all

    sums : sum_by (λ (report : ExpireReport). report.expired) (map (λ run. run.report) runs)
        ≡ sum (counted_in (one_means {N = N} proto) 0 runs)
        → run.report.expired + sum_by (λ (report : ExpireReport). report.expired) (map (λ run. run.report) runs)
        ≡ run.last.share + sum (counted_in (one_means {N = N} proto) 0 runs)
    sums rest = omega (arith, here.lets.counted, here.new.share_is, rest)

-- a run over one desk is one over one log
pub RanTogether-one : {D I C L N : Type 0} (door : D → DoorShown L) (link : L → LinkShown) (inbox : I → InboxShown)
    (clock : C → Option Moments) (proto : Proto) (keep : ℕ) (given : Given History (OwnHand N))
    (before after : Devices D I C) (outcomes : Outcomes) (outcome : Outcome)
    → RanOver (shows door link inbox clock) keep (one_means {N = N} proto) given before after outcomes
    → IsOfOne outcomes outcome → RanTogether door link inbox clock proto keep before after outcome
RanTogether-one {D} {I} {C} {L} {N} door link inbox clock proto keep given before after outcomes outcome ran
    of_one = record {
      log = ran.log 0;
      sound = ran.sound 0 (omega arith);
      doors = subst (λ (all : List DoorReport). AreRuns (IsDoorRun door link proto (ran.log 0)) before.doors after.doors
          all) (sym of_one.doors) (runs-alone (λ pass. pass)
          (IsDoorRunAt (shows door link inbox clock) (one_means {N = N} proto) ran.log)
          (IsDoorRun door link proto (ran.log 0)) before.doors after.doors outcomes.doors
          (door-alone {N = N} door link inbox clock proto ran.log) ran.doors);
      inboxes = subst (λ (reports : List IngestReport). AreRuns (IsInboxRun inbox proto (ran.log 0)) before.inboxes
          after.inboxes reports) (sym of_one.inboxes) (runs-alone (λ hand. hand.own)
          (IsInboxRunAt (shows door link inbox clock) (one_means {N = N} proto) ran.log)
          (IsInboxRun inbox proto (ran.log 0)) before.inboxes after.inboxes outcomes.inboxes
          (inbox-alone door link inbox clock proto ran.log) ran.inboxes);
      clocks = subst (λ (reports : List ExpireReport). AreRuns (IsClockRun clock proto keep (ran.log 0)) before.clocks
          after.clocks reports) (sym of_one.clocks) (runs-alone (λ hand. hand.own)
          (IsClockRunAt (shows door link inbox clock) keep (one_means {N = N} proto) ran.log)
          (IsClockRun clock proto keep (ran.log 0)) before.clocks after.clocks outcomes.clocks
          (clock-alone door link inbox clock proto keep ran.log) ran.clocks);
      tally_is = of_one.tally (closed_of (ran.log 0)) ran.closed;
      revision_is = of_one.revision (closed_of (ran.log 0)) ran.closed;
      told = ap₂ (λ (is : List IngestReport) (cs : List ExpireReport).
          sum_by (λ (report : IngestReport). report.published) is
          + sum_by (λ (report : IngestReport). report.retracted) is
          + sum_by (λ (report : ExpireReport). report.expired) cs)
          (of_one.inboxes ∙ sym ran.inboxes.told) (of_one.clocks ∙ sym ran.clocks.told)
          ∙ ap₂ (λ (a b : ℕ). a + b)
          (inboxes-told door link inbox clock proto ran.log ran.inboxes.runs ran.inboxes.each)
          (clocks-told door link inbox clock proto keep ran.log ran.clocks.runs ran.clocks.each)
          ∙ ran.told 0 (omega arith) ∙ sym (of_one.revision (closed_of (ran.log 0)) ran.closed);
    }
