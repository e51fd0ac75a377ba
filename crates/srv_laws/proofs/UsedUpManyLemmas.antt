-- The devices after a run of `many` that ends well.
use Rattle.std.proofs.Common.{◌≡◌, ◌⊎◌, inl, inr, ℕ, List, [], length, slice_get, All, None, IsSomeAnd, sym, subst}
use Rattle.std.specs.Prelude.{IfSome}
use Rattle.std.specs.Option.{option_or}
use Rattle.fm_model.specs.declared.proto.Proto.{Proto}
use Rattle.dap_reply.specs.Collections.{Views}
use Rattle.srv_door.specs.declared.door_report.DoorEnd.TheVariants as door_ends
use Rattle.srv_door.specs.declared.door_report.DoorReport.{DoorReport}
use Rattle.srv_ingest.specs.declared.report.ExpireReport.{ExpireReport}
use Rattle.srv_ingest.specs.declared.report.IngestEnd.TheVariants as inbox_ends
use Rattle.srv_ingest.specs.declared.report.IngestReport.{IngestReport}
use Rattle.srv_words.specs.declared.job.ServingMany.{ServingMany}
use Rattle.srv_workers.specs.declared.outcome.Outcomes.{Outcomes}
use Rattle.srv_workers.specs.Over.{DeskRun}
use Rattle.srv_workers.specs.Runs.{IsClockRun, IsInboxRun, Run}
use Rattle.srv_workers.specs.Several.{collections_over, IsDoorRunOver}
use Rattle.srv_alone.specs.declared.end.End.{End}
use Rattle.srv_serve.specs.Closing.{clock_end, door_end, first_end_of, first_from, inbox_end}
use Rattle.srv_serve.specs.Devices.{kept_for}
use Rattle.srv_serve.specs.Lines.{many_lines}
use Rattle.srv_serve.specs.Many.{asked_by, EndsUnopened, GoesOn, HasRun, RunsMany, ServesDevices}
use Rattle.srv_serve.specs.Shows.{Shows}
use Rattle.srv_serve.specs.Stage.{Stage}
use Rattle.srv_serve.proofs.ManyLemmas.{by-some, BySome}
use Rattle.srv_serve.proofs.RunLemmas.{by_devices}
use Rattle.srv_laws.specs.WellServed.{EndsWell, HasNoMomentLeft, IsUsedUp, ShowsClocks}
use Rattle.srv_laws.proofs.ClockLemmas.{all-through, clock-used, HasMoments, opens-shown}
use Rattle.srv_laws.proofs.UsedUpLemmas.{all-none, all-where, closed, done, door-used, inbox-used, neither, no-end, no-file, no-stop}
use Rattle.srv_laws.proofs.WorkedManyLemmas.{at-spec-file}

-- workers ran over all devices, and all ended well
record HasEndedWell {D I C L : Type 0} (show : Shows D I C L) (serving : ServingMany) (stage stage' : Stage D I C)
    : Type 0 where
  protos : List Proto
  them : Outcomes
  run : HasRun show serving protos stage.opener stage'.opener stage'.devices them
  first : first_end_of them.doors them.inboxes them.clocks ≡ None

-- where a run ends at no worker, all its devices are used up
run-used : {D I C L : Type 0} (show : Shows D I C L) (serving : ServingMany) (stage stage' : Stage D I C)
    → HasEndedWell show serving stage stage' → IsUsedUp show stage'
run-used {D} {I} show serving stage stage' ended =
    let ran = ended.run.ran in
    let them = ended.them in
    let doors = neither (first_from door_end 0 them.doors)
    (option_or (first_from inbox_end 0 them.inboxes) (first_from clock_end 0 them.clocks)) ended.first in
    let inboxes = neither (first_from inbox_end 0 them.inboxes) (first_from clock_end 0 them.clocks) doors.1 in
    let Each : ℕ → Run I IngestReport → Type 0 =
    λ n. IsInboxRun show.inbox ((collections_over ended.protos).proto n) (ran.log n) in
    record {
      doors = all-where (λ (r : DeskRun D Views DoorReport). r.left) (λ (r : DeskRun D Views DoorReport). r.report)
          (IsDoorRunOver show.door show.link (collections_over ended.protos) ran.log)
          (λ (r : DoorReport). r.end ≡ door_ends.Closed)
          (λ door. IfSome (show.door door).held (λ doorway. doorway.left ≡ [])) ran.doors.runs stage'.devices.doors
          them.doors ran.doors.left ran.doors.told ran.doors.each
          (λ it is end. door-used (show.door it.came) (show.door it.left) it.report.end is.serves.ends end)
          (all-none door_end (λ (r : DoorReport). r.end ≡ door_ends.Closed) (λ n r none. closed n r.end r.short none) 0
          them.doors doors.0);
      inboxes = all-where (λ (r : Run I IngestReport). r.left) (λ (r : Run I IngestReport). r.report) (BySome Each)
          (λ (r : IngestReport). r.end ≡ inbox_ends.Done)
          (λ inbox. IfSome (show.inbox inbox).held (λ post. post.left ≡ [])) ran.inboxes.runs stage'.devices.inboxes
          them.inboxes ran.inboxes.left ran.inboxes.told (by-some Each ran.inboxes.runs ran.inboxes.each)
          (λ it is end. inbox-used (show.inbox it.came) (show.inbox it.left) it.report.end is.1.ends end)
          (all-none inbox_end (λ (r : IngestReport). r.end ≡ inbox_ends.Done) (λ n r none. done n r.end r.short none) 0
          them.inboxes inboxes.0);
    }

-- its clocks have no moment left
clocks-used : {D I C L : Type 0} (show : Shows D I C L) (serving : ServingMany) (stage stage' : Stage D I C)
    → HasEndedWell show serving stage stage' → ShowsClocks show stage.opener → HasNoMomentLeft show stage'
clocks-used {D} {I} {C} show serving stage stage' ended shown =
    let run = ended.run in
    let opened = opens-shown show (asked_by serving) stage.opener.held run.opening.opened.held run.devices shown.stock
    run.opening.opens shown.held_is shown.each in
    let are = run.ran.clocks in
    let Each : ℕ → Run C ExpireReport → Type 0 =
    λ n. IsClockRun show.clock ((collections_over ended.protos).proto n) (kept_for serving.keep) (run.ran.log n) in
    let Used : C → Type 0 = λ clock. IsSomeAnd (show.clock clock) (λ moments. moments.left ≡ []) in
    subst (λ (xs : List C). All Used xs) are.left
    (all-through (λ (r : Run C ExpireReport). r.came) (λ (r : Run C ExpireReport). r.left) (BySome Each)
    (HasMoments show.clock) Used are.runs (by-some Each are.runs are.each)
    (λ it is some. clock-used (show.clock it.came) (show.clock it.left) is.1.settles.settled some is.1.settles.all)
    (subst (λ (xs : List C). All (HasMoments show.clock) xs) (sym are.came) opened))

serves-well : {D I C L : Type 0} (show : Shows D I C L) (serving : ServingMany) (protos : List Proto) (end : End)
    (stage stage' : Stage D I C) → ServesDevices show serving protos stage stage' end → EndsWell end
    → HasEndedWell show serving stage stage'
serves-well show serving protos end stage stage' (inl stopped) well =
    absurd (no-stop (asked_by serving) stage'.devices stage.opener.faults stage'.opener.faults end
    stopped.stopped.stops well)
serves-well show serving protos end stage stage' (inr ran) well =
    let them = ran.outcomes in record {
      protos = protos;
      them = them;
      run = ran.run;
      first = no-end (many_lines serving.specs them) (first_end_of them.doors them.inboxes them.clocks) end
          stage.outside.sink stage'.outside.sink (by_devices them.doors them.inboxes them.clocks) ran.ends well;
    }

runs-well : {D I C L : Type 0} (show : Shows D I C L) (serving : ServingMany) (end : End) (stage stage' : Stage D I C)
    → EndsUnopened serving stage stage' end ⊎ GoesOn show serving stage stage' end → EndsWell end
    → HasEndedWell show serving stage stage'
runs-well show serving end stage stage' (inl ends) well =
    absurd (no-file end (at-spec-file end stage stage' (slice_get serving.specs (length ends.protos)) ends.at) well)
runs-well show serving end stage stage' (inr on) well =
    serves-well show serving on.protos end stage stage' on.serves well

pub used-up-many : {D I C L : Type 0} (show : Shows D I C L) (serving : ServingMany) (end : End)
    (stage stage' : Stage D I C) → RunsMany show serving end stage stage' → EndsWell end → IsUsedUp show stage'
used-up-many show serving end stage stage' runs well =
    run-used show serving stage stage' (runs-well show serving end stage stage' runs.runs well)

pub no-moment-many : {D I C L : Type 0} (show : Shows D I C L) (serving : ServingMany) (end : End)
    (stage stage' : Stage D I C) → RunsMany show serving end stage stage' → EndsWell end
    → ShowsClocks show stage.opener → HasNoMomentLeft show stage'
no-moment-many show serving end stage stage' runs well shown =
    clocks-used show serving stage stage' (runs-well show serving end stage stage' runs.runs well) shown
