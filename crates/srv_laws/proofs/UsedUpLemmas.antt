-- The devices after a run of `serve` that ends well.
use Rattle.std.proofs.Common.{◌≡◌, ◌⊎◌, inl, inr, ℕ, ◌+◌, List, [], ◌∷◌, map, All, Option, Some, None, refl, sym, subst}
use Rattle.std.proofs.lemmas.List.Elements.{All-cons, All-head, All-nil, All-tail}
use Rattle.std.specs.Prelude.{IfSome}
use Rattle.std.specs.Option.{option_or}
use Rattle.dev_traits.specs.Door.{DoorShown}
use Rattle.dev_traits.specs.Inbox.{InboxShown}
use Rattle.dev_traits.specs.Shown.{SinkShown}
use Rattle.fm_model.specs.declared.proto.Proto.{Proto}
use Rattle.srv_door.specs.DoorTurns.{EndsDoor}
use Rattle.srv_door.specs.declared.door_report.DoorEnd.{DoorEnd}
use Rattle.srv_door.specs.declared.door_report.DoorEnd.TheVariants as door_ends
use Rattle.srv_door.specs.declared.door_report.DoorReport.{DoorReport}
use Rattle.srv_ingest.specs.Ingests.{EndsIngest}
use Rattle.srv_ingest.specs.declared.report.IngestEnd.{IngestEnd}
use Rattle.srv_ingest.specs.declared.report.IngestEnd.TheVariants as inbox_ends
use Rattle.srv_ingest.specs.declared.report.IngestReport.{IngestReport}
use Rattle.srv_words.specs.declared.job.Serving.{Serving}
use Rattle.dev_traits.specs.declared.world.Devices.{Devices}
use Rattle.srv_workers.specs.declared.outcome.Outcome.{Outcome}
use Rattle.srv_workers.specs.Runs.{IsDoorRun, IsInboxRun, Run}
use Rattle.srv_alone.specs.declared.end.End.{End}
use Rattle.srv_alone.specs.declared.end.End.TheVariants.{Done, SinkFault}
use Rattle.srv_serve.specs.Closing.{clock_end, door_end, end_at_door, end_at_inbox, EndsWith, first_end, first_from, inbox_end, serve_line}
use Rattle.srv_serve.specs.Devices.{asked_by, StopsAt, Wanted}
use Rattle.srv_alone.specs.Reading.{IsEndAtFile}
use Rattle.srv_serve.specs.Serve.{EndsUnopened, GoesOn, HasRun, RunsServe, ServesDevices}
use Rattle.srv_serve.specs.Shows.{Shows}
use Rattle.srv_serve.specs.Stage.{Stage}
use Rattle.srv_laws.specs.WellServed.{EndsWell, HasNoMomentLeft, IsUsedUp, ShowsClocks}
use Rattle.srv_laws.proofs.ClockLemmas.{clocks-used}
use Rattle.srv_serve.proofs.RunLemmas.{by_device, IsOfWorkers}

-- neither of two ends is there
pub neither : (one other : Option End) → option_or one other ≡ None → (one ≡ None) × (other ≡ None)
neither None other is = (refl, is)
neither (Some end) other is = absurd cc

-- where a run ends at none of some devices, what follows from that holds of each
pub all-none : {R : Type 0} (end_of : ℕ → R → Option End) (P : R → Type 0) → ((n : ℕ) (r : R) → end_of n r ≡ None → P r)
    → (k : ℕ) (reports : List R) → first_from end_of k reports ≡ None → All P reports
unfolding first_from
all-none end_of P so k [] is = All-nil P
all-none end_of P so k (report ∷ more) is =
    let none = neither (end_of k report) (first_from end_of (k + 1) more) is in
    All-cons P report more (so k report none.0) (all-none end_of P so (k + 1) more none.1)

pub closed : (n : ℕ) (end : DoorEnd) (short : ℕ) → end_at_door n end short ≡ None → end ≡ door_ends.Closed
closed n door_ends.DoorFault short is = absurd cc
closed n door_ends.Closed short is = refl

pub done : (n : ℕ) (end : IngestEnd) (short : ℕ) → end_at_inbox n end short ≡ None → end ≡ inbox_ends.Done
done n inbox_ends.InboxFault short is = absurd cc
done n inbox_ends.NoMemory short is = absurd cc
done n inbox_ends.Done short is = refl

-- each device is as its report says
all-left : {T X R : Type 0} (left : T → X) (report : T → R) (Is : T → Type 0) (Q : R → Type 0) (Z : X → Type 0)
    (runs : List T) → All Is runs → ((run : T) → Is run → Q (report run) → Z (left run))
    → All Q (map report runs) → All Z (map left runs)
all-left left report Is Q Z [] all so told = All-nil Z
all-left {T} {X} {R} left report Is Q Z (run ∷ runs) all so told =
    let rest : List R = map report runs in
    All-cons Z (left run) (map left runs)
    (so run (All-head Is run runs all) (All-head Q (report run) rest told))
    (all-left left report Is Q Z runs (All-tail Is run runs all) so (All-tail Q (report run) rest told))

-- what was left is as what is told says
pub all-where : {T X R : Type 0} (left : T → X) (report : T → R) (Is : T → Type 0) (Q : R → Type 0) (Z : X → Type 0)
    (runs : List T) (after : List X) (reports : List R) → map left runs ≡ after → map report runs ≡ reports
    → All Is runs → ((run : T) → Is run → Q (report run) → Z (left run)) → All Q reports → All Z after
all-where {T} {X} {R} left report Is Q Z runs after reports left_is told all so has =
    subst (λ (xs : List X). All Z xs) left_is
    (all-left left report Is Q Z runs all so (subst (λ (rs : List R). All Q rs) (sym told) has))

pub door-used : {L : Type 0} (came left : DoorShown L) (end : DoorEnd) → EndsDoor came left end → end ≡ door_ends.Closed
    → IfSome left.held (λ doorway. doorway.left ≡ [])
door-used came left door_ends.Closed ends is = ends.1
door-used came left door_ends.DoorFault ends is = absurd cc

pub inbox-used : (came left : InboxShown) (end : IngestEnd) → EndsIngest came left end → end ≡ inbox_ends.Done
    → IfSome left.held (λ post. post.left ≡ [])
unfolding EndsIngest
inbox-used came left inbox_ends.Done ends is = ends.1
inbox-used came left inbox_ends.InboxFault ends is = absurd cc
inbox-used came left inbox_ends.NoMemory ends is = absurd cc

-- where a run ends at no worker, all its devices are used up
run-used : {D I C L : Type 0} (show : Shows D I C L) (serving : Serving) (proto : Proto) (stage stage' : Stage D I C)
    (outcome : Outcome) → HasRun show serving proto stage.opener stage'.opener stage'.devices outcome
    → first_end outcome ≡ None → IsUsedUp show stage'
run-used {D} {I} show serving proto stage stage' outcome run first =
    let ran = run.ran in
    let doors = neither (first_from door_end 0 outcome.doors)
    (option_or (first_from inbox_end 0 outcome.inboxes) (first_from clock_end 0 outcome.clocks)) first in
    let inboxes = neither (first_from inbox_end 0 outcome.inboxes) (first_from clock_end 0 outcome.clocks) doors.1 in
    record {
      doors = all-where (λ (r : Run D DoorReport). r.left) (λ (r : Run D DoorReport). r.report)
          (IsDoorRun show.door show.link proto ran.log) (λ (r : DoorReport). r.end ≡ door_ends.Closed)
          (λ door. IfSome (show.door door).held (λ doorway. doorway.left ≡ [])) ran.doors.runs stage'.devices.doors
          outcome.doors ran.doors.left ran.doors.told ran.doors.each
          (λ it is end. door-used (show.door it.came) (show.door it.left) it.report.end is.ends end)
          (all-none door_end (λ (r : DoorReport). r.end ≡ door_ends.Closed) (λ n r none. closed n r.end r.short none) 0
          outcome.doors doors.0);
      inboxes = all-where (λ (r : Run I IngestReport). r.left) (λ (r : Run I IngestReport). r.report)
          (IsInboxRun show.inbox proto ran.log) (λ (r : IngestReport). r.end ≡ inbox_ends.Done)
          (λ inbox. IfSome (show.inbox inbox).held (λ post. post.left ≡ [])) ran.inboxes.runs stage'.devices.inboxes
          outcome.inboxes ran.inboxes.left ran.inboxes.told ran.inboxes.each
          (λ it is end. inbox-used (show.inbox it.came) (show.inbox it.left) it.report.end is.ends end)
          (all-none inbox_end (λ (r : IngestReport). r.end ≡ inbox_ends.Done) (λ n r none. done n r.end r.short none) 0
          outcome.inboxes inboxes.0);
    }

-- a run whose workers ran ends well only at no worker
pub no-end : (text : List ℕ) (found : Option End) (end : End) (sink sink' : SinkShown)
    → ((e : End) → found ≡ Some e → IsOfWorkers e) → EndsWith text found end sink sink' → EndsWell end → found ≡ None
no-end text None end sink sink' by ends well = refl
no-end text (Some found) end sink sink' by ends well =
    absurd (not-both found (subst EndsWell ends.0 well) (by found refl))
  where
    not-both : (e : End) → EndsWell e → IsOfWorkers e → ⊥
    not-both Done well by = by
    not-both SinkFault well by = by
    not-both e well by = well

-- a run that stops before its workers run doesn't end well
pub no-stop : {D I C : Type 0} (wanted : Wanted) (devices : Devices D I C) (faults faults' : ℕ) (end : End)
    → StopsAt wanted devices faults faults' end → EndsWell end → ⊥
no-stop wanted devices faults faults' Done stops well = stops
no-stop wanted devices faults faults' SinkFault stops well = stops
no-stop wanted devices faults faults' end stops well = well

-- nor does one that ends at the file of its prototype
pub no-file : (end : End) → IsEndAtFile end → EndsWell end → ⊥
no-file Done at well = at
no-file SinkFault at well = at
no-file end at well = well

-- workers ran over all devices, and all ended well
record HasEndedWell {D I C L : Type 0} (show : Shows D I C L) (serving : Serving) (stage stage' : Stage D I C)
    : Type 0 where
  proto : Proto
  outcome : Outcome
  run : HasRun show serving proto stage.opener stage'.opener stage'.devices outcome
  first : first_end outcome ≡ None

serves-well : {D I C L : Type 0} (show : Shows D I C L) (serving : Serving) (proto : Proto) (end : End)
    (stage stage' : Stage D I C) → ServesDevices show serving proto stage stage' end → EndsWell end
    → HasEndedWell show serving stage stage'
serves-well show serving proto end stage stage' (inl stopped) well =
    absurd (no-stop (asked_by serving) stage'.devices stage.opener.faults stage'.opener.faults end
    stopped.stopped.stops well)
serves-well show serving proto end stage stage' (inr ran) well = record {
  proto = proto;
  outcome = ran.outcome;
  run = ran.run;
  first = no-end (serve_line ran.outcome) (first_end ran.outcome) end stage.outside.sink stage'.outside.sink
      (by_device ran.outcome) ran.ends well;
}

runs-well : {D I C L : Type 0} (show : Shows D I C L) (serving : Serving) (end : End) (stage stage' : Stage D I C)
    → EndsUnopened serving stage stage' end ⊎ GoesOn show serving stage stage' end → EndsWell end
    → HasEndedWell show serving stage stage'
runs-well show serving end stage stage' (inl ends) well = absurd (no-file end ends.ends.at_file well)
runs-well show serving end stage stage' (inr on) well =
    serves-well show serving on.proto end stage stage' on.serves well

pub used-up : {D I C L : Type 0} (show : Shows D I C L) (serving : Serving) (end : End) (stage stage' : Stage D I C)
    → RunsServe show serving end stage stage' → EndsWell end → IsUsedUp show stage'
used-up show serving end stage stage' runs well =
    let ended = runs-well show serving end stage stage' runs.runs well in
    run-used show serving ended.proto stage stage' ended.outcome ended.run ended.first

pub no-moment : {D I C L : Type 0} (show : Shows D I C L) (serving : Serving) (end : End) (stage stage' : Stage D I C)
    → RunsServe show serving end stage stage' → EndsWell end → ShowsClocks show stage.opener
    → HasNoMomentLeft show stage'
no-moment show serving end stage stage' runs well shown =
    let ended = runs-well show serving end stage stage' runs.runs well in
    clocks-used show serving ended.proto stage.opener stage'.opener stage'.devices ended.outcome ended.run shown
