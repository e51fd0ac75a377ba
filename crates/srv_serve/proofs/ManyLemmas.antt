-- Runs of `many`: how many reports there are, and which device is blamed.
use Rattle.std.proofs.Common.{◌≡◌, ◌⊎◌, ◌∙◌, inl, inr, ◌<◌, ◌≤◌, ◌^◌, ℕ, zero, suc, List, [], ◌∷◌, All, get_or, length, map, slice_get, take, Option, Some, None, IsSomeAnd, refl, sym, ap, subst, arith}
use Rattle.std.proofs.lemmas.List.{length-map, take_all}
use Rattle.std.proofs.lemmas.List.Elements.{All-cons, All-nil, All-weaker}
use Rattle.dev_traits.specs.Opener.{OpenerShown}
use Rattle.dev_traits.specs.Shown.{FilesShown}
use Rattle.dev_traits.specs.declared.world.Devices.{Devices}
use Rattle.fm_model.specs.declared.op.Op.{Op}
use Rattle.fm_model.specs.declared.proto.Proto.{Proto}
use Rattle.pub_snap.specs.declared.desk.Closed.{Closed}
use Rattle.srv_alone.specs.declared.end.End.{End}
use Rattle.srv_alone.specs.declared.end.End.TheVariants.{DoorFault, InboxFault}
use Rattle.srv_alone.specs.Report.{Reports}
use Rattle.srv_door.specs.declared.door_report.DoorEnd.TheVariants as door_ends
use Rattle.srv_door.specs.declared.door_report.DoorReport.{DoorReport}
use Rattle.srv_ingest.specs.declared.report.IngestEnd.TheVariants as inbox_ends
use Rattle.srv_ingest.specs.declared.report.IngestReport.{IngestReport}
use Rattle.srv_words.specs.declared.job.ServingMany.{ServingMany}
use Rattle.srv_words.specs.declared.job.Spec.{Spec}
use Rattle.srv_workers.specs.declared.outcome.Outcomes.{Outcomes}
use Rattle.srv_workers.specs.Desks.{closed_of, first_of}
use Rattle.srv_workers.specs.Over.{AreDeskRuns, DeskRun}
use Rattle.srv_workers.specs.Runs.{IsInboxRun, Run}
use Rattle.srv_workers.specs.Several.{AreRunsInOrder, collections_over, EachInOrder, IsDoorRunOver}
use Rattle.srv_closing.specs.Closing.{first_end_of}
use Rattle.srv_open.specs.Devices.{clocks_for, HasFailedAt}
use Rattle.srv_serve.specs.Many.{EndsAt, EndsAtSpec, HasRun, OpensEach}
use Rattle.srv_open.specs.Shows.{Shows}
use Rattle.srv_closing.specs.Stage.{Stage}
use Rattle.srv_serve.proofs.EndLemmas.{door-end, inbox-end, left-where, told-count}
use Rattle.srv_serve.proofs.RunLemmas.{door-has-failed, inbox-has-failed}

-- there is one clock at most for each collection
pub few-clocks : (collections : ℕ) (keep : Option ℕ) → clocks_for collections keep ≤ collections
few-clocks collections None = omega arith
few-clocks collections (Some seconds) = omega arith

-- there is no clock, or one for each prototype
pub none-or-each : (collections protos count : ℕ) (keep : Option ℕ) → count ≡ clocks_for collections keep
    → protos ≡ collections → (count ≡ 0) ⊎ (count ≡ protos)
none-or-each collections protos count None is same = inl is
none-or-each collections protos count (Some seconds) is same = inr (is ∙ sym same)

-- this is so of a run by some number
abbrev pub BySome : {R : Type 0} → (ℕ → R → Type 0) → R → Type 0
BySome Is run = (number : ℕ) × Is number run

-- what is so of each by its number is so by some
pub by-some : {R : Type 0} (Is : ℕ → R → Type 0) (runs : List R) → EachInOrder Is runs → All (BySome Is) runs
by-some Is [] each = All-nil (BySome Is)
by-some {R} Is (run ∷ runs) each =
    let Next : ℕ → R → Type 0 = λ number. Is (suc number) in
    All-cons (BySome Is) run runs (0, each.0)
    (All-weaker (BySome Next) (BySome Is) (λ run is. (suc is.0, is.1)) runs (by-some Next runs each.1))

-- there are as few reports of doors as doors
pub few-told : {X K R : Type 0} {Is : DeskRun X K R → Type 0} {before after : List X} {reports : List R}
    → AreDeskRuns Is before after reports → length before < 2 ^ 32 → length reports < 2 ^ 32
few-told {X} {K} {R} are few =
    let count = told-count (λ (run : DeskRun X K R). run.came) (λ (run : DeskRun X K R). run.report) are.runs are.came
    are.told in
    omega (arith, few, count)

-- there are as many reports of inboxes or clocks as these
pub each-told : {X R : Type 0} {Is : ℕ → Run X R → Type 0} {before after : List X} {reports : List R}
    → AreRunsInOrder Is before after reports → length reports ≡ length before
each-told {X} {R} are =
    told-count (λ (run : Run X R). run.came) (λ (run : Run X R). run.report) are.runs are.came are.told

first_of-length : {A : Type 0} (count : ℕ) (made : ℕ → A) → length (first_of count made) ≡ count
first_of-length zero made = refl
first_of-length (suc count) made = ap suc (first_of-length count (λ number. made (suc number)))

-- each collection has the end of a desk
pub closed-count : (protos : List Proto) (log : ℕ → List Op) (desks : List Closed)
    → desks ≡ map closed_of (first_of (length protos) log) → length desks ≡ length protos
closed-count protos log desks closed =
    ap length closed ∙ length-map (first_of (length protos) log) closed_of ∙ first_of-length (length protos) log

-- all prototypes were read
pub OpensEach-all : (specs : List Spec) (files : FilesShown) (protos : List Proto) → length protos ≡ length specs
    → OpensEach (take (length protos) specs) files protos → OpensEach specs files protos
OpensEach-all specs files protos all reads =
    subst (λ (l : List Spec). OpensEach l files protos) (take_all (length protos) specs (omega (arith, all))) reads

-- the run ended at a collection, and said so
pub ends-at-spec : {D I C : Type 0} (specs : List Spec) (n : ℕ) (spec : Spec) (stage stage' : Stage D I C) (end : End)
    → IsSomeAnd (slice_get specs n) (λ found. EndsAt found stage.outside.files stage'.outside.files end)
    → Reports end (get_or specs n spec).proto stage.outside.sink stage'.outside.sink
    → IsSomeAnd (slice_get specs n) (λ found. EndsAtSpec found stage stage' end)
ends-at-spec [] n spec stage stage' end ends said = absurd ends
ends-at-spec (first ∷ specs) zero spec stage stage' end ends said = record { ends = ends; reports = said }
ends-at-spec (first ∷ specs) (suc n) spec stage stage' end ends said =
    ends-at-spec specs n spec stage stage' end ends said

-- a run that ends at a door ends at one that has failed
pub door-failed : {D I C L : Type 0} (show : Shows D I C L) (serving : ServingMany) (protos : List Proto)
    (opener opener' : OpenerShown D I C) (left : Devices D I C) (outcomes : Outcomes)
    → HasRun show serving protos opener opener' left outcomes → (number : ℕ)
    → first_end_of outcomes.doors outcomes.inboxes outcomes.clocks ≡ Some (DoorFault number)
    → HasFailedAt (λ door. (show.door door).faults) left.doors number
door-failed {D} show serving protos opener opener' left outcomes run number first =
    let are = run.ran.doors in
    left-where (λ (r : DeskRun D _ DoorReport). r.left) (λ (r : DeskRun D _ DoorReport). r.report)
    (IsDoorRunOver show.door show.link (collections_over protos) run.ran.log)
    (λ (r : DoorReport). r.end ≡ door_ends.DoorFault) (λ door. 0 < (show.door door).faults) are.runs left.doors
    outcomes.doors number are.left are.told are.each
    (λ it is fault. door-has-failed (show.door it.came) (show.door it.left) it.report.end is.serves.ends fault)
    (door-end outcomes.doors outcomes.inboxes outcomes.clocks number first)

-- a run that ends at an inbox ends at one that has failed
pub inbox-failed : {D I C L : Type 0} (show : Shows D I C L) (serving : ServingMany) (protos : List Proto)
    (opener opener' : OpenerShown D I C) (left : Devices D I C) (outcomes : Outcomes)
    → HasRun show serving protos opener opener' left outcomes → (number : ℕ)
    → first_end_of outcomes.doors outcomes.inboxes outcomes.clocks ≡ Some (InboxFault number)
    → HasFailedAt (λ inbox. (show.inbox inbox).faults) left.inboxes number
inbox-failed {D} {I} show serving protos opener opener' left outcomes run number first =
    let are = run.ran.inboxes in
    let Each : ℕ → Run I IngestReport → Type 0 =
    λ n. IsInboxRun show.inbox ((collections_over protos).proto n) (run.ran.log n) in
    left-where (λ (r : Run I IngestReport). r.left) (λ (r : Run I IngestReport). r.report) (BySome Each)
    (λ (r : IngestReport). r.end ≡ inbox_ends.InboxFault) (λ inbox. 0 < (show.inbox inbox).faults) are.runs left.inboxes
    outcomes.inboxes number are.left are.told (by-some Each are.runs are.each)
    (λ it is fault. inbox-has-failed (show.inbox it.came) (show.inbox it.left) it.report.end is.1.ends fault)
    (inbox-end outcomes.doors outcomes.inboxes outcomes.clocks number first)
