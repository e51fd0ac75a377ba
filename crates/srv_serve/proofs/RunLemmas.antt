-- Which device a run of workers blames.
use Rattle.std.proofs.Common.{◌≡◌, ℕ, ◌+◌, ◌^◌, ◌<◌, ◌≤◌, Bool, true, false, if◌then◌else◌, nat_lt, List, [], ◌∷◌, length, Option, Some, None, sym, subst, arith}
use Rattle.std.specs.Option.{option_or}
use Rattle.std.specs.Prelude.{⊤}
use Rattle.fm_model.specs.declared.proto.Proto.{Proto}
use Rattle.dev_traits.specs.Cause.{one_more}
use Rattle.dev_traits.specs.Door.{DoorShown}
use Rattle.dev_traits.specs.Inbox.{InboxShown}
use Rattle.dev_traits.specs.Opener.{OpenerShown}
use Rattle.srv_door.specs.DoorTurns.{EndsDoor}
use Rattle.srv_door.specs.declared.door_report.DoorEnd.{DoorEnd}
use Rattle.srv_door.specs.declared.door_report.DoorEnd.TheVariants as door_ends
use Rattle.srv_door.specs.declared.door_report.DoorReport.{DoorReport}
use Rattle.srv_ingest.specs.Ingests.{EndsIngest}
use Rattle.srv_ingest.specs.declared.report.ExpireReport.{ExpireReport}
use Rattle.srv_ingest.specs.declared.report.IngestEnd.{IngestEnd}
use Rattle.srv_ingest.specs.declared.report.IngestEnd.TheVariants as inbox_ends
use Rattle.srv_ingest.specs.declared.report.IngestReport.{IngestReport}
use Rattle.srv_words.specs.declared.job.Serving.{Serving}
use Rattle.dev_traits.specs.declared.world.Devices.{Devices}
use Rattle.srv_workers.specs.declared.outcome.Outcome.{Outcome}
use Rattle.srv_workers.specs.Runs.{AreRuns, IsDoorRun, IsInboxRun, Run}
use Rattle.srv_alone.specs.declared.end.End.{End}
use Rattle.srv_alone.specs.declared.end.End.TheVariants.{BadWords, NoMemory, FileFault, SinkFault, LinkFault, DoorFault, InboxFault}
use Rattle.srv_closing.specs.Closing.{clock_end, door_end, end_at_door, end_at_inbox, first_end, first_end_of, first_from, inbox_end}
use Rattle.srv_open.specs.Devices.{AreAllOpened, asked_by, clocks_for, HasFailedAt}
use Rattle.srv_serve.specs.Serve.{HasRun}
use Rattle.srv_open.specs.Shows.{Shows}
use Rattle.srv_serve.proofs.EndLemmas.{door-end, inbox-end, left-where, told-count}

-- there are as few reports as devices
pub few-reports : {X R : Type 0} {Is : Run X R → Type 0} {before after : List X} {reports : List R}
    → AreRuns Is before after reports → length before < 2 ^ 32 → length reports < 2 ^ 32
few-reports {X} {R} are few =
    let count = told-count (λ (run : Run X R). run.came) (λ (run : Run X R). run.report) are.runs are.came are.told in
    omega (arith, few, count)

-- there is one clock at most of one collection
pub one-clock : (keep : Option ℕ) → clocks_for 1 keep ≤ 1
one-clock None = omega arith
one-clock (Some seconds) = omega arith

-- a run has one clock at most
pub few-clocks : {D I C : Type 0} (serving : Serving) {devices : Devices D I C} {faults faults' : ℕ}
    → AreAllOpened (asked_by serving) devices faults faults' → length devices.clocks < 2 ^ 32
few-clocks serving all = omega (arith, all.clocks, one-clock serving.keep)

-- after one failure more a count isn't 0
one_more-positive : (count : ℕ) → 0 < one_more count
one_more-positive count = omega arith

-- a door at which serving ended by a fault has failed
pub door-has-failed : {L : Type 0} (came left : DoorShown L) (end : DoorEnd) → EndsDoor came left end
    → end ≡ door_ends.DoorFault → 0 < left.faults
door-has-failed came left door_ends.DoorFault ends is = omega (arith, ends, one_more-positive came.faults)
door-has-failed came left door_ends.Closed ends is = absurd cc

pub inbox-has-failed : (came left : InboxShown) (end : IngestEnd) → EndsIngest came left end
    → end ≡ inbox_ends.InboxFault → 0 < left.faults
unfolding EndsIngest
inbox-has-failed came left inbox_ends.InboxFault ends is =
    subst (λ (n : ℕ). 0 < n) (sym ends) (one_more-positive came.faults)
inbox-has-failed came left inbox_ends.NoMemory ends is = absurd cc
inbox-has-failed came left inbox_ends.Done ends is = absurd cc

-- a run that ends at a door ends at one that has failed
pub door-failed : {D I C L : Type 0} (show : Shows D I C L) (serving : Serving) (proto : Proto)
    (opener opener' : OpenerShown D I C) (left : Devices D I C) (outcome : Outcome)
    → HasRun show serving proto opener opener' left outcome → (number : ℕ)
    → first_end outcome ≡ Some (DoorFault number) → HasFailedAt (λ door. (show.door door).faults) left.doors number
door-failed {D} show serving proto opener opener' left outcome run number first =
    let are = run.ran.doors in
    left-where (λ (r : Run D DoorReport). r.left) (λ (r : Run D DoorReport). r.report)
    (IsDoorRun show.door show.link proto run.ran.log) (λ (r : DoorReport). r.end ≡ door_ends.DoorFault)
    (λ door. 0 < (show.door door).faults) are.runs left.doors outcome.doors number are.left are.told are.each
    (λ it is fault. door-has-failed (show.door it.came) (show.door it.left) it.report.end is.ends fault)
    (door-end outcome.doors outcome.inboxes outcome.clocks number first)

-- a run that ends at an inbox ends at one that has failed
pub inbox-failed : {D I C L : Type 0} (show : Shows D I C L) (serving : Serving) (proto : Proto)
    (opener opener' : OpenerShown D I C) (left : Devices D I C) (outcome : Outcome)
    → HasRun show serving proto opener opener' left outcome → (number : ℕ)
    → first_end outcome ≡ Some (InboxFault number)
    → HasFailedAt (λ inbox. (show.inbox inbox).faults) left.inboxes number
inbox-failed {D} {I} show serving proto opener opener' left outcome run number first =
    let are = run.ran.inboxes in
    left-where (λ (r : Run I IngestReport). r.left) (λ (r : Run I IngestReport). r.report)
    (IsInboxRun show.inbox proto run.ran.log) (λ (r : IngestReport). r.end ≡ inbox_ends.InboxFault)
    (λ inbox. 0 < (show.inbox inbox).faults) are.runs left.inboxes outcome.inboxes number are.left are.told are.each
    (λ it is fault. inbox-has-failed (show.inbox it.came) (show.inbox it.left) it.report.end is.ends fault)
    (inbox-end outcome.doors outcome.inboxes outcome.clocks number first)

-- a run of workers ends in one of these ways
abbrev pub IsOfWorkers : End → Type 0
IsOfWorkers NoMemory = ⊤
IsOfWorkers (DoorFault number) = ⊤
IsOfWorkers (InboxFault number) = ⊤
IsOfWorkers end = ⊥

abbrev AreOfWorkers : Option End → Type 0
AreOfWorkers None = ⊤
AreOfWorkers (Some end) = IsOfWorkers end

either-of : (one other : Option End) → AreOfWorkers one → AreOfWorkers other → AreOfWorkers (option_or one other)
either-of None other first second = second
either-of (Some end) other first second = first

first-of : {R : Type 0} (end_of : ℕ → R → Option End) → ((n : ℕ) (r : R) → AreOfWorkers (end_of n r))
    → (k : ℕ) (reports : List R) → AreOfWorkers (first_from end_of k reports)
unfolding first_from
first-of end_of each k [] = tt
first-of end_of each k (report ∷ more) =
    either-of (end_of k report) (first_from end_of (k + 1) more) (each k report) (first-of end_of each (k + 1) more)

short-of : (b : Bool) → AreOfWorkers (if b then Some NoMemory else None)
short-of true = tt
short-of false = tt

door-of : (number : ℕ) (end : DoorEnd) (short : ℕ) → AreOfWorkers (end_at_door number end short)
door-of number door_ends.DoorFault short = tt
door-of number door_ends.Closed short = short-of (nat_lt 0 short)

inbox-of : (number : ℕ) (end : IngestEnd) (short : ℕ) → AreOfWorkers (end_at_inbox number end short)
inbox-of number inbox_ends.InboxFault short = tt
inbox-of number inbox_ends.NoMemory short = tt
inbox-of number inbox_ends.Done short = short-of (nat_lt 0 short)

-- a run of workers ends in none of these ways
pub record ByWorkers (end : End) : Type 0 where
  pub words : end ≡ BadWords → ⊥
  pub files : end ≡ FileFault → ⊥
  pub sink : end ≡ SinkFault → ⊥
  pub link : end ≡ LinkFault → ⊥

by_workers : (end : End) → IsOfWorkers end → ByWorkers end
by_workers NoMemory is = record { words = λ e. cc; files = λ e. cc; sink = λ e. cc; link = λ e. cc }
by_workers (DoorFault number) is = record { words = λ e. cc; files = λ e. cc; sink = λ e. cc; link = λ e. cc }
by_workers (InboxFault number) is = record { words = λ e. cc; files = λ e. cc; sink = λ e. cc; link = λ e. cc }
by_workers end is = absurd is

-- a run ends at its devices in one of these ways
pub by_devices : (doors : List DoorReport) (inboxes : List IngestReport) (clocks : List ExpireReport) (end : End)
    → first_end_of doors inboxes clocks ≡ Some end → IsOfWorkers end
by_devices doors inboxes clocks end first =
    subst (λ (o : Option End). AreOfWorkers o) first (either-of (first_from door_end 0 doors)
    (option_or (first_from inbox_end 0 inboxes) (first_from clock_end 0 clocks))
    (first-of door_end (λ n r. door-of n r.end r.short) 0 doors)
    (either-of (first_from inbox_end 0 inboxes) (first_from clock_end 0 clocks)
    (first-of inbox_end (λ n r. inbox-of n r.end r.short) 0 inboxes)
    (first-of clock_end (λ n r. short-of (nat_lt 0 r.short)) 0 clocks)))

pub by_device : (outcome : Outcome) (end : End) → first_end outcome ≡ Some end → IsOfWorkers end
by_device outcome end first = by_devices outcome.doors outcome.inboxes outcome.clocks end first

pub ends-at-device : (doors : List DoorReport) (inboxes : List IngestReport) (clocks : List ExpireReport) (end : End)
    → first_end_of doors inboxes clocks ≡ Some end → ByWorkers end
ends-at-device doors inboxes clocks end first = by_workers end (by_devices doors inboxes clocks end first)

pub end-is-device : (outcome : Outcome) (end : End) → first_end outcome ≡ Some end → ByWorkers end
end-is-device outcome end first = by_workers end (by_device outcome end first)
