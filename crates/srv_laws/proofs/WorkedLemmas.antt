-- Which runs touch devices, and whether workers ran over them.
use Rattle.std.proofs.Common.{◌≡◌, ◌⊎◌, ◌<◌, inl, inr, ℕ, [], length, None, Some, refl, ap, ◌∙◌, arith}
use Rattle.srv_words.specs.declared.job.Job.{Job}
use Rattle.srv_words.specs.declared.job.Job.TheVariants.{Once, Twod, Extract, Pull, Check, Load, Serve}
use Rattle.srv_words.specs.declared.job.Serving.{Serving}
use Rattle.dev_traits.specs.declared.world.Devices.{Devices}
use Rattle.srv_alone.specs.declared.end.End.{End}
use Rattle.srv_alone.specs.declared.end.End.TheVariants.{Refused, NoMemory, FileFault, DoorFault, InboxFault, NoFile, TooLong}
use Rattle.srv_serve.specs.Devices.{asked_by, StopsAt, Wanted}
use Rattle.srv_alone.specs.Reading.{IsEndAtFile}
use Rattle.srv_alone.specs.Report.{status_of}
use Rattle.srv_run.specs.Run.{DoesJob, IsAlone, Runs}
use Rattle.srv_serve.specs.Serve.{EndsUnopened, GoesOn, HasServed}
use Rattle.srv_serve.specs.Shows.{Shows}
use Rattle.srv_serve.specs.Stage.{LeavesDevices, Stage}
use Rattle.srv_laws.specs.Worked.{HasNotOpened, HasNotWorked, HasWorked}

-- words that are no job
pub leaves-none : {D I C L : Type 0} (show : Shows D I C L) (status : ℕ) (stage stage' : Stage D I C)
    → Runs show None status stage stage' → LeavesDevices stage stage'
leaves-none show status stage stage' runs = elim runs.does [
  | inl does ↦ does.1.leaves
  | inr short ↦ short.1.leaves
]

leaves-job : {D I C L : Type 0} (show : Shows D I C L) (job : Job) (end : End) (stage stage' : Stage D I C)
    → DoesJob show (Some job) end stage stage' → IsAlone job → LeavesDevices stage stage'
leaves-job show (Once stepping) end stage stage' does alone = does.1.0
leaves-job show (Twod stepping with_values constraint) end stage stage' does alone = does.1.0
leaves-job show (Extract stepping view constraint version) end stage stage' does alone = does.1.0
leaves-job show (Pull address target) end stage stage' does alone = does.1
leaves-job show (Check path) end stage stage' does alone = does.1.0
leaves-job show (Load seed files) end stage stage' does alone = does.1.0
leaves-job show (Serve serving) end stage stage' does alone = absurd alone
leaves-job show job end stage stage' does alone = absurd alone

-- a job other than `serve` and `many`
pub leaves-alone : {D I C L : Type 0} (show : Shows D I C L) (job : Job) (status : ℕ) (stage stage' : Stage D I C)
    → Runs show (Some job) status stage stage' → IsAlone job → LeavesDevices stage stage'
leaves-alone show job status stage stage' runs alone = elim runs.does [
  | inl does ↦ leaves-job show job runs.end stage stage' does alone
  | inr short ↦ short.1.leaves
]

-- the status of a run that ends at the file of its prototype
pub file-status : (end : End) (status : ℕ) → IsEndAtFile end → status ≡ status_of end
    → (status ≡ 3) ⊎ (status ≡ 4) ⊎ (status ≡ 5) ⊎ (status ≡ 10)
file-status (Refused code) status at is = inl is
file-status NoMemory status at is = inr (inl is)
file-status FileFault status at is = inr (inr (inl is))
file-status NoFile status at is = inr (inr (inr is))
file-status (TooLong len) status at is = inr (inr (inr is))
file-status end status at is = absurd at

-- the status of a run that opens not all devices, or has no memory for its workers
pub stop-status : {D I C : Type 0} (wanted : Wanted) (devices : Devices D I C) (faults faults' : ℕ) (end : End)
    (status : ℕ) → StopsAt wanted devices faults faults' end → status ≡ status_of end
    → (status ≡ 4) ⊎ (status ≡ 6) ⊎ (status ≡ 8)
stop-status wanted devices faults faults' NoMemory status stops is = inl is
stop-status wanted devices faults faults' (DoorFault number) status stops is = inr (inl is)
stop-status wanted devices faults faults' (InboxFault number) status stops is = inr (inr is)
stop-status wanted devices faults faults' end status stops is = absurd stops

-- workers ran over the prototype that was read
worked-over : {D I C L : Type 0} (show : Shows D I C L) (serving : Serving) (end : End) (stage stage' : Stage D I C)
    (on : GoesOn show serving stage stage' end) → HasServed show serving on.proto stage stage' end
    → HasWorked show serving stage stage'
worked-over show serving end stage stage' on served = record {
  proto = on.proto;
  reads = on.reads;
  files = on.files;
  outcome = served.outcome;
  run = served.run;
}

-- what became of the devices of a run of `serve`
abbrev Became : {D I C L : Type 0} → Shows D I C L → Serving → ℕ → Stage D I C → Stage D I C → Type 0
Became show serving status stage stage' =
    HasNotOpened status stage stage' ⊎ HasNotWorked show serving status stage stage'
    ⊎ HasWorked show serving stage stage'

goes-on-became : {D I C L : Type 0} (show : Shows D I C L) (serving : Serving) (end : End) (status : ℕ)
    (stage stage' : Stage D I C) → status ≡ status_of end → GoesOn show serving stage stage' end
    → Became show serving status stage stage'
goes-on-became show serving end status stage stage' is on = elim on.serves [
  | inl unserved ↦
      let stopped = unserved.stopped in
      inr (inl (record {
        opened = stopped.opened;
        opens = stopped.opens;
        told = stopped.told;
        files = on.files;
        status_is = stop-status (asked_by serving) stage'.devices stage.opener.faults stage'.opener.faults end status
            stopped.stops is;
      }))
  | inr served ↦ inr (inr (worked-over show serving end stage stage' on served))
]

runs-became : {D I C L : Type 0} (show : Shows D I C L) (serving : Serving) (end : End) (status : ℕ)
    (stage stage' : Stage D I C) → status ≡ status_of end
    → EndsUnopened serving stage stage' end ⊎ GoesOn show serving stage stage' end
    → Became show serving status stage stage'
runs-became show serving end status stage stage' is (inl ends) =
    inl (record { leaves = ends.leaves; status_is = file-status end status ends.ends.at_file is })
runs-became show serving end status stage stage' is (inr on) =
    goes-on-became show serving end status stage stage' is on

pub became : {D I C L : Type 0} (show : Shows D I C L) (serving : Serving) (status : ℕ) (stage stage' : Stage D I C)
    → Runs show (Some (Serve serving)) status stage stage' → Became show serving status stage stage'
became show serving status stage stage' runs = elim runs.does [
  | inl does ↦ runs-became show serving runs.end status stage stage' runs.status_is does.runs
  | inr short ↦ inl (record { leaves = short.1.leaves; status_is = inr (inl (runs.status_is ∙ ap status_of short.0)) })
]

-- opening stops short of all doors or of all inboxes, or memory ran out
pub stops-short : {D I C : Type 0} (wanted : Wanted) (devices : Devices D I C) (faults faults' : ℕ) (end : End)
    → StopsAt wanted devices faults faults' end → length devices.doors ≡ wanted.workers
    → length devices.inboxes ≡ length wanted.inboxes → end ≡ NoMemory
stops-short wanted devices faults faults' NoMemory stops doors inboxes = refl
stops-short wanted devices faults faults' (DoorFault number) stops doors inboxes =
    absurd (omega (arith, stops.number_is, stops.few_doors, doors))
stops-short wanted devices faults faults' (InboxFault number) stops doors inboxes =
    absurd (omega (arith, stops.number_is, stops.few_inboxes, inboxes))
stops-short wanted devices faults faults' end stops doors inboxes = absurd stops

-- all doors and inboxes of a run are open after it, which had none before
pub record AllOpen {D I C : Type 0} (wanted : Wanted) (stage stage' : Stage D I C) : Type 0 where
  pub some : 0 < wanted.workers
  pub none : stage.devices.doors ≡ []
  pub doors : length stage'.devices.doors ≡ wanted.workers
  pub inboxes : length stage'.devices.inboxes ≡ length wanted.inboxes

pub opened-none : {D I C : Type 0} (wanted : Wanted) (stage stage' : Stage D I C) → AllOpen wanted stage stage'
    → LeavesDevices stage stage' → ⊥
opened-none {D} {I} {C} wanted stage stage' all leaves =
    let same : length stage'.devices.doors ≡ length stage.devices.doors =
    ap (λ (devices : Devices D I C). length devices.doors) leaves.devices_are in
    let none : length stage.devices.doors ≡ 0 = ap length all.none in
    omega (arith, all.some, all.doors, same, none)

goes-on-worked : {D I C L : Type 0} (show : Shows D I C L) (serving : Serving) (end : End)
    (stage stage' : Stage D I C) → AllOpen (asked_by serving) stage stage' → GoesOn show serving stage stage' end
    → (end ≡ NoMemory) ⊎ HasWorked show serving stage stage'
goes-on-worked show serving end stage stage' all on = elim on.serves [
  | inl unserved ↦ inl (stops-short (asked_by serving) stage'.devices stage.opener.faults stage'.opener.faults end
      unserved.stopped.stops all.doors all.inboxes)
  | inr served ↦ inr (worked-over show serving end stage stage' on served)
]

runs-worked : {D I C L : Type 0} (show : Shows D I C L) (serving : Serving) (end : End) (stage stage' : Stage D I C)
    → AllOpen (asked_by serving) stage stage'
    → EndsUnopened serving stage stage' end ⊎ GoesOn show serving stage stage' end
    → (end ≡ NoMemory) ⊎ HasWorked show serving stage stage'
runs-worked show serving end stage stage' all (inl ends) =
    absurd (opened-none (asked_by serving) stage stage' all ends.leaves)
runs-worked show serving end stage stage' all (inr on) =
    goes-on-worked show serving end stage stage' all on

pub status-worked : {A : Type 0} (end : End) (status : ℕ) → status ≡ status_of end → (end ≡ NoMemory) ⊎ A
    → (status ≡ 4) ⊎ A
status-worked end status is (inl short) = inl (is ∙ ap status_of short)
status-worked end status is (inr worked) = inr worked

pub worked : {D I C L : Type 0} (show : Shows D I C L) (serving : Serving) (status : ℕ) (stage stage' : Stage D I C)
    → Runs show (Some (Serve serving)) status stage stage' → 0 < serving.workers → stage.devices.doors ≡ []
    → length stage'.devices.doors ≡ serving.workers → length stage'.devices.inboxes ≡ length serving.inboxes
    → (status ≡ 4) ⊎ HasWorked show serving stage stage'
worked show serving status stage stage' runs some none doors inboxes = elim runs.does [
  | inl does ↦ status-worked runs.end status runs.status_is (runs-worked show serving runs.end stage stage'
      (record { some = some; none = none; doors = doors; inboxes = inboxes }) does.runs)
  | inr short ↦ inl (runs.status_is ∙ ap status_of short.0)
]
