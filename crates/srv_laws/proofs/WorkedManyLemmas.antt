-- Whether workers ran over the devices of a run of `many`.
use Rattle.std.proofs.Common.{◌≡◌, ◌⊎◌, ◌<◌, ◌∙◌, inl, inr, ℕ, [], length, slice_get, ap, sym, Option, Some, None, IsSomeAnd}
use Rattle.std.proofs.lemmas.List.{length-map}
use Rattle.srv_words.specs.declared.job.Job.TheVariants.{Many}
use Rattle.srv_words.specs.declared.job.ServingMany.{ServingMany}
use Rattle.srv_words.specs.declared.job.Spec.{Spec}
use Rattle.srv_alone.specs.declared.end.End.{End}
use Rattle.srv_alone.specs.declared.end.End.TheVariants.{NoMemory}
use Rattle.srv_alone.specs.Reading.{IsEndAtFile}
use Rattle.srv_alone.specs.Report.{status_of}
use Rattle.srv_run.specs.Run.{Runs}
use Rattle.srv_serve.specs.Many.{asked_by, EndsAtSpec, EndsUnopened, GoesOn, HasServed}
use Rattle.srv_serve.specs.Shows.{Shows}
use Rattle.srv_serve.specs.Stage.{Stage}
use Rattle.srv_laws.specs.Worked.{HasNotOpened}
use Rattle.srv_laws.specs.WorkedMany.{HasNotWorked, HasWorked}
use Rattle.srv_laws.proofs.WorkedLemmas.{AllOpen, file-status, opened-none, status-worked, stop-status, stops-short}

-- the end at the prototype of a collection is one at a file
pub at-spec-file : {D I C : Type 0} (end : End) (stage stage' : Stage D I C) (found : Option Spec)
    → IsSomeAnd found (λ spec. EndsAtSpec spec stage stage' end) → IsEndAtFile end
at-spec-file end stage stage' (Some spec) at = at.ends.at_file
at-spec-file end stage stage' None at = absurd at

-- workers ran over the prototypes that were read
worked-over : {D I C L : Type 0} (show : Shows D I C L) (serving : ServingMany) (end : End)
    (stage stage' : Stage D I C) (on : GoesOn show serving stage stage' end)
    → HasServed show serving on.protos stage stage' end → HasWorked show serving stage stage'
worked-over show serving end stage stage' on served = record {
  protos = on.protos;
  reads = on.reads;
  files = on.files;
  outcomes = served.outcomes;
  run = served.run;
}

-- what became of the devices of a run of `many`
abbrev Became : {D I C L : Type 0} → Shows D I C L → ServingMany → ℕ → Stage D I C → Stage D I C → Type 0
Became show serving status stage stage' =
    HasNotOpened status stage stage' ⊎ HasNotWorked show serving status stage stage'
    ⊎ HasWorked show serving stage stage'

goes-on-became : {D I C L : Type 0} (show : Shows D I C L) (serving : ServingMany) (end : End) (status : ℕ)
    (stage stage' : Stage D I C) → status ≡ status_of end → GoesOn show serving stage stage' end
    → Became show serving status stage stage'
goes-on-became show serving end status stage stage' is on = elim on.serves [
  | inl unserved ↦
      let stopped = unserved.stopped in
      inr (inl (record {
        opened = stopped.opened;
        opens = stopped.opens;
        told = stopped.told;
        files = on.files;
        status_is = stop-status (asked_by serving) stage'.devices stage.opener.faults stage'.opener.faults end status
            stopped.stops is;
      }))
  | inr served ↦ inr (inr (worked-over show serving end stage stage' on served))
]

runs-became : {D I C L : Type 0} (show : Shows D I C L) (serving : ServingMany) (end : End) (status : ℕ)
    (stage stage' : Stage D I C) → status ≡ status_of end
    → EndsUnopened serving stage stage' end ⊎ GoesOn show serving stage stage' end
    → Became show serving status stage stage'
runs-became show serving end status stage stage' is (inl ends) =
    let at = at-spec-file end stage stage' (slice_get serving.specs (length ends.protos)) ends.at in
    inl (record { leaves = ends.leaves; status_is = file-status end status at is })
runs-became show serving end status stage stage' is (inr on) =
    goes-on-became show serving end status stage stage' is on

pub became-many : {D I C L : Type 0} (show : Shows D I C L) (serving : ServingMany) (status : ℕ)
    (stage stage' : Stage D I C) → Runs show (Some (Many serving)) status stage stage'
    → Became show serving status stage stage'
became-many show serving status stage stage' runs = elim runs.does [
  | inl does ↦ runs-became show serving runs.end status stage stage' runs.status_is does.runs
  | inr short ↦ inl (record { leaves = short.1.leaves; status_is = inr (inl (runs.status_is ∙ ap status_of short.0)) })
]

goes-on-worked : {D I C L : Type 0} (show : Shows D I C L) (serving : ServingMany) (end : End)
    (stage stage' : Stage D I C) → AllOpen (asked_by serving) stage stage' → GoesOn show serving stage stage' end
    → (end ≡ NoMemory) ⊎ HasWorked show serving stage stage'
goes-on-worked show serving end stage stage' all on = elim on.serves [
  | inl unserved ↦ inl (stops-short (asked_by serving) stage'.devices stage.opener.faults stage'.opener.faults end
      unserved.stopped.stops all.doors all.inboxes)
  | inr served ↦ inr (worked-over show serving end stage stage' on served)
]

runs-worked : {D I C L : Type 0} (show : Shows D I C L) (serving : ServingMany) (end : End)
    (stage stage' : Stage D I C) → AllOpen (asked_by serving) stage stage'
    → EndsUnopened serving stage stage' end ⊎ GoesOn show serving stage stage' end
    → (end ≡ NoMemory) ⊎ HasWorked show serving stage stage'
runs-worked show serving end stage stage' all (inl ends) =
    absurd (opened-none (asked_by serving) stage stage' all ends.leaves)
runs-worked show serving end stage stage' all (inr on) =
    goes-on-worked show serving end stage stage' all on

pub worked-many : {D I C L : Type 0} (show : Shows D I C L) (serving : ServingMany) (status : ℕ)
    (stage stage' : Stage D I C) → Runs show (Some (Many serving)) status stage stage' → 0 < serving.workers
    → stage.devices.doors ≡ [] → length stage'.devices.doors ≡ serving.workers
    → length stage'.devices.inboxes ≡ length serving.specs → (status ≡ 4) ⊎ HasWorked show serving stage stage'
worked-many show serving status stage stage' runs some none doors inboxes =
    let folders = length-map serving.specs (λ (spec : Spec). spec.inbox) in elim runs.does [
      | inl does ↦ status-worked runs.end status runs.status_is (runs-worked show serving runs.end stage stage'
          (record { some = some; none = none; doors = doors; inboxes = inboxes ∙ sym folders }) does.runs)
      | inr short ↦ inl (runs.status_is ∙ ap status_of short.0)
    ]
