-- Well-formed use of `serve` succeeds, unless memory runs out.
use Rattle.std.proofs.Common.{◌≡◌, ◌⊎◌, inl, inr, ℕ, zero, suc, List, [], ◌∷◌, All, Option, Some, None, refl, arith}
use Rattle.std.proofs.lemmas.List.Elements.{All-head, All-tail}
use Rattle.srv_words.specs.declared.job.Job.TheVariants.{Serve}
use Rattle.srv_words.specs.declared.job.Serving.{Serving}
use Rattle.srv_workers.specs.declared.outcome.Outcome.{Outcome}
use Rattle.fm_model.specs.declared.proto.Proto.{Proto}
use Rattle.srv_alone.specs.declared.end.End.{End}
use Rattle.srv_alone.specs.declared.end.End.TheVariants.{Done, NoMemory, SinkFault, DoorFault, InboxFault}
use Rattle.srv_serve.specs.Closing.{EndsServing, first_end}
use Rattle.srv_serve.specs.Devices.{asked_by, HasFailedAt, StopsAt}
use Rattle.srv_run.specs.Run.{Runs}
use Rattle.srv_serve.specs.Serve.{EndsUnopened, GoesOn, HasRun, RunsServe, ServesDevices}
use Rattle.srv_serve.specs.Shows.{Shows}
use Rattle.srv_serve.specs.Stage.{Stage}
use Rattle.srv_laws.specs.WellServed.{IsWellServed}
use Rattle.srv_run.proofs.ServedBlameLemmas.{unopened_blamed}
use Rattle.srv_serve.proofs.RunLemmas.{by_device, door-failed, inbox-failed, IsOfWorkers}
use Rattle.srv_alone.proofs.StepBlameLemmas.{at_file}
use Rattle.srv_laws.proofs.TakenLemmas.{excused-value}
use Rattle.srv_laws.proofs.UsedLemmas.{told}
use Rattle.srv_laws.proofs.WellUsedLemmas.{done-or-short, status-of}

-- no device has failed where all counts are 0
none-failed : {X : Type 0} (faults : X → ℕ) (xs : List X) (n : ℕ) → All (λ (x : X). faults x ≡ 0) xs
    → HasFailedAt faults xs n → ⊥
none-failed faults [] n all has = has
none-failed {X} faults (x ∷ xs) zero all has = omega (arith, All-head (λ (y : X). faults y ≡ 0) x xs all, has)
none-failed {X} faults (x ∷ xs) (suc n) all has =
    none-failed faults xs n (All-tail (λ (y : X). faults y ≡ 0) x xs all) has

-- a run that isn't opened
unopened : {D I C L : Type 0} (show : Shows D I C L) (serving : Serving) (end : End) (stage stage' : Stage D I C)
    → EndsUnopened serving stage stage' end → IsWellServed show serving stage stage'
    → (end ≡ Done) ⊎ (end ≡ NoMemory)
unopened show serving end stage stage' ends used =
    let blamed = (unopened_blamed show serving end stage stage' ends).inside in
    done-or-short end (excused-value end _ used.proto used.proto_is
    (told _ stage.outside.files.held used.held used.held_is ends.ends.found))
    (λ is. omega (arith, blamed.files is, used.files))
    (λ is. (at_file end ends.ends.at_file).link is)

-- a run that can't open all
unserved : {D I C L : Type 0} (show : Shows D I C L) (serving : Serving) (end : End) (stage stage' : Stage D I C)
    → StopsAt (asked_by serving) stage'.devices stage.opener.faults stage'.opener.faults end
    → IsWellServed show serving stage stage' → (end ≡ Done) ⊎ (end ≡ NoMemory)
unserved show serving (DoorFault number) stage stage' stops used =
    absurd (omega (arith, stops.cause, used.opener))
unserved show serving (InboxFault number) stage stage' stops used =
    absurd (omega (arith, stops.cause, used.opener))
unserved show serving NoMemory stage stage' stops used = inr refl
unserved show serving end stage stage' stops used = absurd stops

-- a run whose workers ran
served : {D I C L : Type 0} (show : Shows D I C L) (serving : Serving) (proto : Proto) (end : End)
    (stage stage' : Stage D I C) (outcome : Outcome)
    → HasRun show serving proto stage.opener stage'.opener stage'.devices outcome → (found : Option End)
    → first_end outcome ≡ found → EndsServing outcome found end stage.outside.sink stage'.outside.sink
    → IsWellServed show serving stage stage' → (end ≡ Done) ⊎ (end ≡ NoMemory)
served show serving proto Done stage stage' outcome run None first ends used = inl refl
served show serving proto SinkFault stage stage' outcome run None first ends used =
    absurd (omega (arith, ends.faults, used.sink))
served show serving proto end stage stage' outcome run None first ends used = absurd ends
served {D} {I} {C} {L} show serving proto end stage stage' outcome run (Some found) first ends used =
    by found first ends.0 (by_device outcome found first)
  where
    by : (e : End) → first_end outcome ≡ Some e → end ≡ e → IsOfWorkers e → (end ≡ Done) ⊎ (end ≡ NoMemory)
    by NoMemory first is of_workers = inr is
    by (DoorFault number) first is of_workers =
        absurd (none-failed (λ (door : D). (show.door door).faults) stage'.devices.doors number used.doors
        (door-failed show serving proto stage.opener stage'.opener stage'.devices outcome run number first))
    by (InboxFault number) first is of_workers =
        absurd (none-failed (λ (inbox : I). (show.inbox inbox).faults) stage'.devices.inboxes number used.inboxes
        (inbox-failed show serving proto stage.opener stage'.opener stage'.devices outcome run number first))
    by e first is of_workers = absurd of_workers

goes-on : {D I C L : Type 0} (show : Shows D I C L) (serving : Serving) (proto : Proto) (end : End)
    (stage stage' : Stage D I C) → ServesDevices show serving proto stage stage' end
    → IsWellServed show serving stage stage' → (end ≡ Done) ⊎ (end ≡ NoMemory)
goes-on show serving proto end stage stage' (inl stopped) used =
    unserved show serving end stage stage' stopped.stopped.stops used
goes-on show serving proto end stage stage' (inr ran) used =
    served show serving proto end stage stage' ran.outcome ran.run (first_end ran.outcome) refl ran.ends used

runs-on : {D I C L : Type 0} (show : Shows D I C L) (serving : Serving) (end : End) (stage stage' : Stage D I C)
    → EndsUnopened serving stage stage' end ⊎ GoesOn show serving stage stage' end
    → IsWellServed show serving stage stage' → (end ≡ Done) ⊎ (end ≡ NoMemory)
runs-on show serving end stage stage' (inl ends) used = unopened show serving end stage stage' ends used
runs-on show serving end stage stage' (inr on) used = goes-on show serving on.proto end stage stage' on.serves used

pub end-serve : {D I C L : Type 0} (show : Shows D I C L) (serving : Serving) (end : End) (stage stage' : Stage D I C)
    → RunsServe show serving end stage stage' → IsWellServed show serving stage stage'
    → (end ≡ Done) ⊎ (end ≡ NoMemory)
end-serve show serving end stage stage' runs used = runs-on show serving end stage stage' runs.runs used

pub status-serve : {D I C L : Type 0} (show : Shows D I C L) (serving : Serving) (status : ℕ)
    (stage stage' : Stage D I C) → Runs show (Some (Serve serving)) status stage stage'
    → IsWellServed show serving stage stage'
    → (status ≡ 0) ⊎ (status ≡ 4)
status-serve show serving status stage stage' runs used =
    status-of runs.end status runs.status_is (elim runs.does [
      | inl does ↦ end-serve show serving runs.end stage stage' does used
      | inr short ↦ inr short.0
    ])
