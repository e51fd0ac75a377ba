-- The status of a check of a file whose bytes are known.
use Rattle.std.proofs.Common.{◌≡◌, ◌⊎◌, inl, inr, ℕ, List, Option, Some, Result, Ok, Err, refl, sym, ap, ◌∙◌}
use Rattle.std.specs.Prelude.{⊤, IfSome}
use Rattle.nc_model.specs.declared.header.Header.{Header}
use Rattle.dev_traits.specs.Shown.{SinkShown}
use Rattle.srv_words.specs.declared.job.Job.TheVariants.{Check}
use Rattle.srv_alone.specs.declared.end.End.{End}
use Rattle.srv_alone.specs.declared.end.End.TheVariants.{Done, NoMemory, FileFault, SinkFault}
use Rattle.srv_alone.specs.Check.{checked_or_end, EndsCheck}
use Rattle.srv_alone.specs.Reading.{Gives, IsEndOf}
use Rattle.srv_alone.specs.Report.{status_of}
use Rattle.srv_run.specs.Run.{Runs}
use Rattle.srv_serve.specs.Shows.{Shows}
use Rattle.srv_serve.specs.Stage.{Stage}
use Rattle.srv_laws.proofs.UsedLemmas.{told}

-- an end is no value
apart : {Y : Type 0} (value : Y) (end : End) → ◌≡◌ {A = Result Y End} (Ok value) (Err end) → ⊥
apart value end same = cc

abbrev end_in : {Y : Type 0} → End → Result Y End → End
end_in end (Ok value) = end
end_in end (Err found) = found

-- what the end is where there is a value
sound-end : (end : End) (defined : Result Header End) (header : Header) → defined ≡ Ok header → IsEndOf end defined
    → (end ≡ NoMemory) ⊎ (end ≡ FileFault)
sound-end NoMemory defined header is ends = inl refl
sound-end FileFault defined header is ends = inr refl
sound-end end defined header is ends = absurd (apart header end (sym is ∙ ends))

-- what it is where there is none
found-end : (end : End) (defined : Result Header End) (found : End) → defined ≡ Err found → IsEndOf end defined
    → (end ≡ found) ⊎ (end ≡ NoMemory) ⊎ (end ≡ FileFault)
found-end NoMemory defined found is ends = inr (inl refl)
found-end FileFault defined found is ends = inr (inr refl)
found-end end defined found is ends = inl (ap (end_in end) (sym ends ∙ is))

-- a check of a sound file
sound-ends : (path : List ℕ) (checked defined : Result Header End) (header : Header) (end : End)
    (sink sink' : SinkShown) → defined ≡ Ok header → Gives (λ (h : Header). h) checked defined
    → EndsCheck path checked end sink sink'
    → (end ≡ Done) ⊎ (end ≡ SinkFault) ⊎ (end ≡ NoMemory) ⊎ (end ≡ FileFault)
sound-ends path (Ok found) defined header Done sink sink' is gives ends = inl refl
sound-ends path (Ok found) defined header SinkFault sink sink' is gives ends = inr (inl refl)
sound-ends path (Ok found) defined header end sink sink' is gives ends = absurd ends
sound-ends path (Err found) defined header end sink sink' is gives ends =
    elim (sound-end found defined header is gives) [
      | inl short ↦ inr (inr (inl (ends.0 ∙ short)))
      | inr fault ↦ inr (inr (inr (ends.0 ∙ fault)))
    ]

-- a check of another file
found-ends : (path : List ℕ) (checked defined : Result Header End) (other end : End) (sink sink' : SinkShown)
    → defined ≡ Err other → Gives (λ (h : Header). h) checked defined → EndsCheck path checked end sink sink'
    → (end ≡ other) ⊎ (end ≡ NoMemory) ⊎ (end ≡ FileFault)
found-ends path (Ok found) defined other end sink sink' is gives ends = absurd (apart found other (sym gives ∙ is))
found-ends path (Err found) defined other end sink sink' is gives ends =
    elim (found-end found defined other is gives) [
      | inl same ↦ inl (ends.0 ∙ same)
      | inr (inl short) ↦ inr (inl (ends.0 ∙ short))
      | inr (inr fault) ↦ inr (inr (ends.0 ∙ fault))
    ]

pub sound-status : {D I C L : Type 0} (show : Shows D I C L) (path : List ℕ) (status : ℕ) (stage stage' : Stage D I C)
    (held : List ℕ → Option (List ℕ)) (header : Header) → Runs show (Some (Check path)) status stage stage'
    → stage.outside.files.held ≡ Some held → checked_or_end (held path) ≡ Ok header
    → (status ≡ 0) ⊎ (status ≡ 7) ⊎ (status ≡ 4) ⊎ (status ≡ 5)
sound-status show path status stage stage' held header runs shows is = elim runs.does [
  | inl does ↦
      let checks = does.0.checks in
      elim (sound-ends path checks.checked (checked_or_end (held path)) header runs.end stage.outside.sink
      stage'.outside.sink is (told _ stage.outside.files.held held shows checks.found) checks.ends) [
        | inl done ↦ inl (runs.status_is ∙ ap status_of done)
        | inr (inl cut) ↦ inr (inl (runs.status_is ∙ ap status_of cut))
        | inr (inr (inl short)) ↦ inr (inr (inl (runs.status_is ∙ ap status_of short)))
        | inr (inr (inr fault)) ↦ inr (inr (inr (runs.status_is ∙ ap status_of fault)))
      ]
  | inr short ↦ inr (inr (inl (runs.status_is ∙ ap status_of short.0)))
]

pub found-status : {D I C L : Type 0} (show : Shows D I C L) (path : List ℕ) (status : ℕ) (stage stage' : Stage D I C)
    (held : List ℕ → Option (List ℕ)) (end : End) → Runs show (Some (Check path)) status stage stage'
    → stage.outside.files.held ≡ Some held → checked_or_end (held path) ≡ Err end
    → (status ≡ status_of end) ⊎ (status ≡ 4) ⊎ (status ≡ 5)
found-status show path status stage stage' held end runs shows is = elim runs.does [
  | inl does ↦
      let checks = does.0.checks in
      elim (found-ends path checks.checked (checked_or_end (held path)) end runs.end stage.outside.sink
      stage'.outside.sink is (told _ stage.outside.files.held held shows checks.found) checks.ends) [
        | inl same ↦ inl (runs.status_is ∙ ap status_of same)
        | inr (inl short) ↦ inr (inl (runs.status_is ∙ ap status_of short))
        | inr (inr fault) ↦ inr (inr (runs.status_is ∙ ap status_of fault))
      ]
  | inr short ↦ inr (inl (runs.status_is ∙ ap status_of short.0))
]
