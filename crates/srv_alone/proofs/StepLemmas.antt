-- Steps that are done one after the other.
use Rattle.std.proofs.Common.{◌≡◌, ◌≤◌, ◌<◌, ◌+◌, ℕ, suc, List, [], ◌∷◌, length, get_or, drop, drop-cons, refl, sym, ap, ◌∙◌, inl, inr, add-one}
use Rattle.std.proofs.lemmas.List.{drop_all}
use Rattle.srv_words.specs.declared.job.Step.{Step}
use Rattle.srv_alone.specs.declared.end.End.{End}
use Rattle.srv_alone.specs.declared.end.End.TheVariants.{Done}
use Rattle.srv_alone.specs.Steps.{DoesSteps, EndsAt, IsDone, path_of, Progress}

-- the steps from an index on, done from here, are all steps done from the start
pub record AreLeft (steps : List Step) (start : Progress) (i : ℕ) (now : Progress) : Type 0 where
  pub all : (after : Progress) (end : End) (path : List ℕ) → DoesSteps (drop i steps) now after end path
      → DoesSteps steps start after end path

-- at the start all are left
pub AreLeft-start : (steps : List Step) (start : Progress) → AreLeft steps start 0 start
AreLeft-start steps start = record { all = λ after end path does. does }

-- the steps from an index on begin with the step there
drop-step : (steps : List Step) (i : ℕ) (step : Step) → i < length steps → step ≡ get_or steps i step
    → drop i steps ≡ step ∷ drop (i + 1) steps
drop-step steps i step below is =
    drop-cons steps i step below ∙ ap (λ (first : Step). first ∷ drop (suc i) steps) (sym is)
    ∙ ap (λ (n : ℕ). step ∷ drop n steps) (sym (add-one i))

-- the step at an index is done
pub AreLeft-done : {steps : List Step} {start now next : Progress} {i : ℕ} {step : Step} → i < length steps
    → step ≡ get_or steps i step → AreLeft steps start i now → IsDone step now next
    → AreLeft steps start (i + 1) next
unfolding DoesSteps
AreLeft-done {steps} {start} {now} {next} {i} {step} below is left done = record {
  all = λ after end path does.
      left.all after end path (rw (drop-step steps i step below is) (inl (next, done, does)));
}

-- it isn't
pub Does-ends : {steps : List Step} {start now : Progress} {i : ℕ} {step : Step} (after : Progress) (end : End)
    {path : List ℕ} → i < length steps → step ≡ get_or steps i step → AreLeft steps start i now
    → EndsAt step now after end → path ≡ path_of step → DoesSteps steps start after end path
unfolding DoesSteps
Does-ends {steps} {start} {now} {i} {step} after end {path} below is left ends path_is =
    left.all after end path (rw (drop-step steps i step below is) (inr (ends, path_is)))

-- there is none
pub Does-done : {steps : List Step} {start now : Progress} {i : ℕ} → length steps ≤ i → AreLeft steps start i now
    → DoesSteps steps start now Done []
unfolding DoesSteps
Does-done {steps} {start} {now} {i} past left =
    left.all now Done [] (rw (drop_all i steps past) (refl, refl, refl))

pub ruleset steps = (AreLeft-start)
