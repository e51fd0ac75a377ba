-- The steps of words, one word at a time.
use Rattle.std.proofs.Common.{◌≡◌, ℕ, ℤ, List, [], ◌∷◌, ◌++◌, Option, Some, None, refl, sym, ap}
use Rattle.srv_words.specs.declared.job.Step.{Step}
use Rattle.srv_words.specs.Reads.{◌>>=◌}
use Rattle.srv_words.specs.Steps.{step_of, steps_from}

pub step_more : (epoch : ℤ) (found : List Step) (word : List ℕ) (words : List (List ℕ)) (step : Step)
    → step_of epoch word ≡ Some step
    → steps_from epoch (found ++ step ∷ []) words ≡ steps_from epoch found (word ∷ words)
unfolding steps_from
step_more epoch found word words step is =
    sym (ap (λ (o : Option Step). o >>= λ (s : Step). steps_from epoch (found ++ s ∷ []) words) is)

pub step_bad : (epoch : ℤ) (found : List Step) (word : List ℕ) (words : List (List ℕ)) → step_of epoch word ≡ None
    → steps_from epoch found (word ∷ words) ≡ None
unfolding steps_from
step_bad epoch found word words is =
    ap (λ (o : Option Step). o >>= λ (s : Step). steps_from epoch (found ++ s ∷ []) words) is

pub step_none : (epoch : ℤ) (found : List Step) → steps_from epoch found [] ≡ Some found
unfolding steps_from
step_none epoch found = refl

pub ruleset steps = (step_more, step_bad, step_none)
