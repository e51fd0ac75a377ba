-- The steps on a collection.
use Rattle.std.specs.Prelude.{◌<◌, ◌≤◌, ℕ, List, [], ◌∷◌, ◌++◌, length, codes, Option, Some, option_map, ℤ}
use Rattle.std.specs.Option.{option_and_then, option_or}
use Rattle.nc_model.specs.Instant.{instant_of}
use Rattle.fm_model.specs.LoadTimes.{IsInstant}
use Rattle.srv_words.specs.declared.job.Step.{Step}
use Rattle.srv_words.specs.declared.job.Step.TheVariants.{Put, Expire, Retract, Ask}
use Rattle.srv_words.specs.Reads.{◌>>=◌}
use Rattle.srv_words.specs.Values.{from_epoch, number_in, rest_of}

-- the cutoff of `expire:INSTANT`, in seconds from the epoch
unfoldable pub cutoff_of : ℤ → List ℕ → Option ℤ
cutoff_of epoch word =
    option_and_then (from_epoch epoch) (option_and_then instant_of (rest_of (codes "expire:") word))

-- the number of `ask:NUMBER`
unfoldable pub asked_of : List ℕ → Option ℕ
asked_of word = option_and_then (number_in 1 10_000) (rest_of (codes "ask:") word)

-- the step that a word is: `put:PATH`, `expire:INSTANT`, `retract:NAME` or `ask:NUMBER`
unfoldable pub step_of : ℤ → List ℕ → Option Step
step_of epoch word = option_or (option_map Put (rest_of (codes "put:") word))
    (option_or (option_map Expire (cutoff_of epoch word))
    (option_or (option_map Retract (rest_of (codes "retract:") word)) (option_map Ask (asked_of word))))

-- the steps of the words, one after the other, after those that were found
unfoldable pub steps_from : ℤ → List Step → List (List ℕ) → Option (List Step)
steps_from epoch found [] = Some found
steps_from epoch found (word ∷ words) =
    step_of epoch word >>= λ (step : Step). steps_from epoch (found ++ step ∷ []) words

-- the steps that words are, one after the other
unfoldable pub steps_of : ℤ → List (List ℕ) → Option (List Step)
steps_of epoch words = steps_from epoch [] words

-- paths and names aren't empty, a cutoff is an instant of the collection, and 1 to 10,000 replies are asked for
abbrev pub IsStep : Step → Type 0
IsStep (Put path) = 0 < length path
IsStep (Expire cutoff) = IsInstant cutoff
IsStep (Retract name) = 0 < length name
IsStep (Ask count) = (0 < count) × (count ≤ 10_000)
