-- The steps found so far, and those of the words that are left, are all steps.
use Rattle.std.proofs.Common.{◌≡◌, [], map, drop}
use Rattle.srv_words.specs.Steps.{steps_from}
use Rattle.srv_words.proofs.steps.steps_of.Given as goal

abbrev pub invariant-loop-word : goal.invariant-loop-word
invariant-loop-word l = steps_from l.epoch l.steps (map (λ word. word.now) (drop l.word-index l.words))
    ≡ steps_from l.epoch [] (map (λ word. word.now) l.words)
