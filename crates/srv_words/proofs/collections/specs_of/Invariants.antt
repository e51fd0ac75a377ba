-- The collections found so far, and those of the words that are left, are all collections.
use Rattle.std.proofs.Common.{◌≡◌, [], map, drop}
use Rattle.srv_words.specs.Collections.{specs_from}
use Rattle.srv_words.proofs.collections.specs_of.Given as goal

abbrev pub invariant-loop-word : goal.invariant-loop-word
invariant-loop-word l = specs_from l.specs (map (λ word. word.now) (drop l.word-index l.words))
    ≡ specs_from [] (map (λ word. word.now) l.words)
