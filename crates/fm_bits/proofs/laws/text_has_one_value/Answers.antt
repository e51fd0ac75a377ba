-- Two patterns of one kind with the same text have the same value, by the lemma on patterns.
use Rattle.fm_bits.proofs.PatternLemmas.{pattern_text_injective}
use Rattle.fm_bits.proofs.laws.text_has_one_value.Goals as goal

pub returns : goal.returns
returns c = λ kind text. pattern_text_injective c.args.p c.args.q c.requires.first c.requires.second kind text
