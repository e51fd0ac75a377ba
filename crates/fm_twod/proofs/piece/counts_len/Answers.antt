-- One count before texts, and two before numbers.
use Rattle.fm_twod.proofs.ValueLemmas.{counts-numbers, counts-texts}
use Rattle.fm_twod.proofs.piece.counts_len.Goals as goal

pub returns-in-Text : goal.returns-in-Text
returns-in-Text c = λ count. counts-texts c.args.kind c.in-Text.is count

pub returns-in_default : goal.returns-in_default
returns-in_default c = λ count. counts-numbers c.args.kind c.in_default.not-Text count
