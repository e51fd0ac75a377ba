-- The text of a pattern denotes the value that it shows.
use Rattle.fm_bits.proofs.PatternDenotes.{pattern_denotes}
use Rattle.fm_bits.proofs.laws.text_denotes.Goals as goal

pub returns : goal.returns
returns c = pattern_denotes c.args.p c.requires
