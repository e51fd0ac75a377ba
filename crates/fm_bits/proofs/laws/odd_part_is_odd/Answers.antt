-- The lowest bit of the rest is the lowest that is set.
use Rattle.std.specs.Int.{w64}
use Rattle.std.proofs.lemmas.Nat.Bits.{bit_at-trailing_zeros}
use Rattle.fm_bits.proofs.OddLemmas.{odd_part_keeps}
use Rattle.fm_bits.proofs.laws.odd_part_is_odd.Goals as goal

pub returns-clause-odd : goal.returns-clause-odd
returns-clause-odd c = (bit_at-trailing_zeros w64 c.args.n c.requires c.ranges.n.fits).1

pub returns-clause-whole : goal.returns-clause-whole
returns-clause-whole c = odd_part_keeps c.args.n
