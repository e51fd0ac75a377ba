-- The odd part is odd: its lowest bit is the lowest that is set.
use Rattle.std.proofs.Common.{inl, arith}
use Rattle.std.specs.Int.{w64}
use Rattle.std.proofs.lemmas.Nat.Bits.{bit_at-trailing_zeros}
use Rattle.fm_bits.proofs.value.finite.Goals as goal

pub returns-clause-reduced : goal.returns-clause-reduced
returns-clause-reduced c = inl (bit_at-trailing_zeros w64 c.args.n (omega arith) c.ranges.n.fits).1
