-- Odd parts and exponents that make the same number are the same: factors of two are taken out of both.
use Rattle.std.proofs.Common.{arith}
use Rattle.std.proofs.lemmas.Int.{ints}
use Rattle.fm_bits.proofs.OddLemmas.{odd_times_power}
use Rattle.fm_bits.proofs.laws.odd_part_is_one.Goals as goal

pub returns-clause-odd : goal.returns-clause-odd
returns-clause-odd c = λ e. (odd_times_power c.args.a c.args.b c.args.i c.args.j c.requires.first c.requires.second e).0

pub returns-clause-exponent : goal.returns-clause-exponent
returns-clause-exponent c = λ e.
    let same = (odd_times_power c.args.a c.args.b c.args.i c.args.j c.requires.first c.requires.second e).1 in
    omega (arith, ints, same, c.requires.level)
