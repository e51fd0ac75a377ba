-- An exponent of at most 11 bits is below 2^11.
use Rattle.std.proofs.Common.{arith}
use Rattle.fm_bits.proofs.Powers.{two_pow_le}
use Rattle.fm_bits.proofs.value.from_fields.Goals as goal

pub lowest_exponent-requires-else-biased-eq0-clause-biased_in :
    goal.lowest_exponent-requires-else-biased-eq0-clause-biased_in
lowest_exponent-requires-else-biased-eq0-clause-biased_in c = omega (arith, two_pow_le c.args.width 11 (omega arith))
