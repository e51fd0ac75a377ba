-- The value of fewer than 18 digits and one more fits 64 bits.
use Rattle.std.proofs.Common.{arith}
use Rattle.dap_ce.proofs.NumberLemmas.{below_17_digits}
use Rattle.dap_ce.proofs.reader.Reader.in_number.Goals as goal

pub overflow_mul-self : goal.overflow_mul-self
overflow_mul-self c =
    let below = below_17_digits c.args.value c.args.count c.requires.value c.if-count-lt18.true in
    omega (arith, below)

pub overflow_add-self-then-count-lt18 : goal.overflow_add-self-then-count-lt18
overflow_add-self-then-count-lt18 c =
    let below = below_17_digits c.args.value c.args.count c.requires.value c.if-count-lt18.true in
    omega (arith, below, c.from.ensures, c.ranges.byte.fits)
