-- After all variables the numbers are those of the coordinate variables.
use Rattle.std.proofs.Common.{ap, length, arith}
use Rattle.fm_dataset.proofs.FirstLemmas.{first-all}
use Rattle.fm_dataset.proofs.table.coordinate_numbers.Goals as goal

pub returns : goal.returns
returns c = first-all c.args.proto.now c.loop-number.number c.loop-number.numbers-inside.items.items
    (omega (arith, ap length c.as_slice-var-items.ensures, c.loop-number-test.false)) c.loop-number.invariant
