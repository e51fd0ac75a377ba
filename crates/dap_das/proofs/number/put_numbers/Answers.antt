-- One number more was written after a comma.
use Rattle.std.proofs.Common.{arith, append_assoc}
use Rattle.dap_das.proofs.Numbers.{one_more_number}
use Rattle.dap_das.proofs.number.put_numbers.Goals as goal

pub loop-i-preserved : goal.loop-i-preserved
loop-i-preserved c =
    let more = one_more_number c.args.kind c.args.values.now c.loop-i.i c.loop-i.auto.i in
    grind
    (arith, append_assoc, c.in_ok-put_next.ensures, c.loop-i.invariant, more)
