-- A number below 2^128 that isn't 0 is no multiple of a greater power.
use Rattle.std.proofs.Common.{arith}
use Rattle.std.proofs.lemmas.Nat.{one_shl}
use Rattle.fm_bits.proofs.Powers.{mod-two_pow}
use Rattle.fm_bits.proofs.scale.over_two.Goals as goal
use Rattle.fm_bits.proofs.scale.over_two.Goals.{then-power-ge128-via-then-power-ge128, then-power-ge128-via-else-power-ge128+then-n-power-ne0}

pub returns-then-power-ge128 : goal.returns-then-power-ge128
returns-then-power-ge128 c whole =
    elim c.then-power-ge128.branch [
      | then-power-ge128-via-then-power-ge128 w ↦
          omega (arith, mod-two_pow c.args.n 128 c.args.power (omega arith) (omega arith))
      | then-power-ge128-via-else-power-ge128+then-n-power-ne0 w ↦ grind (arith, one_shl c.args.power 128 (omega arith))
    ]
