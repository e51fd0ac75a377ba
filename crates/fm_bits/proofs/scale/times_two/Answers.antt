-- The product is below 2^127 exactly where the number is below 2^(127 - power).
use Rattle.std.proofs.Common.{◌*◌, ◌-◌, ◌^◌, ◌<◌, ◌≤◌, arith}
use Rattle.std.proofs.Math.Nat.{mod-eq_of_lt}
use Rattle.std.proofs.lemmas.Nat.{one_shl}
use Rattle.fm_bits.proofs.Powers.{mul-two_pow-ge, shl-ge, shl-lt}
use Rattle.fm_bits.proofs.scale.times_two.Goals as goal
use Rattle.fm_bits.proofs.scale.times_two.Goals.{then-power-ge127-via-then-power-ge127, then-power-ge127-via-else-power-ge127+then-n-power}

pub returns-then-power-ge127 : goal.returns-then-power-ge127
returns-then-power-ge127 c small =
    let one = one_shl (127 - c.args.power) 128 in
    elim c.then-power-ge127.branch [
      | then-power-ge127-via-then-power-ge127 w ↦
          omega (arith, mul-two_pow-ge c.args.n 127 c.args.power (omega arith) (omega arith))
      | then-power-ge127-via-else-power-ge127+then-n-power w ↦
          let least : 2 ^ (127 - c.args.power) ≤ c.args.n = omega (arith, one (omega arith)) in
          omega (arith, shl-ge c.args.n (127 - c.args.power) c.args.power 127 (omega arith) least)
    ]

pub returns : goal.returns
returns c =
    let most : c.args.n < 2 ^ (127 - c.args.power) = omega (arith, one_shl (127 - c.args.power) 128 (omega arith)) in
    let below : c.args.n * 2 ^ c.args.power < 2 ^ 127 =
    shl-lt c.args.n (127 - c.args.power) c.args.power 127 (omega arith) most in
    (below, mod-eq_of_lt (omega arith))
