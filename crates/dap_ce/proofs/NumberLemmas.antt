-- The value of fewer than 18 digits leaves room for one more.
use Rattle.std.proofs.Common.{ℕ, ◌^◌, ◌<◌, ◌≤◌, arith}
use Rattle.std.proofs.Math.Nat.{pow-le-pow_right}

pub below_17_digits : (value count : ℕ) → value < 10 ^ count → count < 18 → value < 10 ^ 17
below_17_digits value count below few =
    let most : 10 ^ count ≤ 10 ^ 17 = pow-le-pow_right {n = 10} (omega arith) {i = count} {j = 17} (omega arith) in
    omega arith
