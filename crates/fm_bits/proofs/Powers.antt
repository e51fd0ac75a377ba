-- Products with powers, and what is left of a division by one.
use Rattle.std.proofs.Common.{◌≡◌, ℕ, ◌+◌, ◌-◌, ◌*◌, ◌/◌, ◌%◌, ◌^◌, ◌<◌, ◌≤◌, ap, arith, subst}
use Rattle.std.proofs.Math.Nat.{pow-le-pow_right, mul-le-mul, mod-eq_of_lt}
use Rattle.std.proofs.lemmas.Nat.{pow-add, shl_below, shl_whole}

-- a power of two grows with its exponent
pub two_pow_le : (i j : ℕ) → i ≤ j → 2 ^ i ≤ 2 ^ j
two_pow_le i j h = pow-le-pow_right (omega arith) h

pub five_pow_le : (i j : ℕ) → i ≤ j → 5 ^ i ≤ 5 ^ j
five_pow_le i j h = pow-le-pow_right (omega arith) h

-- a number that isn't 0, times a great power
pub mul-two_pow-ge : (n i j : ℕ) → 0 < n → i ≤ j → 2 ^ i ≤ n * 2 ^ j
mul-two_pow-ge n i j some h =
    let a : 1 * 2 ^ i ≤ n * 2 ^ j = mul-le-mul some (two_pow_le i j h) in omega arith

-- a number of at least `i` bits, with `j` zeros added
pub shl-ge : (n i j k : ℕ) → i + j ≡ k → 2 ^ i ≤ n → 2 ^ k ≤ n * 2 ^ j
shl-ge n i j k e h =
    let a : 2 ^ i * 2 ^ j ≤ n * 2 ^ j = mul-le-mul h (omega arith) in
    omega (arith, pow-add 2 i j, ap (λ x. 2 ^ x) e)

pub shl-lt : (n i j k : ℕ) → i + j ≡ k → n < 2 ^ i → n * 2 ^ j < 2 ^ k
shl-lt n i j k e h = subst (λ (x : ℕ). n * 2 ^ j < 2 ^ x) e (shl_below n i j h)

-- a number below the power that it is divided by stays
pub mod-two_pow : (n i j : ℕ) → n < 2 ^ i → i ≤ j → n % 2 ^ j ≡ n
mod-two_pow n i j small h = mod-eq_of_lt (omega (arith, two_pow_le i j h))

-- what fills 64 bits up to whole hexadecimal digits fits 128
pub hex_digits_fit : (n width : ℕ) → n < 2 ^ 64
    → (n * 2 ^ (4 * ((width + 3) / 4) - width)) % 2 ^ 128 ≡ n * 2 ^ (4 * ((width + 3) / 4) - width)
hex_digits_fit n width small = shl_whole n 64 (4 * ((width + 3) / 4) - width) 128 small (omega arith)
