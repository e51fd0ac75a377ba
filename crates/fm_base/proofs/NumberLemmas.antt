-- Factors of numbers, and the test of whole numbers in their order.
use Rattle.std.proofs.Common.{◌≡◌, ℕ, zero, suc, ◌*◌, ◌/◌, ◌%◌, ◌^◌, ◌<◌, true, ℤ, ◌≤ℤ◌, refl, ap, ◌∙◌, arith}
use Rattle.std.specs.Prelude.{int_le}
use Rattle.std.specs.Int.Count.{count_trailing_zeros, under}
use Rattle.std.proofs.Math.Nat.{pow-suc}
use Rattle.std.proofs.Math.Arith.{mod-mul}
use Rattle.std.proofs.lemmas.Int.{ints}
use Rattle.std.proofs.lemmas.Nat.{pow_pos}

-- neither factor of a number above 0 is 0
pub factors : (m n : ℕ) → 0 < m * n → (0 < m) × (0 < n)
factors zero n some = absurd (omega arith)
factors (suc m) zero some = absurd (omega arith)
factors (suc m) (suc n) some = (omega arith, omega arith)

-- a number is a multiple of its factors of two
pub two_pow_divides : (k n : ℕ) → n % 2 ^ count_trailing_zeros k n ≡ 0
unfolding count_trailing_zeros
two_pow_divides zero n = omega arith
two_pow_divides (suc k) n = by_last (n % 2) refl (two_pow_divides k (n / 2))
  where
    by_last : (d : ℕ) → d ≡ n % 2 → n / 2 % 2 ^ count_trailing_zeros k (n / 2) ≡ 0
        → n % 2 ^ under d (count_trailing_zeros k (n / 2)) ≡ 0
    by_last zero e half =
        let t = count_trailing_zeros k (n / 2) in
        ap (λ x. n % x) (pow-suc 2 t) ∙ mod-mul n (pow_pos t) (omega arith) ∙ omega arith
    by_last (suc d) e half = omega arith

-- numbers that pass the test are in order
pub at_most_from_test : (a b : ℤ) → int_le a b ≡ true → a ≤ℤ b
at_most_from_test a b e = grind (arith, ints)

-- numbers in order pass the test
pub test_at_most : (a b : ℤ) → a ≤ℤ b → int_le a b ≡ true
test_at_most a b at_most = grind (arith, ints)
