-- The zero bytes up to a multiple of four.
use Rattle.std.proofs.Common.{◌≡◌, ℕ, ◌-◌, ◌%◌, [], ◌∷◌, replicate, ap, arith}
use Rattle.nc_model.specs.Format.{padded_len}
use Rattle.dap_model.specs.Xdr.{zeros_after}

pub no_zeros : (n : ℕ) → n % 4 ≡ 0 → [] ≡ zeros_after n
no_zeros n e = ap (λ (k : ℕ). replicate k 0) (let none : 0 ≡ padded_len n - n = omega arith in none)

pub three_zeros : (n : ℕ) → n % 4 ≡ 1 → 0 ∷ 0 ∷ 0 ∷ [] ≡ zeros_after n
three_zeros n e = ap (λ (k : ℕ). replicate k 0) (let three : 3 ≡ padded_len n - n = omega arith in three)

pub two_zeros : (n : ℕ) → n % 4 ≡ 2 → 0 ∷ 0 ∷ [] ≡ zeros_after n
two_zeros n e = ap (λ (k : ℕ). replicate k 0) (let two : 2 ≡ padded_len n - n = omega arith in two)

pub one_zero : (n : ℕ) → n % 4 ≡ 3 → 0 ∷ [] ≡ zeros_after n
one_zero n e = ap (λ (k : ℕ). replicate k 0) (let one : 1 ≡ padded_len n - n = omega arith in one)

pub ruleset zeros = (no_zeros, three_zeros, two_zeros, one_zero)
