-- The sequence of numbers, from record to record.
use Rattle.std.proofs.Common.{◌≡◌, ◌+◌, ◌*◌, ℕ, zero, suc, refl, sym, ap, ◌∙◌, arith}
use Rattle.fm_gen.specs.Values.{first_number, next, number_after, number_at}

-- the number after n steps and m more
pub number_after-more : (x n m : ℕ) → number_after (number_after x n) m ≡ number_after x (n + m)
unfolding number_after
number_after-more x n zero = ap (number_after x) (plus_none n)
  where
    plus_none : (n : ℕ) → n ≡ n + 0
    plus_none n = omega arith
number_after-more x n (suc m) = ap next (number_after-more x n m) ∙ ap (number_after x) (plus_suc n m)
  where
    plus_suc : (n m : ℕ) → suc (n + m) ≡ n + suc m
    plus_suc n m = omega arith

pub next_record : (x seed k j : ℕ) → x ≡ number_at seed k (64 * j) → number_after x 64 ≡ number_at seed k (64 * (j + 1))
next_record x seed k j is =
    ap (λ (y : ℕ). number_after y 64) is ∙ number_after-more (first_number seed k) (64 * j) 64
    ∙ ap (number_after (first_number seed k)) (times j)
  where
    times : (j : ℕ) → 64 * j + 64 ≡ 64 * (j + 1)
    times j = omega arith
