-- Where odd numbers times powers of two are the same, so are the odd numbers and the powers.
use Rattle.std.proofs.Common.{◌≡◌, ℕ, zero, suc, ◌+◌, ◌-◌, ◌*◌, ◌/◌, ◌%◌, ◌^◌, ◌<◌, ◌≤◌, ◌⊎◌, inl, inr, sym, ap, ◌∙◌, arith, refl, pos}
use Rattle.std.proofs.Math.Nat.{pow-zero, pow-suc, mul-pos, mul-le-mul_right, mul-lt-mul_of_pos_right, mod-eq-sub-mod, mod-eq_of_lt}
use Rattle.std.proofs.lemmas.Nat.{leading_top, pow_pos, pow-add, div-add-mod'}
use Rattle.std.specs.Int.{w64, trailing_zeros}
use Rattle.fm_base.proofs.NumberLemmas.{two_pow_divides}
use Rattle.fm_bits.specs.Text.{high_index}

-- one more factor of two
mul-two_pow_suc : (a i : ℕ) → a * 2 ^ suc i ≡ 2 * (a * 2 ^ i)
mul-two_pow_suc a i = ap (λ x. a * x) (pow-suc 2 i) ∙ omega arith

mul-two_pow_zero : (a : ℕ) → a * 2 ^ 0 ≡ a
mul-two_pow_zero a = ap (λ x. a * x) (pow-zero 2) ∙ omega arith

pub odd_times_power : (a b i j : ℕ) → a % 2 ≡ 1 → b % 2 ≡ 1 → a * 2 ^ i ≡ b * 2 ^ j → (a ≡ b) × (i ≡ j)
odd_times_power a b zero zero p q e = (sym (mul-two_pow_zero a) ∙ e ∙ mul-two_pow_zero b, refl)
odd_times_power a b zero (suc j) p q e =
    let twice : a ≡ 2 * (b * 2 ^ j) = sym (mul-two_pow_zero a) ∙ e ∙ mul-two_pow_suc b j in absurd (omega arith)
odd_times_power a b (suc i) zero p q e =
    let twice : b ≡ 2 * (a * 2 ^ i) = sym (mul-two_pow_zero b) ∙ sym e ∙ mul-two_pow_suc a i in absurd (omega arith)
odd_times_power a b (suc i) (suc j) p q e =
    let half : a * 2 ^ i ≡ b * 2 ^ j = omega (arith, mul-two_pow_suc a i, mul-two_pow_suc b j) in
    let parts = odd_times_power a b i j p q half in
    (parts.0, ap (λ x. suc x) parts.1)

-- the same for whole numbers that may be 0
pub reduced_injective : (a b i j : ℕ) → (a % 2 ≡ 1) ⊎ ((a ≡ 0) × (pos i ≡ pos 0))
    → (b % 2 ≡ 1) ⊎ ((b ≡ 0) × (pos j ≡ pos 0)) → a * 2 ^ i ≡ b * 2 ^ j → (a ≡ b) × (i ≡ j)
reduced_injective a b i j (inl p) (inl q) e = odd_times_power a b i j p q e
reduced_injective a b i j (inl p) (inr q) e =
    let some : 0 < a * 2 ^ i = mul-pos (omega arith) (pow_pos i) in
    let none : b * 2 ^ j ≡ 0 = ap (λ x. x * 2 ^ j) q.0 ∙ omega arith in absurd (omega arith)
reduced_injective a b i j (inr p) (inl q) e =
    let some : 0 < b * 2 ^ j = mul-pos (omega arith) (pow_pos j) in
    let none : a * 2 ^ i ≡ 0 = ap (λ x. x * 2 ^ i) p.0 ∙ omega arith in absurd (omega arith)
reduced_injective a b i j (inr p) (inr q) e = (p.0 ∙ sym q.0, cc)

-- the highest bit
pub high_index_is : (a : ℕ) → 0 < a → a < 2 ^ 64
    → (high_index a ≤ 63) × (2 ^ high_index a ≤ a) × (a < 2 * 2 ^ high_index a)
unfolding high_index
high_index_is a some small =
    let top = leading_top 64 a some small in
    let at : high_index a ≡ top.0 = omega (arith, top.1) in
    let low : 2 ^ high_index a ≤ a = omega (arith, top.2, ap (λ x. 2 ^ x) at) in
    let high : a < 2 * 2 ^ high_index a = omega (arith, top.3, pow-suc 2 top.0, ap (λ x. 2 ^ x) at) in
    (omega (arith, top.1), low, high)

-- a power of five keeps an odd number odd
pub odd_times_five : (a k : ℕ) → a % 2 ≡ 1 → a * 5 ^ k % 2 ≡ 1
odd_times_five a zero p = let one : a * 5 ^ 0 ≡ a = ap (λ x. a * x) (pow-zero 5) ∙ omega arith in omega arith
odd_times_five a (suc k) p =
    let less = odd_times_five a k p in
    let five : a * 5 ^ suc k ≡ 5 * (a * 5 ^ k) = ap (λ x. a * x) (pow-suc 5 k) ∙ omega arith in omega arith

pub two_pow-mul_four : (h : ℕ) → 2 ^ (4 * h) ≡ 16 ^ h
two_pow-mul_four zero = refl
two_pow-mul_four (suc h) =
    let split : 4 * suc h ≡ 4 * h + 4 = omega arith in
    ap (λ x. 2 ^ x) split ∙ pow-add 2 (4 * h) 4 ∙ ap (λ x. x * 16) (two_pow-mul_four h) ∙ sym (pow-suc 16 h)

-- filled up to whole hexadecimal digits, the number has one bit above them
pub hex_number : (a w h : ℕ) → w ≤ 4 * h → 2 ^ w ≤ a → a < 2 * 2 ^ w
    → (16 ^ h ≤ a * 2 ^ (4 * h - w)) × (a * 2 ^ (4 * h - w) < 2 * 16 ^ h)
hex_number a w h fits low high =
    let k = 4 * h - w in
    let sum : w + k ≡ 4 * h = omega arith in
    let whole : 2 ^ w * 2 ^ k ≡ 16 ^ h = sym (pow-add 2 w k) ∙ ap (λ x. 2 ^ x) sum ∙ two_pow-mul_four h in
    let least : 2 ^ w * 2 ^ k ≤ a * 2 ^ k = mul-le-mul_right (2 ^ k) low in
    let most : a * 2 ^ k < 2 * 2 ^ w * 2 ^ k = mul-lt-mul_of_pos_right high (pow_pos k) in
    (omega arith, omega arith)

-- numbers from m up to twice m with the same rest are the same
pub rest_injective : (m a b : ℕ) → m ≤ a → a < 2 * m → m ≤ b → b < 2 * m → a % m ≡ b % m → a ≡ b
rest_injective m a b p q r s e =
    let one : a % m ≡ a - m = mod-eq-sub-mod p ∙ mod-eq_of_lt (omega arith) in
    let two : b % m ≡ b - m = mod-eq-sub-mod r ∙ mod-eq_of_lt (omega arith) in omega arith

pub odd_part_keeps : (n : ℕ) → n / 2 ^ trailing_zeros w64 n * 2 ^ trailing_zeros w64 n ≡ n
odd_part_keeps n = omega (arith, div-add-mod' n (2 ^ trailing_zeros w64 n), two_pow_divides 64 n)
