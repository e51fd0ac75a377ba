-- Numbers with the same text are the same.
use Rattle.std.proofs.Common.{◌≡◌, ℕ, suc, ◌+◌, ◌*◌, ◌/◌, ◌^◌, ◌%◌, ◌<◌, [], length, sym, ap, ◌∙◌, arith, ℤ, unsigned_abs}
use Rattle.std.specs.Fmt.{decimal}
use Rattle.std.proofs.Math.Nat.{mul-div-mul_right, div-add-mod', div-le_self, eq_of_mul-eq-mul_right, one-le-pow}
use Rattle.std.proofs.lemmas.List.{same_from_push}
use Rattle.std.proofs.lemmas.Nat.{mul-pow}
use Rattle.fm_bits.specs.Digits.{fixed_digits}
use Rattle.fm_bits.specs.Text.{whole_text, decimals_text}
use Rattle.fm_bits.proofs.DigitLemmas.{decimal_injective, fixed_digits_injective, glyph_injective, length-fixed_digits, point_injective}
use Rattle.fm_bits.proofs.FormLemmas.{Reduced, whole_cut, decimals_cut}
use Rattle.fm_bits.proofs.OddLemmas.{odd_times_five}

-- a number as patterns have it
pub record IsSmall (odd : ℕ) (e : ℤ) : Type 0 where
  pub reduced : Reduced odd e
  pub odd_in : odd < 2 ^ 64
  pub exponent_in : unsigned_abs e < 2 ^ 64

-- whole numbers
pub whole_injective : (m n : ℕ) → m < 2 ^ 127 → n < 2 ^ 127 → whole_text m ≡ whole_text n → m ≡ n
whole_injective m n p q e =
    let parts = point_injective m n _ _ (sym (whole_cut m) ∙ e ∙ whole_cut n) in
    decimal_injective m n (omega arith) (omega arith) parts.0

-- the last decimal of a whole number is 0, and that of another isn't
pub whole_or_decimals : (n odd k : ℕ) → odd % 2 ≡ 1 → whole_text n ≡ decimals_text odd (suc k) → ⊥
unfolding fixed_digits
whole_or_decimals n odd k p e =
    let number = odd * 5 ^ suc k in
    let parts = point_injective n (odd / 2 ^ suc k) _ _ (sym (whole_cut n) ∙ e ∙ decimals_cut odd (suc k)) in
    let last = same_from_push [] (fixed_digits 10 k (number / 10)) 48 _ parts.1 in
    let none : 0 ≡ number % 10 = glyph_injective 0 (number % 10) (omega arith) (omega arith) last.1 in
    let some = odd_times_five odd (suc k) p in omega arith

-- decimals: what stands before the point, and as many digits after it
same_decimals : (a b k : ℕ) → a < 2 ^ 64 → b < 2 ^ 64 → decimal (a / 2 ^ k) ≡ decimal (b / 2 ^ k)
    → fixed_digits 10 k (a * 5 ^ k) ≡ fixed_digits 10 k (b * 5 ^ k) → a ≡ b
same_decimals a b k p q e f =
    let some : 0 < 5 ^ k = one-le-pow k 5 (omega arith) in
    let ten : 10 ^ k ≡ 2 ^ k * 5 ^ k = mul-pow 2 5 k in
    let over : (x : ℕ) → x * 5 ^ k / 10 ^ k ≡ x / 2 ^ k = λ x. ap (λ y. x * 5 ^ k / y) ten
    ∙ mul-div-mul_right x (2 ^ k) some in
    let front : a / 2 ^ k ≡ b / 2 ^ k =
    decimal_injective _ _ (omega (arith, div-le_self a (2 ^ k))) (omega (arith, div-le_self b (2 ^ k))) e in
    let high : a * 5 ^ k / 10 ^ k ≡ b * 5 ^ k / 10 ^ k = over a ∙ front ∙ sym (over b) in
    let low = fixed_digits_injective 10 k (a * 5 ^ k) (b * 5 ^ k) (omega arith) (omega arith) f in
    let same : a * 5 ^ k ≡ b * 5 ^ k =
    sym (div-add-mod' (a * 5 ^ k) (10 ^ k))
    ∙ ap (λ x. x * 10 ^ k + a * 5 ^ k % 10 ^ k) high
    ∙ ap (λ x. b * 5 ^ k / 10 ^ k * 10 ^ k + x) low
    ∙ div-add-mod' (b * 5 ^ k) (10 ^ k) in
    eq_of_mul-eq-mul_right (5 ^ k) some a b same

pub decimals_injective : (a b j k : ℕ) → a < 2 ^ 64 → b < 2 ^ 64 → decimals_text a j ≡ decimals_text b k
    → (a ≡ b) × (j ≡ k)
decimals_injective a b j k p q e =
    let cut = λ (x y : ℕ) (h : decimals_text a x ≡ decimals_text b y).
    point_injective (a / 2 ^ x) (b / 2 ^ y) _ _ (sym (decimals_cut a x) ∙ h ∙ decimals_cut b y) in
    let counts : j ≡ k = sym (length-fixed_digits 10 j (a * 5 ^ j)) ∙ ap length (cut j k e).1
    ∙ length-fixed_digits 10 k (b * 5 ^ k) in
    let parts = cut j j (e ∙ ap (λ x. decimals_text b x) (sym counts)) in
    (same_decimals a b j p q parts.0 parts.1, counts)
