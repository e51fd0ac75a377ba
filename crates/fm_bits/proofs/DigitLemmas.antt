-- Numbers with the same digits are the same, and digits end at the first byte that is none.
use Rattle.std.proofs.Common.{inl, ◌⊎◌, ◌≡◌, ℕ, zero, suc, ◌+◌, ◌*◌, ◌/◌, ◌%◌, ◌^◌, ◌<◌, ◌≤◌, ◌==◌, false, List, [], ◌∷◌, ◌++◌, length, sym, ap, ◌∙◌, arith, refl}
use Rattle.std.specs.Fmt.{digit_glyph, digits, digits_onto, decimal}
use Rattle.std.proofs.Math.Arith.{mod-mul}
use Rattle.std.proofs.Math.Nat.{pow-zero, pow-suc, mod-lt, one-le-pow, mod-one}
use Rattle.std.proofs.lemmas.Bool.{cond_both}
use Rattle.std.proofs.lemmas.Bool.Decides.{nat_tests}
use Rattle.std.proofs.lemmas.Fmt.{decimal_is_IsNumeral_wide}
use Rattle.std.proofs.lemmas.List.{length-append, same_from_push}
use Rattle.std.specs.Str.Parse.{digits_value}
use Rattle.fm_bits.specs.Digits.{fixed_digits}

-- each byte is between these two
abbrev pub Within : ℕ → ℕ → List ℕ → Type 0
Within low high [] = Unit {0}
Within low high (x ∷ xs) = (low ≤ x) × (x ≤ high) × Within low high xs

pub Within-push : (low high : ℕ) (xs : List ℕ) (x : ℕ) → low ≤ x → x ≤ high → Within low high xs
    → Within low high (xs ++ x ∷ [])
Within-push low high [] x p q h = (p, q, tt)
Within-push low high (y ∷ xs) x p q h = (h.0, h.1, Within-push low high xs x p q h.2)

pub Within-lower : (low low' high : ℕ) (xs : List ℕ) → low' ≤ low → Within low high xs → Within low' high xs
Within-lower low low' high [] p h = tt
Within-lower low low' high (x ∷ xs) p h = (omega (arith, h.0), h.1, Within-lower low low' high xs p h.2)

-- a digit is between `0` and `f`, a decimal one between `0` and `9`
pub glyph_within : (base d : ℕ) → d < base → base ≤ 16
    → (48 ≤ digit_glyph false d) × (digit_glyph false d ≤ 102) × (base ≤ 10 → digit_glyph false d ≤ 57)
glyph_within base d small h = (grind (arith, nat_tests), grind (arith, nat_tests), λ k. grind (arith, nat_tests))

-- digits differ where the numbers do
pub glyph_injective : (d e : ℕ) → d < 16 → e < 16 → digit_glyph false d ≡ digit_glyph false e → d ≡ e
glyph_injective d e p q h = grind (arith, nat_tests)

-- decimal digits before others
digits_onto_within : (k n : ℕ) (acc : List ℕ) → Within 48 57 acc → Within 48 57 (digits_onto k 10 false n acc)
digits_onto_within zero n acc h = h
digits_onto_within (suc k) n acc h =
    let d = glyph_within 10 (n % 10) (omega arith) (omega arith) in
    let here : Within 48 57 (digit_glyph false (n % 10) ∷ acc) = (d.0, d.2 (omega arith), h) in
    cond_both (n / 10 == 0) _ _ (Within 48 57) (λ e. here)
    (λ e. digits_onto_within k (n / 10) (digit_glyph false (n % 10) ∷ acc) here)

pub decimal_within : (n : ℕ) → Within 48 57 (decimal n)
unfolding digits
decimal_within n = digits_onto_within 64 n [] tt

-- numbers of the same decimal text are the same
pub decimal_injective : (m n : ℕ) → m < 10 ^ 64 → n < 10 ^ 64 → decimal m ≡ decimal n → m ≡ n
decimal_injective m n p q e = sym (decimal_is_IsNumeral_wide m p).1 ∙ ap (digits_value 10) e
    ∙ (decimal_is_IsNumeral_wide n q).1

pub length-fixed_digits : (base k n : ℕ) → length (fixed_digits base k n) ≡ k
unfolding fixed_digits
length-fixed_digits base zero n = refl
length-fixed_digits base (suc k) n =
    let last = digit_glyph false (n % base) ∷ [] in
    omega (arith, length-append (fixed_digits base k (n / base)) last, length-fixed_digits base k (n / base))

pub fixed_digits_within : (base k n : ℕ) → 2 ≤ base → base ≤ 16 → Within 48 102 (fixed_digits base k n)
unfolding fixed_digits
fixed_digits_within base zero n p q = tt
fixed_digits_within base (suc k) n p q =
    let d = glyph_within base (n % base) (mod-lt n {m = base} (omega arith)) q in
    Within-push _ _ (fixed_digits base k (n / base)) _ d.0 d.1 (fixed_digits_within base k (n / base) p q)

-- the digits are those of the number without what stands higher
pub fixed_digits_injective : (base k m n : ℕ) → 2 ≤ base → base ≤ 16 → fixed_digits base k m ≡ fixed_digits base k n
    → m % base ^ k ≡ n % base ^ k
unfolding fixed_digits
fixed_digits_injective base zero m n p q e =
    let one : (x : ℕ) → x % base ^ 0 ≡ 0 = λ x. ap (λ y. x % y) (pow-zero base) ∙ mod-one x in
    one m ∙ sym (one n)
fixed_digits_injective base (suc k) m n p q e =
    let parts = same_from_push (fixed_digits base k (m / base)) (fixed_digits base k (n / base)) _ _ e in
    let small : (x : ℕ) → x % base < 16 = λ x. omega (arith, mod-lt x {m = base} (omega arith)) in
    let last : m % base ≡ n % base = glyph_injective _ _ (small m) (small n) parts.1 in
    let front = fixed_digits_injective base k (m / base) (n / base) p q parts.0 in
    let some : 0 < base ^ k = one-le-pow k base (omega arith) in
    let split : (x : ℕ) → x % base ^ suc k ≡ (x / base % base ^ k) * base + x % base =
    λ x. ap (λ y. x % y) (pow-suc base k) ∙ mod-mul x some (omega arith) in
    split m ∙ ap (λ y. y * base + m % base) front ∙ ap (λ y. n / base % base ^ k * base + y) last ∙ sym (split n)

-- texts that are the same have the same digits in front, up to the first byte that is none
pub cut_injective : (low high : ℕ) (xs ys : List ℕ) (s t : ℕ) (us vs : List ℕ) → Within low high xs → Within low high ys
    → (s < low) ⊎ (high < s) → (t < low) ⊎ (high < t) → xs ++ s ∷ us ≡ ys ++ t ∷ vs → (xs ≡ ys) × (s ≡ t) × (us ≡ vs)
cut_injective low high [] [] s t us vs h i p q e = (refl, cc, cc)
cut_injective low high [] (y ∷ ys) s t us vs h i p q e = let same : s ≡ y = cc in absurd (omega arith)
cut_injective low high (x ∷ xs) [] s t us vs h i p q e = let same : x ≡ t = cc in absurd (omega arith)
cut_injective low high (x ∷ xs) (y ∷ ys) s t us vs h i p q e =
    let first : x ≡ y = cc in
    let rest : xs ++ s ∷ us ≡ ys ++ t ∷ vs = cc in
    let others = cut_injective low high xs ys s t us vs h.2 i.2 p q rest in
    let front = others.0 in
    (cc, others.1, others.2)

-- the first byte of two texts that are the same
pub first_injective : (x y : ℕ) (xs ys : List ℕ) → x ∷ xs ≡ y ∷ ys → x ≡ y
first_injective x y xs ys e = cc

-- decimal digits up to a point
pub point_injective : (m n : ℕ) (us vs : List ℕ) → decimal m ++ 46 ∷ us ≡ decimal n ++ 46 ∷ vs
    → (decimal m ≡ decimal n) × (us ≡ vs)
point_injective m n us vs e =
    let below : (46 < 48) ⊎ (57 < 46) = inl (omega arith) in
    let parts =
    cut_injective 48 57 (decimal m) (decimal n) 46 46 us vs (decimal_within m) (decimal_within n) below below e in
    (parts.0, parts.2)
