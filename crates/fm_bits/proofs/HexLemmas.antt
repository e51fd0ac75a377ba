-- Numbers with the same text in hexadecimal are the same.
use Rattle.std.proofs.Common.{◌⊎◌, ◌≡◌, ◌≢◌, ℕ, suc, ◌+◌, ◌-◌, ◌*◌, ◌^◌, ◌%◌, ◌<◌, ◌≤◌, inl, inr, List, [], ◌∷◌, ◌++◌, length, sym, ap, ◌∙◌, arith, refl, ℤ, pos, negsuc, ◌+ℤ◌, unsigned_abs, nat_lt, subst}
use Rattle.std.specs.Fmt.{decimal}
use Rattle.std.proofs.lemmas.Bool.{cond-false, cond-true, cond_both, cases_eq, eq-eqb, ne_eqb, le-ltb}
use Rattle.std.proofs.lemmas.Int.{ints}
use Rattle.fm_bits.specs.Digits.{fixed_digits}
use Rattle.fm_bits.specs.Text.{hex_text, hex_fraction, hex_len, exponent_text, high_index}
use Rattle.fm_bits.proofs.DigitLemmas.{Within, Within-lower, decimal_injective, fixed_digits_injective, length-fixed_digits, fixed_digits_within, cut_injective, first_injective}
use Rattle.fm_bits.proofs.FormLemmas.{hex_cut}
use Rattle.fm_bits.proofs.OddLemmas.{odd_times_power, high_index_is, hex_number, rest_injective}

-- an exponent
exponent_text-pos : (a : ℕ) → exponent_text (pos a) ≡ 43 ∷ decimal a
unfolding exponent_text
exponent_text-pos a = ap (λ (x : List ℕ). x ++ decimal a) (cond-false _ _ _ (le-ltb a 0 (omega arith)))

exponent_text-negsuc : (a : ℕ) → exponent_text (negsuc a) ≡ 45 ∷ decimal (suc a)
unfolding exponent_text
exponent_text-negsuc a = refl

exponent_injective : (d e : ℤ) → unsigned_abs d < 2 ^ 65 → unsigned_abs e < 2 ^ 65 → exponent_text d ≡ exponent_text e
    → d ≡ e
exponent_injective (pos a) (pos b) p q h =
    let same : 43 ∷ decimal a ≡ 43 ∷ decimal b = sym (exponent_text-pos a) ∙ h ∙ exponent_text-pos b in
    let digits : decimal a ≡ decimal b = cc in
    ap pos (decimal_injective a b (omega arith) (omega arith) digits)
exponent_injective (pos a) (negsuc b) p q h =
    absurd (omega (arith, first_injective 43 45 _ _ (sym (exponent_text-pos a) ∙ h ∙ exponent_text-negsuc b)))
exponent_injective (negsuc a) (pos b) p q h =
    absurd (omega (arith, first_injective 45 43 _ _ (sym (exponent_text-negsuc a) ∙ h ∙ exponent_text-pos b)))
exponent_injective (negsuc a) (negsuc b) p q h =
    let same : 45 ∷ decimal (suc a) ≡ 45 ∷ decimal (suc b) = sym (exponent_text-negsuc a) ∙ h
    ∙ exponent_text-negsuc b in
    let digits : decimal (suc a) ≡ decimal (suc b) = cc in
    ap negsuc (omega (arith, decimal_injective (suc a) (suc b) (omega arith) (omega arith) digits))

-- numbers with the same fraction in hexadecimal are the same
pub hex_fraction-none : (a : ℕ) → high_index a ≡ 0 → hex_fraction a ≡ []
unfolding hex_fraction
hex_fraction-none a e = cond-true _ _ _ (eq-eqb _ _ e)

pub hex_fraction-some : (a : ℕ) → high_index a ≢ 0
    → hex_fraction a
    ≡ 46 ∷ fixed_digits 16 (hex_len (high_index a)) (a * 2 ^ (4 * hex_len (high_index a) - high_index a))
unfolding hex_fraction
hex_fraction-some a e = cond-false _ _ _ (ne_eqb _ _ e)

hex_fraction_within : (a : ℕ) → Within 46 102 (hex_fraction a)
hex_fraction_within a =
    let P : List ℕ → Type 0 = λ x. Within 46 102 x in
    elim (cases_eq (high_index a) 0) [
      | inl z ↦ subst P (sym (hex_fraction-none a z)) tt
      | inr n ↦
          let count = hex_len (high_index a) in
          let number = a * 2 ^ (4 * count - high_index a) in
          let within : Within 46 102 (46 ∷ fixed_digits 16 count number) =
          let digits = fixed_digits_within 16 count number (omega arith) (omega arith) in
          (omega arith, omega arith, Within-lower 48 46 102 (fixed_digits 16 count number) (omega arith) digits) in
          subst P (sym (hex_fraction-some a n)) within
    ]

-- a number without such a fraction is 1
pub one_alone : (a : ℕ) → a % 2 ≡ 1 → a < 2 ^ 64 → high_index a ≡ 0 → a ≡ 1
one_alone a p r z = let high = high_index_is a (omega arith) r in let unit : 2 ^ high_index a ≡ 1 =
    ap (λ x. 2 ^ x) z in omega arith

-- as many digits, and the same, are those of one number
same_fraction : (a b : ℕ) → a % 2 ≡ 1 → b % 2 ≡ 1 → a < 2 ^ 64 → b < 2 ^ 64 → (h : ℕ) → h ≡ hex_len (high_index a)
    → h ≡ hex_len (high_index b)
    → fixed_digits 16 h (a * 2 ^ (4 * h - high_index a)) ≡ fixed_digits 16 h (b * 2 ^ (4 * h - high_index b)) → a ≡ b
same_fraction a b p q r s h ha hb e =
    let here = high_index_is a (omega arith) r in
    let there = high_index_is b (omega arith) s in
    let m = hex_number a (high_index a) h (omega arith) here.1 here.2 in
    let n = hex_number b (high_index b) h (omega arith) there.1 there.2 in
    let rest = fixed_digits_injective 16 h _ _ (omega arith) (omega arith) e in
    let same = rest_injective (16 ^ h) _ _ m.0 m.1 n.0 n.1 rest in
    (odd_times_power a b _ _ p q same).0

both_some : (a b : ℕ) → a % 2 ≡ 1 → b % 2 ≡ 1 → a < 2 ^ 64 → b < 2 ^ 64
    → 46 ∷ fixed_digits 16 (hex_len (high_index a)) (a * 2 ^ (4 * hex_len (high_index a) - high_index a))
    ≡ 46 ∷ fixed_digits 16 (hex_len (high_index b)) (b * 2 ^ (4 * hex_len (high_index b) - high_index b))
    → a ≡ b
both_some a b p q r s e =
    let h = hex_len (high_index a) in
    let k = hex_len (high_index b) in
    let digits : fixed_digits 16 h (a * 2 ^ (4 * h - high_index a))
    ≡ fixed_digits 16 k (b * 2 ^ (4 * k - high_index b)) = cc in
    let count : h ≡ k =
    sym (length-fixed_digits 16 h (a * 2 ^ (4 * h - high_index a))) ∙ ap length digits
    ∙ length-fixed_digits 16 k (b * 2 ^ (4 * k - high_index b)) in
    same_fraction a b p q r s h refl count (digits
    ∙ ap (λ x. fixed_digits 16 x (b * 2 ^ (4 * x - high_index b))) (sym count))

hex_fraction_injective : (a b : ℕ) → a % 2 ≡ 1 → b % 2 ≡ 1 → a < 2 ^ 64 → b < 2 ^ 64 → hex_fraction a ≡ hex_fraction b
    → a ≡ b
hex_fraction_injective a b p q r s e =
    elim (cases_eq (high_index a) 0) [
      | inl x ↦ elim (cases_eq (high_index b) 0) [
        | inl y ↦ one_alone a p r x ∙ sym (one_alone b q s y)
        | inr y ↦ let apart = sym (hex_fraction-none a x) ∙ e ∙ hex_fraction-some b y in cc
      ]
      | inr x ↦ elim (cases_eq (high_index b) 0) [
        | inl y ↦ let apart = sym (hex_fraction-some a x) ∙ e ∙ hex_fraction-none b y in cc
        | inr y ↦ both_some a b p q r s (sym (hex_fraction-some a x) ∙ e ∙ hex_fraction-some b y)
      ]
    ]

-- an exponent and an index
pub abs-add : (d : ℤ) (n : ℕ) → unsigned_abs (d +ℤ pos n) ≤ unsigned_abs d + n
abs-add (pos a) n = omega arith
abs-add (negsuc a) n =
    cond_both (nat_lt n (suc a)) _ _ (λ z. unsigned_abs z ≤ suc a + n) (λ t. omega arith) (λ f. omega arith)

pub hex_injective : (a b : ℕ) (d e : ℤ) → a % 2 ≡ 1 → b % 2 ≡ 1 → a < 2 ^ 64 → b < 2 ^ 64 → unsigned_abs d < 2 ^ 64
    → unsigned_abs e < 2 ^ 64 → hex_text a d ≡ hex_text b e → (a ≡ b) × (d ≡ e)
hex_injective a b d e p q r s t u h =
    let x = exponent_text (d +ℤ pos (high_index a)) in
    let y = exponent_text (e +ℤ pos (high_index b)) in
    let same : 48 ∷ 120 ∷ 49 ∷ (hex_fraction a ++ 112 ∷ x) ≡ 48 ∷ 120 ∷ 49 ∷ (hex_fraction b ++ 112 ∷ y) =
    sym (hex_cut a d) ∙ h ∙ hex_cut b e in
    let after : hex_fraction a ++ 112 ∷ x ≡ hex_fraction b ++ 112 ∷ y = cc in
    let above : (112 < 46) ⊎ (102 < 112) = inr (omega arith) in
    let parts =
    cut_injective 46 102 _ _ 112 112 x y (hex_fraction_within a) (hex_fraction_within b) above above after in
    let number : a ≡ b = hex_fraction_injective a b p q r s parts.0 in
    let high = high_index_is a (omega arith) r in
    let high' = high_index_is b (omega arith) s in
    let small : unsigned_abs (d +ℤ pos (high_index a)) < 2 ^ 65 = omega (arith, abs-add d (high_index a), high.0) in
    let small' : unsigned_abs (e +ℤ pos (high_index b)) < 2 ^ 65 = omega (arith, abs-add e (high_index b), high'.0) in
    let exponent = exponent_injective (d +ℤ pos (high_index a)) (e +ℤ pos (high_index b)) small small' parts.2 in
    (number, omega (arith, ints, exponent, ap high_index number))
