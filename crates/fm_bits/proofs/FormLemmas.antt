-- The three forms of a number's text, and where the digits at their front end.
use Rattle.std.proofs.Common.{◌≡◌, ℕ, suc, ◌*◌, ◌/◌, ◌^◌, ◌%◌, ◌<◌, ◌⊎◌, inl, inr, ◌&&◌, nat_lt, nat_le, List, [], ◌∷◌, ◌++◌, ap, ◌∙◌, arith, refl, ℤ, pos, negsuc, ◌+ℤ◌}
use Rattle.std.specs.Fmt.{decimal}
use Rattle.std.proofs.lemmas.Bool.{cases_Bool, cond-true, cond-false, and_parts, ltb-true, lt-ltb}
use Rattle.std.proofs.lemmas.List.{append_assoc}
use Rattle.fm_bits.specs.Digits.{fixed_digits}
use Rattle.fm_bits.specs.Text.{magnitude_text, whole_text, decimals_text, hex_text, hex_fraction, exponent_text, high_index}

-- odd, or 0 with the exponent 0
abbrev pub Reduced : ℕ → ℤ → Type 0
Reduced odd e = (odd % 2 ≡ 1) ⊎ ((odd ≡ 0) × (e ≡ pos 0))

-- which form the text has
pub data Form (odd : ℕ) (e : ℤ) : Type 0 where
  whole : (k : ℕ) → e ≡ pos k → odd * 2 ^ k < 2 ^ 127 → magnitude_text odd e ≡ whole_text (odd * 2 ^ k) → Form odd e
  decimals : (j : ℕ) → e ≡ negsuc j → odd % 2 ≡ 1 → odd * 5 ^ suc j < 2 ^ 127
      → magnitude_text odd e ≡ decimals_text odd (suc j) → Form odd e
  hexadecimal : odd % 2 ≡ 1 → magnitude_text odd e ≡ hex_text odd e → Form odd e

pub form_of : (odd : ℕ) (e : ℤ) → Reduced odd e → Form odd e
unfolding magnitude_text
form_of odd (pos k) (inl p) =
    elim (cases_Bool (nat_lt (odd * 2 ^ k) (2 ^ 127))) [
      | inl t ↦ whole k refl (ltb-true _ _ t) (cond-true _ _ _ t)
      | inr f ↦ hexadecimal p (cond-false _ _ _ f)
    ]
form_of odd (pos k) (inr p) =
    let none : odd * 2 ^ k ≡ 0 = ap (λ x. x * 2 ^ k) p.0 ∙ omega arith in
    let small : odd * 2 ^ k < 2 ^ 127 = omega arith in
    whole k refl small (cond-true _ _ _ (lt-ltb (odd * 2 ^ k) (2 ^ 127) small))
form_of odd (negsuc j) (inl p) =
    elim (cases_Bool (nat_le (suc j) 40 && nat_lt (odd * 5 ^ suc j) (2 ^ 127))) [
      | inl t ↦ decimals j refl p (ltb-true _ _ (and_parts _ _ t).1) (cond-true _ _ _ t)
      | inr f ↦ hexadecimal p (cond-false _ _ _ f)
    ]
form_of odd (negsuc j) (inr p) = let apart = p.1 in cc

-- each form as digits, the first byte that is none, and what follows
pub whole_cut : (n : ℕ) → whole_text n ≡ decimal n ++ 46 ∷ 48 ∷ []
unfolding whole_text
whole_cut n = refl

pub decimals_cut : (odd k : ℕ) → decimals_text odd k ≡ decimal (odd / 2 ^ k) ++ 46 ∷ fixed_digits 10 k (odd * 5 ^ k)
unfolding decimals_text
decimals_cut odd k = append_assoc (decimal (odd / 2 ^ k)) (46 ∷ []) (fixed_digits 10 k (odd * 5 ^ k))

pub hex_cut : (odd : ℕ) (e : ℤ)
    → hex_text odd e ≡ 48 ∷ 120 ∷ 49 ∷ (hex_fraction odd ++ 112 ∷ exponent_text (e +ℤ pos (high_index odd)))
unfolding hex_text
hex_cut odd e =
    ap (λ (x : List ℕ). 48 ∷ 120 ∷ 49 ∷ x)
    (append_assoc (hex_fraction odd) (112 ∷ []) (exponent_text (e +ℤ pos (high_index odd))))
