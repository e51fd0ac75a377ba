-- Values with the same text are the same, their signs too.
use Rattle.std.proofs.Common.{◌≡◌, ◌≢◌, ℕ, suc, ◌*◌, ◌/◌, ◌^◌, ◌<◌, ◌⊎◌, inl, inr, Bool, true, false, List, [], ◌∷◌, ◌++◌, codes, sym, ap, ◌∙◌, arith, refl, subst, ℤ, pos, negsuc}
use Rattle.std.specs.Fmt.{decimal, sign_text}
use Rattle.nc_model.specs.declared.pattern.Value.{Value}
use Rattle.nc_model.specs.declared.pattern.Value.TheVariants.{Finite, Infinite, NotANumber}
use Rattle.fm_bits.specs.Digits.{fixed_digits}
use Rattle.fm_bits.specs.Text.{magnitude_text, hex_text, value_text}
use Rattle.fm_bits.proofs.DigitLemmas.{Within, decimal_within, cut_injective, first_injective}
use Rattle.fm_bits.proofs.FormLemmas.{Reduced, Form, whole, decimals, hexadecimal, form_of, whole_cut, decimals_cut, hex_cut}
use Rattle.fm_bits.proofs.OddLemmas.{reduced_injective}
use Rattle.fm_bits.proofs.HexLemmas.{hex_injective}
use Rattle.fm_bits.proofs.TextLemmas.{IsSmall, whole_injective, whole_or_decimals, decimals_injective}

-- decimal digits up to a point, or a zero before an `x`
pub record IsDigital (text : List ℕ) : Type 0 where
  pub front : List ℕ
  pub mark : ℕ
  pub rest : List ℕ
  pub within : Within 48 57 front
  pub mark_is : (mark ≡ 46) ⊎ (mark ≡ 120)
  pub is : text ≡ front ++ mark ∷ rest

digital_of : (odd : ℕ) (e : ℤ) → Form odd e → IsDigital (magnitude_text odd e)
digital_of odd e (whole k p q h) = record {
  front = decimal (odd * 2 ^ k);
  mark = 46;
  rest = 48 ∷ [];
  within = decimal_within (odd * 2 ^ k);
  mark_is = inl refl;
  is = h ∙ whole_cut (odd * 2 ^ k);
}
digital_of odd e (decimals j p o q h) = record {
  front = decimal (odd / 2 ^ suc j);
  mark = 46;
  rest = fixed_digits 10 (suc j) (odd * 5 ^ suc j);
  within = decimal_within (odd / 2 ^ suc j);
  mark_is = inl refl;
  is = h ∙ decimals_cut odd (suc j);
}
digital_of odd e (hexadecimal o h) = record {
  front = 48 ∷ [];
  mark = 120;
  rest = _;
  within = (omega arith, omega arith, tt);
  mark_is = inr refl;
  is = h ∙ hex_cut odd e;
}

-- the mark of two texts that are the same is the same
mark_injective : (xs ys : List ℕ) (s t : ℕ) (us vs : List ℕ) → Within 48 57 xs → Within 48 57 ys → (s < 48) ⊎ (57 < s)
    → (t < 48) ⊎ (57 < t) → xs ++ s ∷ us ≡ ys ++ t ∷ vs → s ≡ t
mark_injective xs ys s t us vs h i p q e = (cut_injective 48 57 xs ys s t us vs h i p q e).1

-- the point and the `x` aren't the same
point_or_hex : (n : ℕ) (rest : List ℕ) (b : ℕ) (e : ℤ) → decimal n ++ 46 ∷ rest ≡ hex_text b e → ⊥
point_or_hex n rest b e h =
    let zero_within : Within 48 57 (48 ∷ []) = (omega arith, omega arith, tt) in
    let same = mark_injective (decimal n) (48 ∷ []) 46 120 rest _ (decimal_within n) zero_within (inl (omega arith))
    (inr (omega arith)) (h ∙ hex_cut b e) in
    absurd (omega arith)

-- two numbers by their forms
tells_by_form : (a b : ℕ) (d e : ℤ) → IsSmall a d → IsSmall b e → Form a d → Form b e
    → magnitude_text a d ≡ magnitude_text b e → (a ≡ b) × (d ≡ e)
tells_by_form a b d e m n (whole j p q h) (whole k r s i) t =
    let P : ℤ → Type 0 = λ x. Reduced a x in
    let Q : ℤ → Type 0 = λ x. Reduced b x in
    let parts =
    reduced_injective a b j k (subst P p m.reduced) (subst Q r n.reduced)
    (whole_injective (a * 2 ^ j) (b * 2 ^ k) q s (sym h ∙ t ∙ i)) in
    (parts.0, p ∙ ap pos parts.1 ∙ sym r)
tells_by_form a b d e m n (whole j p q h) (decimals k r o s i) t =
    absurd (whole_or_decimals (a * 2 ^ j) b k o (sym h ∙ t ∙ i))
tells_by_form a b d e m n (whole j p q h) (hexadecimal o i) t =
    absurd (point_or_hex (a * 2 ^ j) _ b e (sym (whole_cut (a * 2 ^ j)) ∙ sym h ∙ t ∙ i))
tells_by_form a b d e m n (decimals j p o q h) (whole k r s i) t =
    absurd (whole_or_decimals (b * 2 ^ k) a j o (sym i ∙ sym t ∙ h))
tells_by_form a b d e m n (decimals j p o q h) (decimals k r u s i) t =
    let parts = decimals_injective a b (suc j) (suc k) m.odd_in n.odd_in (sym h ∙ t ∙ i) in
    let same : j ≡ k = omega (arith, parts.1) in (parts.0, p ∙ ap negsuc same ∙ sym r)
tells_by_form a b d e m n (decimals j p o q h) (hexadecimal u i) t =
    absurd (point_or_hex (a / 2 ^ suc j) _ b e (sym (decimals_cut a (suc j)) ∙ sym h ∙ t ∙ i))
tells_by_form a b d e m n (hexadecimal o h) (whole k r s i) t =
    absurd (point_or_hex (b * 2 ^ k) _ a d (sym (whole_cut (b * 2 ^ k)) ∙ sym i ∙ sym t ∙ h))
tells_by_form a b d e m n (hexadecimal o h) (decimals k r u s i) t =
    absurd (point_or_hex (b / 2 ^ suc k) _ a d (sym (decimals_cut b (suc k)) ∙ sym i ∙ sym t ∙ h))
tells_by_form a b d e m n (hexadecimal o h) (hexadecimal u i) t =
    hex_injective a b d e o u m.odd_in n.odd_in m.exponent_in n.exponent_in (sym h ∙ t ∙ i)

magnitude_injective : (a b : ℕ) (d e : ℤ) → IsSmall a d → IsSmall b e → magnitude_text a d ≡ magnitude_text b e
    → (a ≡ b) × (d ≡ e)
magnitude_injective a b d e m n t = tells_by_form a b d e m n (form_of a d m.reduced) (form_of b e n.reduced) t

-- a text that doesn't begin with a sign
pub record IsUnsigned (text : List ℕ) : Type 0 where
  pub first : ℕ
  pub others : List ℕ
  pub is : text ≡ first ∷ others
  pub unsigned : first ≢ 45

digital_unsigned : (text : List ℕ) → IsDigital text → IsUnsigned text
digital_unsigned text d = by_front d.front d.mark d.rest d.within d.mark_is d.is
  where
    by_front : (front : List ℕ) (mark : ℕ) (rest : List ℕ) → Within 48 57 front → (mark ≡ 46) ⊎ (mark ≡ 120)
        → text ≡ front ++ mark ∷ rest → IsUnsigned text
    by_front [] mark rest h m e =
        record {
          first = mark;
          others = rest;
          is = e;
          unsigned =
              λ s. elim m [ inl p ↦ omega arith | inr p ↦ omega arith ];
        }
    by_front (x ∷ xs) mark rest h m e = record {
      first = x;
      others = xs ++ mark ∷ rest;
      is = e;
      unsigned =
          λ s. omega arith;
    }

-- signs before unsigned texts are the same where the texts with them are
sign_injective : (m n : Bool) (xs ys : List ℕ) → IsUnsigned xs → IsUnsigned ys → sign_text m ++ xs ≡ sign_text n ++ ys
    → (m ≡ n) × (xs ≡ ys)
sign_injective true true xs ys h i e = (refl, cc)
sign_injective true false xs ys h i e = absurd (i.unsigned (sym (first_injective 45 i.first xs i.others (e ∙ i.is))))
sign_injective false true xs ys h i e =
    absurd (h.unsigned (sym (first_injective 45 h.first ys h.others (sym e ∙ h.is))))
sign_injective false false xs ys h i e = (refl, e)

-- a number's text isn't a word
digital_or_word : (text : List ℕ) → IsDigital text → (c : ℕ) (cs : List ℕ) → 57 < c → c < 120 → text ≡ c ∷ cs → ⊥
digital_or_word text d c cs p q e =
    elim d.mark_is [
      | inl m ↦ let same =
          mark_injective d.front [] d.mark c d.rest cs d.within tt (inl (omega arith)) (inr p) (sym d.is
          ∙ e) in absurd (omega arith)
      | inr m ↦ let same =
          mark_injective d.front [] d.mark c d.rest cs d.within tt (inr (omega arith)) (inr p) (sym d.is
          ∙ e) in absurd (omega arith)
    ]

-- a value as patterns have it
abbrev pub IsSmallValue : Value → Type 0
IsSmallValue (Finite negative odd e) = IsSmall odd e
IsSmallValue (Infinite negative) = Unit {0}
IsSmallValue NotANumber = Unit {0}

infinity_unsigned : IsUnsigned (codes "Infinity")
infinity_unsigned = record { first = 73; others = codes "nfinity"; is = refl; unsigned = λ s. omega arith }

nan_unsigned : IsUnsigned (codes "NaN")
nan_unsigned = record { first = 78; others = codes "aN"; is = refl; unsigned = λ s. omega arith }

digital : (odd : ℕ) (e : ℤ) → IsSmall odd e → IsDigital (magnitude_text odd e)
digital odd e m = digital_of odd e (form_of odd e m.reduced)

finite_unsigned : (odd : ℕ) (e : ℤ) → IsSmall odd e → IsUnsigned (magnitude_text odd e)
finite_unsigned odd e m = digital_unsigned _ (digital odd e m)

-- a number's text is neither word
not_infinity : (odd : ℕ) (e : ℤ) → IsSmall odd e → magnitude_text odd e ≡ codes "Infinity" → ⊥
not_infinity odd e m t = digital_or_word _ (digital odd e m) 73 (codes "nfinity") (omega arith) (omega arith) t

not_nan : (odd : ℕ) (e : ℤ) → IsSmall odd e → magnitude_text odd e ≡ codes "NaN" → ⊥
not_nan odd e m t = digital_or_word _ (digital odd e m) 78 (codes "aN") (omega arith) (omega arith) t

pub value_text_injective : (v w : Value) → IsSmallValue v → IsSmallValue w → value_text v ≡ value_text w → v ≡ w
value_text_injective (Finite m a d) (Finite n b e) p q t =
    let parts = sign_injective m n _ _ (finite_unsigned a d p) (finite_unsigned b e q) t in
    let same = magnitude_injective a b d e p q parts.1 in
    let sign = parts.0 in let odd = same.0 in let exponent = same.1 in cc
value_text_injective (Finite m a d) (Infinite n) p q t =
    absurd (not_infinity a d p (sign_injective m n _ _ (finite_unsigned a d p) infinity_unsigned t).1)
value_text_injective (Finite m a d) NotANumber p q t =
    absurd (not_nan a d p (sign_injective m false _ _ (finite_unsigned a d p) nan_unsigned t).1)
value_text_injective (Infinite m) (Finite n b e) p q t =
    absurd (not_infinity b e q (sym (sign_injective m n _ _ infinity_unsigned (finite_unsigned b e q) t).1))
value_text_injective (Infinite m) (Infinite n) p q t =
    ap Infinite (sign_injective m n _ _ infinity_unsigned infinity_unsigned t).0
value_text_injective (Infinite m) NotANumber p q t =
    absurd (omega (arith, first_injective 73 78 _ _ (sign_injective m false _ _ infinity_unsigned nan_unsigned t).1))
value_text_injective NotANumber (Finite n b e) p q t =
    absurd (not_nan b e q (sym (sign_injective false n _ _ nan_unsigned (finite_unsigned b e q) t).1))
value_text_injective NotANumber (Infinite n) p q t =
    absurd (omega (arith, first_injective 78 73 _ _ (sign_injective false n _ _ nan_unsigned infinity_unsigned t).1))
value_text_injective NotANumber NotANumber p q t = refl
