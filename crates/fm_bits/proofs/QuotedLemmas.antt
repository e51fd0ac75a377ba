-- Texts that are the same between quotation marks are the same.
use Rattle.std.proofs.Common.{◌≡◌, ◌≢◌, ℕ, suc, ◌/◌, ◌%◌, ◌<◌, ◌⊎◌, inl, inr, ◌||◌, ◌==◌, nat_lt, false, List, [], ◌∷◌, ◌++◌, get_or, sym, ap, ◌∙◌, arith, refl}
use Rattle.std.specs.Fmt.{digit_glyph}
use Rattle.std.specs.List.{flat_map}
use Rattle.std.proofs.lemmas.Bool.{cases_Bool, cond-true, cond-false, or_cases, or_parts, eqb-true, eqb-false}
use Rattle.std.proofs.lemmas.List.{append_assoc}
use Rattle.fm_base.proofs.ListLemmas.{turned}
use Rattle.fm_bits.specs.Digits.{fixed_digits}
use Rattle.fm_bits.specs.Quoted.{escaped, quoted}
use Rattle.fm_bits.proofs.DigitLemmas.{glyph_within, fixed_digits_injective, first_injective}

-- how a byte is written
data Block (b : ℕ) : Type 0 where
  marked : (b ≡ 34) ⊎ (b ≡ 92) → escaped b ≡ 92 ∷ b ∷ [] → Block b
  octal : escaped b ≡ 92 ∷ fixed_digits 8 3 b → Block b
  plain : b ≢ 34 → b ≢ 92 → escaped b ≡ b ∷ [] → Block b

block_of : (b : ℕ) → Block b
unfolding escaped
block_of b =
    elim (cases_Bool (b == 34 || b == 92)) [
      | inl t ↦
          marked (elim (or_cases (b == 34) (b == 92) t) [
            | inl p ↦ inl (eqb-true b 34 p)
            | inr p ↦
                inr (eqb-true b 92 p)
          ]) (cond-true _ _ _ t)
      | inr f ↦
          let apart = or_parts (b == 34) (b == 92) f in
          elim (cases_Bool (nat_lt b 32 || nat_lt 126 b)) [
            | inl t ↦ octal (cond-false _ _ _ f ∙ cond-true _ _ _ t)
            | inr g ↦ plain (eqb-false b 34 apart.0) (eqb-false b 92 apart.1) (cond-false _ _ _ f ∙ cond-false _ _ _ g)
          ]
    ]

-- three octal digits
three_digits : (n : ℕ)
    → fixed_digits 8 3 n ≡ digit_glyph false (n / 8 / 8 % 8) ∷ digit_glyph false (n / 8 % 8) ∷ digit_glyph false
    (n % 8) ∷ []
unfolding fixed_digits
three_digits n = refl

octal_injective : (b c : ℕ) (us vs : List ℕ) → b < 256 → c < 256
    → 92 ∷ (fixed_digits 8 3 b ++ us) ≡ 92 ∷ (fixed_digits 8 3 c ++ vs) → (b ≡ c) × (us ≡ vs)
octal_injective b c us vs p q e =
    let x = digit_glyph false (b / 8 / 8 % 8) in
    let y = digit_glyph false (b / 8 % 8) in
    let z = digit_glyph false (b % 8) in
    let x' = digit_glyph false (c / 8 / 8 % 8) in
    let y' = digit_glyph false (c / 8 % 8) in
    let z' = digit_glyph false (c % 8) in
    let all : 92 ∷ x ∷ y ∷ z ∷ us ≡ 92 ∷ x' ∷ y' ∷ z' ∷ vs =
    ap (λ (d : List ℕ). 92 ∷ (d ++ us)) (sym (three_digits b)) ∙ e
    ∙ ap (λ (d : List ℕ). 92 ∷ (d ++ vs)) (three_digits c) in
    let digits : x ∷ y ∷ z ∷ [] ≡ x' ∷ y' ∷ z' ∷ [] = cc in
    let low = fixed_digits_injective 8 3 b c (omega arith) (omega arith) (three_digits b ∙ digits
    ∙ sym (three_digits c)) in
    let same : b ≡ c = omega arith in
    (same, cc)

-- a mark before a byte isn't a mark before digits
marked_or_octal : (b c : ℕ) (us vs : List ℕ) → (b ≡ 34) ⊎ (b ≡ 92) → 92 ∷ b ∷ us ≡ 92 ∷ (fixed_digits 8 3 c ++ vs) → ⊥
marked_or_octal b c us vs p e =
    let x = digit_glyph false (c / 8 / 8 % 8) in
    let first = glyph_within 8 (c / 8 / 8 % 8) (omega arith) (omega arith) in
    let all = e ∙ ap (λ (d : List ℕ). 92 ∷ (d ++ vs)) (three_digits c) in
    let same : b ≡ x = cc in
    let high = first.2 (omega arith) in
    elim p [ inl m ↦ omega (arith, first.0) | inr m ↦ omega arith ]

-- a plain byte isn't the mark
plain_or_mark : (c : ℕ) (us vs : List ℕ) → c ≢ 92 → 92 ∷ us ≡ c ∷ vs → ⊥
plain_or_mark c us vs n e = n (sym (first_injective 92 c us vs e))

-- two bytes by how they are written
by_blocks : (b c : ℕ) (us vs : List ℕ) → b < 256 → c < 256 → Block b → Block c → escaped b ++ us ≡ escaped c ++ vs
    → (b ≡ c) × (us ≡ vs)
by_blocks b c us vs p q (marked m h) (marked n i) e =
    let all : 92 ∷ b ∷ us ≡ 92 ∷ c ∷ vs = turned _ _ _ _ us vs h i e in (cc, cc)
by_blocks b c us vs p q (marked m h) (octal i) e = absurd (marked_or_octal b c us vs m (turned _ _ _ _ us vs h i e))
by_blocks b c us vs p q (marked m h) (plain n o i) e =
    absurd (plain_or_mark c (b ∷ us) vs o (turned _ _ _ _ us vs h i e))
by_blocks b c us vs p q (octal h) (marked n i) e =
    absurd (marked_or_octal c b vs us n (sym (turned _ _ _ _ us vs h i e)))
by_blocks b c us vs p q (octal h) (octal i) e = octal_injective b c us vs p q (turned _ _ _ _ us vs h i e)
by_blocks b c us vs p q (octal h) (plain n o i) e =
    absurd (plain_or_mark c (fixed_digits 8 3 b ++ us) vs o (turned _ _ _ _ us vs h i e))
by_blocks b c us vs p q (plain m o h) (marked n i) e =
    absurd (plain_or_mark b (c ∷ vs) us o (sym (turned _ _ _ _ us vs h i e)))
by_blocks b c us vs p q (plain m o h) (octal i) e =
    absurd (plain_or_mark b (fixed_digits 8 3 c ++ vs) us o (sym (turned _ _ _ _ us vs h i e)))
by_blocks b c us vs p q (plain m o h) (plain n r i) e =
    let all : b ∷ us ≡ c ∷ vs = turned _ _ _ _ us vs h i e in (cc, cc)

-- no byte is written with a quotation mark in front
not_end : (b : ℕ) (us vs : List ℕ) → Block b → escaped b ++ us ≡ 34 ∷ vs → ⊥
not_end b us vs (marked m h) e =
    let all : 92 ∷ b ∷ us ≡ 34 ∷ vs = turned _ _ (34 ∷ []) _ us vs h refl e in
    absurd (omega (arith, first_injective 92 34 _ _ all))
not_end b us vs (octal h) e =
    let all : 92 ∷ (fixed_digits 8 3 b ++ us) ≡ 34 ∷ vs = turned _ _ (34 ∷ []) _ us vs h refl e in
    absurd (omega (arith, first_injective 92 34 _ _ all))
not_end b us vs (plain m o h) e = let all : b ∷ us ≡ 34 ∷ vs = turned _ _ (34 ∷ []) _ us vs h refl e in
    m (first_injective b 34 us vs all)

bytes_injective : (xs ys : List ℕ) → ((i : ℕ) → get_or xs i 0 < 256) → ((i : ℕ) → get_or ys i 0 < 256)
    → flat_map escaped xs ++ 34 ∷ [] ≡ flat_map escaped ys ++ 34 ∷ [] → xs ≡ ys
bytes_injective [] [] p q e = refl
bytes_injective [] (y ∷ ys) p q e =
    absurd (not_end y _ [] (block_of y) (sym (e ∙ append_assoc (escaped y) (flat_map escaped ys) (34 ∷ []))))
bytes_injective (x ∷ xs) [] p q e =
    absurd (not_end x _ [] (block_of x) (sym (append_assoc (escaped x) (flat_map escaped xs) (34 ∷ [])) ∙ e))
bytes_injective (x ∷ xs) (y ∷ ys) p q e =
    let joined = λ (z : ℕ) (zs : List ℕ). append_assoc (escaped z) (flat_map escaped zs) (34 ∷ []) in
    let parts = by_blocks x y _ _ (p 0) (q 0) (block_of x) (block_of y) (sym (joined x xs) ∙ e ∙ joined y ys) in
    let rest = bytes_injective xs ys (λ i. p (suc i)) (λ i. q (suc i)) parts.1 in
    let first = parts.0 in cc

pub quoted_injective : (xs ys : List ℕ) → ((i : ℕ) → get_or xs i 0 < 256) → ((i : ℕ) → get_or ys i 0 < 256)
    → quoted xs ≡ quoted ys → xs ≡ ys
unfolding quoted
quoted_injective xs ys p q e =
    let inner : flat_map escaped xs ++ 34 ∷ [] ≡ flat_map escaped ys ++ 34 ∷ [] = cc in bytes_injective xs ys p q inner
