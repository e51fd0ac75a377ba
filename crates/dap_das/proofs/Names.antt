-- Names that are the same once escaped are the same.
use Rattle.std.proofs.Common.{◌≡◌, ◌≢◌, ℕ, suc, ◌+◌, ◌*◌, ◌/◌, ◌%◌, ◌<◌, inl, inr, true, false, List, [], ◌∷◌, ◌++◌, get_or, sym, ap, ◌∙◌, arith, refl}
use Rattle.std.specs.Fmt.{digit_glyph}
use Rattle.std.specs.List.{flat_map}
use Rattle.std.proofs.lemmas.Bool.{cases_Bool, cond-true, cond-false}
use Rattle.std.proofs.lemmas.Bool.Decides.{nat_tests}
use Rattle.fm_base.specs.Name.{is_name_byte}
use Rattle.fm_base.proofs.ListLemmas.{turned}
use Rattle.dap_das.specs.AttributeText.{escaped_byte, escaped_name}

-- the percent sign stands in no name
percent_is_escaped : is_name_byte 37 ≡ false
unfolding is_name_byte
percent_is_escaped = refl

-- how a byte is written
data Block (b : ℕ) : Type 0 where
  plain : b ≢ 37 → escaped_byte b ≡ b ∷ [] → Block b
  marked : escaped_byte b ≡ 37 ∷ digit_glyph true (b / 16) ∷ digit_glyph true (b % 16) ∷ [] → Block b

-- a byte that stands in names isn't the percent sign
not_percent : (b : ℕ) → is_name_byte b ≡ true → b ≢ 37
not_percent b named is = absurd (cc (named, is, percent_is_escaped))

block_of : (b : ℕ) → Block b
unfolding escaped_byte
block_of b = elim (cases_Bool (is_name_byte b)) [
  | inl named ↦ plain (not_percent b named) (cond-true _ _ _ named)
  | inr other ↦ marked (cond-false _ _ _ other)
]

-- a digit is that of one number
glyph_injective : (c d : ℕ) → c < 16 → d < 16 → digit_glyph true c ≡ digit_glyph true d → c ≡ d
glyph_injective c d small few same = grind (arith, nat_tests)

-- two bytes by how they are written
by_blocks : (b c : ℕ) (us vs : List ℕ) → b < 256 → c < 256 → Block b → Block c
    → escaped_byte b ++ us ≡ escaped_byte c ++ vs → (b ≡ c) × (us ≡ vs)
by_blocks b c us vs p q (plain m h) (plain n i) e =
    let all : b ∷ us ≡ c ∷ vs = turned _ _ _ _ us vs h i e in (cc, cc)
by_blocks b c us vs p q (plain m h) (marked i) e =
    let all : b ∷ us ≡ 37 ∷ digit_glyph true (c / 16) ∷ digit_glyph true (c % 16) ∷ vs =
    turned _ _ _ _ us vs h i e in
    let first : b ≡ 37 = cc in absurd (m first)
by_blocks b c us vs p q (marked h) (plain n i) e =
    let all : 37 ∷ digit_glyph true (b / 16) ∷ digit_glyph true (b % 16) ∷ us ≡ c ∷ vs =
    turned _ _ _ _ us vs h i e in
    let first : c ≡ 37 = cc in absurd (n first)
by_blocks b c us vs p q (marked h) (marked i) e =
    let all : 37 ∷ digit_glyph true (b / 16) ∷ digit_glyph true (b % 16) ∷ us
    ≡ 37 ∷ digit_glyph true (c / 16) ∷ digit_glyph true (c % 16) ∷ vs = turned _ _ _ _ us vs h i e in
    let high : b / 16 ≡ c / 16 = glyph_injective (b / 16) (c / 16) (omega arith) (omega arith) cc in
    let low : b % 16 ≡ c % 16 = glyph_injective (b % 16) (c % 16) (omega arith) (omega arith) cc in
    let rest : us ≡ vs = cc in
    (omega (arith, high, low), rest)

-- no byte is written as nothing
not_nothing : (b : ℕ) (us : List ℕ) → Block b → escaped_byte b ++ us ≡ [] → ⊥
not_nothing b us (plain m h) e = let all : b ∷ us ≡ [] = turned _ _ [] _ us [] h refl e in absurd cc
not_nothing b us (marked h) e =
    let all : 37 ∷ digit_glyph true (b / 16) ∷ digit_glyph true (b % 16) ∷ us ≡ [] =
    turned _ _ [] _ us [] h refl e in absurd cc

bytes_injective : (xs ys : List ℕ) → ((i : ℕ) → get_or xs i 0 < 256) → ((i : ℕ) → get_or ys i 0 < 256)
    → flat_map escaped_byte xs ≡ flat_map escaped_byte ys → xs ≡ ys
bytes_injective [] [] p q e = refl
bytes_injective [] (y ∷ ys) p q e = absurd (not_nothing y _ (block_of y) (sym e))
bytes_injective (x ∷ xs) [] p q e = absurd (not_nothing x _ (block_of x) e)
bytes_injective (x ∷ xs) (y ∷ ys) p q e =
    let parts = by_blocks x y _ _ (p 0) (q 0) (block_of x) (block_of y) e in
    let rest = bytes_injective xs ys (λ i. p (suc i)) (λ i. q (suc i)) parts.1 in
    let first = parts.0 in cc

pub escaped_name_injective : (xs ys : List ℕ) → ((i : ℕ) → get_or xs i 0 < 256) → ((i : ℕ) → get_or ys i 0 < 256)
    → escaped_name xs ≡ escaped_name ys → xs ≡ ys
unfolding escaped_name
escaped_name_injective xs ys p q e = bytes_injective xs ys p q e
