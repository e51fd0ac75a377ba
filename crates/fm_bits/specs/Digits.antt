-- Digits of whole numbers, as texts.
use Rattle.std.specs.Prelude.{ℕ, zero, suc, ◌/◌, ◌%◌, false, List, [], ◌∷◌, ◌++◌}
use Rattle.std.specs.Fmt.{digit_glyph}

-- the last `count` digits of a number in a base, with zeros in front
unfoldable pub fixed_digits : ℕ → ℕ → ℕ → List ℕ
fixed_digits base zero n = []
fixed_digits base (suc count) n = fixed_digits base count (n / base) ++ digit_glyph false (n % base) ∷ []
