-- Texts between quotation marks, as in the attributes and errors of DAP 2.0.
use Rattle.std.specs.Prelude.{ℕ, List, [], ◌∷◌, ◌++◌, nat_lt, ◌||◌, ◌==◌, if◌then◌else◌}
use Rattle.std.specs.List.{flat_map}
use Rattle.fm_bits.specs.Digits.{fixed_digits}

-- the quotation mark
abbrev pub QUOTE : ℕ
QUOTE = 34

-- the backslash
abbrev pub BACKSLASH : ℕ
BACKSLASH = 92

-- a byte within quotation marks: `"` and `\` after a backslash, what isn't printable as three octal digits after one
unfoldable pub escaped : ℕ → List ℕ
escaped byte =
    if byte == QUOTE || byte == BACKSLASH then BACKSLASH ∷ byte ∷ [] else (
    if nat_lt byte 32 || nat_lt 126 byte then BACKSLASH ∷ fixed_digits 8 3 byte else byte ∷ [])

-- a text between quotation marks
unfoldable pub quoted : List ℕ → List ℕ
quoted text = QUOTE ∷ [] ++ flat_map escaped text ++ QUOTE ∷ []
