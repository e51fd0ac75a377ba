-- Percent escapes in a target (RFC 3986, section 2.1).
use Rattle.std.specs.Prelude.{ℕ, suc, Bool, false, ◌&&◌, ◌==◌, not, if◌then◌else◌, List, [], ◌∷◌, Option, Some, None, option_map}
use Rattle.std.specs.Char.{is_digit}

-- the byte `%`
abbrev pub percent : ℕ
percent = 37

-- the bytes begin with two hexadecimal digits
abbrev pub begins_with_two_digits : List ℕ → Bool
begins_with_two_digits [] = false
begins_with_two_digits (high ∷ []) = false
begins_with_two_digits (high ∷ low ∷ bytes) = is_digit high 16 && is_digit low 16

-- the index of the first `%` without two hexadecimal digits after it
abbrev pub bad_escape : List ℕ → Option ℕ
bad_escape [] = None
bad_escape (b ∷ bytes) = if b == percent && not (begins_with_two_digits bytes) then Some 0
    else option_map suc (bad_escape bytes)
