-- Moments that are written with a fixed number of digits.
use Rattle.std.specs.Prelude.{ℕ, ◌+◌, ◌-◌, ◌*◌, List, [], ◌∷◌, length, take, drop, codes, Bool, true, false, ◌&&◌, ◌==◌, nat_eq, if◌then◌else◌, Option, None, ℤ}
use Rattle.std.specs.Char.{is_ascii_digit}
use Rattle.std.specs.List.{starts_with}
use Rattle.nc_model.specs.Calendar.{moment_of}

-- the number that decimal digits write after those of n
abbrev pub number_after : ℕ → List ℕ → ℕ
number_after n [] = n
number_after n (digit ∷ digits) = number_after (n * 10 + (digit - 48)) digits

-- the number that decimal digits write
abbrev pub number_of : List ℕ → ℕ
number_of digits = number_after 0 digits

-- whether a byte stands where a form has this one: the byte `0` of a form stands for any digit, any other for itself
abbrev pub is_like : ℕ → ℕ → Bool
is_like sample byte = if sample == 48 then is_ascii_digit byte else byte == sample

-- whether a text begins in this form
abbrev pub begins_in_form : List ℕ → List ℕ → Bool
begins_in_form [] text = true
begins_in_form (sample ∷ form) [] = false
begins_in_form (sample ∷ form) (byte ∷ text) = is_like sample byte && begins_in_form form text

-- the number that `count` digits write from an offset on
unfoldable pub number_at : List ℕ → ℕ → ℕ → ℕ
number_at text from count = number_of (take count (drop from text))

-- the form `yyyyMMdd_HHmm`
unfoldable pub stamp_form : List ℕ
stamp_form = codes "00000000_0000"

-- the Unix seconds of the moment, in UTC, whose `yyyyMMdd_HHmm` a text begins with
unfoldable pub stamp_of : List ℕ → Option ℤ
stamp_of text = if begins_in_form stamp_form text
    then moment_of (number_at text 0 4) (number_at text 4 2) (number_at text 6 2)
    (number_at text 9 2) (number_at text 11 2) 0
    else None

-- the Unix seconds of the moment whose `yyyyMMdd_HHmm` follows this prefix of a name
unfoldable pub mark_of : List ℕ → List ℕ → Option ℤ
mark_of name prefix = if starts_with nat_eq name prefix then stamp_of (drop (length prefix) name) else None
