-- What the values of options and positionals say.
use Rattle.std.specs.Prelude.{ℕ, ◌^◌, Bool, ◌&&◌, nat_eq, nat_le, nat_lt, List, ◌++◌, length, drop, codes, Option, Some, None, ℤ, pos, neg_ℤ, ◌-ℤ◌, int_le}
use Rattle.std.specs.Fmt.{decimal}
use Rattle.std.specs.List.{list_all, starts_with}
use Rattle.std.specs.Option.{option_and_then}
use Rattle.std.specs.Str.{bytes_eq}
use Rattle.std.specs.Str.Parse.{digits_value}
use Rattle.nc_model.specs.Instant.{instant_of}
use Rattle.fm_model.specs.LoadTimes.{is_instant}
use Rattle.fm_model.specs.Prototype.{is_plain_name}
use Rattle.srv_words.specs.Reads.{if_so}

-- the number of 32 bits of which a text is the decimal, without sign or leading zeros
unfoldable pub decimal_of : List ℕ → Option ℕ
decimal_of text = let n : ℕ = digits_value 10 text in if_so (bytes_eq text (decimal n) && nat_lt n (2 ^ 32)) n

-- the number, where it lies in the range
unfoldable pub in_range : ℕ → ℕ → ℕ → Option ℕ
in_range least most n = if_so (nat_le least n && nat_le n most) n

-- the number in a range of which a text is the decimal
unfoldable pub number_in : ℕ → ℕ → List ℕ → Option ℕ
number_in least most text = option_and_then (in_range least most) (decimal_of text)

-- whether a collection may have this name: 1 to 64 letters, digits, `_` and `-`
unfoldable pub is_collection_name : List ℕ → Bool
is_collection_name name = nat_le 1 (length name) && nat_le (length name) 64 && is_plain_name name

-- whether an instant lies in the years 100 to 9900
unfoldable pub is_epoch : ℤ → Bool
is_epoch t = int_le (neg_ℤ (pos 59_011_459_200)) t && int_le t (pos 250_278_163_199)

-- an instant of these years
unfoldable pub epoch_at : ℤ → Option ℤ
epoch_at t = if_so (is_epoch t) t

-- the epoch that a text writes, and 2020-01-01T00:00:00Z where there is none
unfoldable pub epoch_of : Option (List ℕ) → Option ℤ
epoch_of None = Some (pos 1_577_836_800)
epoch_of (Some text) = option_and_then epoch_at (instant_of text)

-- the mark of a collection of this name, where none is given
abbrev pub default_mark : List ℕ → List ℕ
default_mark name = name ++ codes "_"

-- the mark, which has at most 64 bytes, and the default one where there is none
unfoldable pub mark_of : List ℕ → Option (List ℕ) → Option (List ℕ)
mark_of name None = Some (default_mark name)
mark_of name (Some mark) = if_so (nat_le (length mark) 64) mark

-- whether a byte is a visible character of ASCII
abbrev pub is_visible_byte : ℕ → Bool
is_visible_byte byte = nat_le 0x21 byte && nat_le byte 0x7e

-- whether a text has 1 to that many visible characters of ASCII, and nothing else
unfoldable pub is_visible : ℕ → List ℕ → Bool
is_visible most text = nat_le 1 (length text) && nat_le (length text) most && list_all is_visible_byte text

-- a text of this form
unfoldable pub visible_of : ℕ → List ℕ → Option (List ℕ)
visible_of most text = if_so (is_visible most text) text

-- the text after this front, where it isn't empty
unfoldable pub rest_of : List ℕ → List ℕ → Option (List ℕ)
rest_of front text =
    if_so (starts_with nat_eq text front && nat_lt (length front) (length text)) (drop (length front) text)

-- seconds from an epoch, where they are an instant that a collection may have
unfoldable pub if_instant : ℤ → Option ℤ
if_instant seconds = if_so (is_instant seconds) seconds

-- an instant as seconds from an epoch, where a collection may have it
unfoldable pub from_epoch : ℤ → ℤ → Option ℤ
from_epoch epoch t = if_instant (t -ℤ epoch)
