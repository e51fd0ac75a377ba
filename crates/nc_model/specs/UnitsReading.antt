-- Reading units of time from left to right, with the offset of the first fault. A number is the longest run of digits
-- at its offset, up to its most digits, and is tested whatever follows it. A unit word is the longest run of letters.
use Rattle.std.specs.Prelude.{ℕ, ◌+◌, ◌*◌, List, [], ◌∷◌, length, take, drop, codes, slice_get, Bool, true, false, ◌&&◌, ◌||◌, ◌==◌, nat_lt, if◌then◌else◌, Option, Some, None, unwrap_or, Result, Ok, Err, ℤ, pos, neg_ℤ, ◌-ℤ◌}
use Rattle.std.specs.Char.{is_ascii_alphabetic, is_ascii_digit, eq_ignore_ascii_case}
use Rattle.std.specs.List.{prefix_len}
use Rattle.std.specs.Option.{option_map_or}
use Rattle.std.specs.Str.{str_eq_ignore_ascii_case}
use Rattle.nc_model.specs.declared.units.UnitsFault.{UnitsFault}
use Rattle.nc_model.specs.declared.units.UnitsFault.TheVariants.{BadUnits}
use Rattle.jiff_core.specs.Calendar.{days_from_civil}
use Rattle.nc_model.specs.Calendar.{day_number, time_seconds}
use Rattle.fm_base.specs.Chain.{fault_as}
use Rattle.fm_base.specs.Input.{Input, whole}
use Rattle.fm_base.specs.Parser.{Outcome, Parser, ◌>>=◌, pure, located, unless, known, value_of}
use Rattle.nc_model.specs.Stamp.{number_of}

-- a parser of a part of a text, whose fault is the offset at which the text goes wrong
abbrev pub UnitsParser : Type 0 → Type 0
UnitsParser A = Parser A ℕ

abbrev pub UnitsOutcome : Type 0 → Type 0
UnitsOutcome A = Outcome A ℕ

-- the input after n bytes more
abbrev pub past : ℕ → Input → Input
past n i = record { at = i.at + n; rest = drop n i.rest }

-- whether there is a next byte, and it passes
abbrev pub next_passes : (ℕ → Bool) → Input → Bool
next_passes test i = option_map_or test (slice_get i.rest 0) false

-- whether the next byte is this one
abbrev pub next_is : ℕ → Input → Bool
next_is byte i = next_passes (λ other. other == byte) i

-- whether the next byte is this letter in either case
abbrev pub next_is_letter : ℕ → Input → Bool
next_is_letter letter i = next_passes (λ other. eq_ignore_ascii_case other letter) i

-- whether a digit follows, where one may
abbrev pub digit_follows : Bool → Input → Bool
digit_follows may i = next_passes (λ other. may && is_ascii_digit other) i

-- whether the text has ended
abbrev pub has_ended : Input → Bool
has_ended i = length i.rest == 0

-- the end of the text
unfoldable pub end_at : UnitsParser (Unit {0})
end_at = λ i. if has_ended i then Ok (tt, i) else Err i.at

-- this byte
unfoldable pub byte_at : ℕ → UnitsParser (Unit {0})
byte_at byte = λ i. if next_is byte i then Ok (tt, past 1 i) else Err i.at

-- this letter in either case
unfoldable pub letter_at : ℕ → UnitsParser (Unit {0})
letter_at letter = λ i. if next_is_letter letter i then Ok (tt, past 1 i) else Err i.at

-- these letters in either case
abbrev pub letters_at : List ℕ → UnitsParser (Unit {0})
letters_at [] = pure tt
letters_at (letter ∷ letters) = letter_at letter >>= λ done. letters_at letters

-- the longest run of bytes that pass, up to `most` of them
abbrev pub run_at : (ℕ → Bool) → ℕ → UnitsParser (List ℕ)
run_at test most = λ i. Ok (
  take (prefix_len test (take most i.rest)) i.rest,
  past (prefix_len test (take most i.rest)) i,
)

-- how many times this byte stands there
unfoldable pub many_at : ℕ → UnitsParser ℕ
many_at byte = λ i. Ok (prefix_len (λ other. other == byte) i.rest, past (prefix_len (λ other. other == byte) i.rest) i)

-- the same, where it stands there at least once
unfoldable pub some_at : ℕ → UnitsParser ℕ
some_at byte = many_at byte >>= λ count. located (λ at. unless (count == 0) at count)

-- any number of spaces
abbrev pub spaces_at : UnitsParser ℕ
spaces_at = many_at 32

-- one space or more
abbrev pub gap_at : UnitsParser ℕ
gap_at = some_at 32

-- The digits of a number from `low` to `high`, at least `fewest` and at most `most` of them. Where the reading isn't
-- strict, numbers may be out of their ranges, days need not exist, and words need not be units.
unfoldable pub digits_at : Bool → ℕ → ℕ → ℕ → ℕ → UnitsParser (List ℕ)
digits_at strict fewest most low high =
    located (λ at. run_at is_ascii_digit most
    >>= λ digits. unless (strict && (nat_lt (number_of digits) low || nat_lt high (number_of digits))) at digits
    >>= λ digits. located (λ end. unless (nat_lt (length digits) fewest) end digits))

-- a number from `low` to `high` of at least `fewest` and at most `most` digits
unfoldable pub number_at : Bool → ℕ → ℕ → ℕ → ℕ → UnitsParser ℕ
number_at strict fewest most low high = digits_at strict fewest most low high >>= λ digits. pure (number_of digits)

-- whether two words are the same but for the case of their letters
unfoldable pub is_same_word : List ℕ → List ℕ → Bool
is_same_word word other = str_eq_ignore_ascii_case word other

unfoldable pub is_second : List ℕ → Bool
is_second word = is_same_word word (codes "second") || is_same_word word (codes "seconds")
    || is_same_word word (codes "sec") || is_same_word word (codes "secs") || is_same_word word (codes "s")

unfoldable pub is_minute : List ℕ → Bool
is_minute word = is_same_word word (codes "minute") || is_same_word word (codes "minutes")
    || is_same_word word (codes "min") || is_same_word word (codes "mins")

unfoldable pub is_hour : List ℕ → Bool
is_hour word = is_same_word word (codes "hour") || is_same_word word (codes "hours") || is_same_word word (codes "hr")
    || is_same_word word (codes "hrs") || is_same_word word (codes "h")

unfoldable pub is_day : List ℕ → Bool
is_day word = is_same_word word (codes "day") || is_same_word word (codes "days") || is_same_word word (codes "d")

-- the seconds of the unit that a word names
unfoldable pub seconds_per : List ℕ → Option ℕ
seconds_per word = if is_second word then Some 1
    else (if is_minute word then Some 60
    else (if is_hour word then Some 3600
    else (if is_day word then Some 86_400 else None)))

-- the seconds of the unit that a word names; where the reading isn't strict, 0 of a word that names none
abbrev pub unit_of : Bool → List ℕ → Option ℕ
unit_of true word = seconds_per word
unit_of false [] = None
unit_of false (letter ∷ letters) = Some (unwrap_or (seconds_per (letter ∷ letters)) 0)

-- the seconds of a unit
unfoldable pub unit_at : Bool → UnitsParser ℕ
unit_at strict = located
    (λ at. (λ i. run_at is_ascii_alphabetic (length i.rest) i) >>= λ word. known at (unit_of strict word))

-- the day number of a day of this month; where the reading isn't strict, of days that don't exist too
abbrev pub day_of : Bool → ℕ → ℕ → ℕ → Option ℤ
day_of true year month day = day_number year month day
day_of false year month day = Some (days_from_civil (pos year) month day)

-- the day number of a date, from the day of this month
unfoldable pub day_at : Bool → ℕ → ℕ → ℕ → UnitsParser ℤ
day_at strict fewest year month = located
    (λ at. digits_at strict fewest 2 1 31 >>= λ digits. known at (day_of strict year month (number_of digits)))

-- the day number of a date, from the dash after its year
unfoldable pub dashed_day_at : Bool → ℕ → UnitsParser ℤ
dashed_day_at strict year =
    byte_at 45 >>= λ dash. number_at strict 1 2 1 12 >>= λ month. byte_at 45 >>= λ dash. day_at strict 1 year month

-- the day number of a date without dashes, from its month of two digits
unfoldable pub joined_day_at : Bool → ℕ → UnitsParser ℤ
joined_day_at strict year = number_at strict 2 2 1 12 >>= λ month. day_at strict 2 year month

-- the day number of a date, from what follows the digits of its year: after four digits a fifth begins the month
unfoldable pub after_year_at : Bool → List ℕ → UnitsParser ℤ
after_year_at strict year = λ i. if digit_follows (length year == 4) i then joined_day_at strict (number_of year) i
    else dashed_day_at strict (number_of year) i

-- the day number of a date
unfoldable pub date_at : Bool → UnitsParser ℤ
date_at strict = digits_at strict 1 4 0 9999 >>= λ year. after_year_at strict year

-- a point and zeros, or nothing
unfoldable pub fraction_at : UnitsParser ℕ
fraction_at = λ i. if next_is 46 i then (byte_at 46 >>= λ point. some_at 48) i else Ok (0, i)

-- the second of a time, 0 where it is left out
unfoldable pub second_at : Bool → UnitsParser ℕ
second_at strict = λ i. if next_is 58 i then
    (byte_at 58 >>= λ colon. number_at strict 1 2 0 59 >>= λ second. fraction_at >>= λ zeros. pure second) i
    else Ok (0, i)

-- the seconds of the minute and the second of a time, 0 where they are left out
unfoldable pub past_hour_at : Bool → UnitsParser ℕ
past_hour_at strict = λ i. if next_is 58 i then
    (byte_at 58 >>= λ colon. number_at strict 1 2 0 59 >>= λ minute. second_at strict >>= λ second.
    pure (minute * 60 + second)) i
    else Ok (0, i)

-- the seconds from midnight to a time of day
unfoldable pub time_of_day_at : Bool → UnitsParser ℕ
time_of_day_at strict = number_at strict 1 2 0 23 >>= λ hour. past_hour_at strict >>= λ past. pure (hour * 3600 + past)

-- the minutes of a zone after a colon
unfoldable pub colon_minute_at : Bool → UnitsParser ℕ
colon_minute_at strict = byte_at 58 >>= λ colon. number_at strict 2 2 0 59

-- The minutes of a zone, from what follows the digits of its hours, 0 where they are left out: after two digits a third
-- begins the minutes.
unfoldable pub zone_minute_at : Bool → List ℕ → UnitsParser ℕ
zone_minute_at strict hours = λ i. if digit_follows (length hours == 2) i then number_at strict 2 2 0 59 i
    else (if next_is 58 i then colon_minute_at strict i else Ok (0, i))

-- the seconds of a zone's hours and minutes
unfoldable pub distance_at : Bool → UnitsParser ℕ
distance_at strict = digits_at strict 1 2 0 23 >>= λ hours. zone_minute_at strict hours >>= λ minute.
    pure (time_seconds (number_of hours) minute 0)

-- the seconds of a zone to the east that has no sign
unfoldable pub shift_at : Bool → UnitsParser ℤ
shift_at strict = number_at strict 1 2 0 23 >>= λ hour. colon_minute_at strict >>= λ minute.
    pure (pos (time_seconds hour minute 0))

-- the seconds by which the clocks of a zone are ahead of UTC
unfoldable pub zone_at : Bool → UnitsParser ℤ
zone_at strict = λ i. if next_is 43 i then
    (byte_at 43 >>= λ plus. distance_at strict >>= λ distance. pure (pos distance)) i
    else (if next_is 45 i then
    (byte_at 45 >>= λ minus. distance_at strict >>= λ distance. pure (neg_ℤ (pos distance))) i
    else (if next_is_letter 122 i then (letter_at 122 >>= λ zulu. pure (pos 0)) i
    else (if next_is_letter 103 i then (letters_at (codes "gmt") >>= λ gmt. pure (pos 0)) i
    else (letters_at (codes "utc") >>= λ utc. pure (pos 0)) i)))

-- a zone, which may lack its sign after a gap
unfoldable pub zone_after : Bool → ℕ → UnitsParser ℤ
zone_after strict gap = λ i. if digit_follows (nat_lt 0 gap) i then shift_at strict i else zone_at strict i

-- a zone up to the end of the text, UTC where it is left out
unfoldable pub last_zone_at : Bool → UnitsParser ℤ
last_zone_at strict = spaces_at >>= λ gap. λ i. if has_ended i then Ok (pos 0, i)
    else (zone_after strict gap >>= λ zone. spaces_at >>= λ gap. end_at >>= λ end. pure zone) i

-- a time with its zone up to the end of the text, as the seconds from the midnight in UTC that begins its date
unfoldable pub clock_at : Bool → UnitsParser ℤ
clock_at strict = time_of_day_at strict >>= λ time. last_zone_at strict >>= λ zone. pure (pos time -ℤ zone)

-- what follows a date up to the end of the text, which is midnight in UTC where there is no time
unfoldable pub after_date_at : Bool → UnitsParser ℤ
after_date_at strict = λ i. if next_is_letter 116 i then (letter_at 116 >>= λ t. clock_at strict) i
    else (spaces_at >>= λ gap. λ j. if has_ended j then Ok (pos 0, j)
    else (if gap == 0 then Err j.at else clock_at strict j)) i

-- the seconds of the unit, the day number of the date, and the seconds from the midnight in UTC that begins that date
-- to the origin
pub record Written : Type 0 where
  pub per : ℕ
  pub day : ℤ
  pub seconds : ℤ

-- units of time, up to the end of the text
unfoldable pub units_at : Bool → UnitsParser Written
units_at strict = do
  front ← spaces_at
  per ← unit_at strict
  gap ← gap_at
  since ← letters_at (codes "since")
  gap ← gap_at
  day ← date_at strict
  seconds ← after_date_at strict
  pure (record { per = per; day = day; seconds = seconds })

-- what a text says, or the offset at which it goes wrong
unfoldable pub written_or_fault : List ℕ → Result Written UnitsFault
written_or_fault text = fault_as BadUnits (value_of (units_at true (whole text)))
