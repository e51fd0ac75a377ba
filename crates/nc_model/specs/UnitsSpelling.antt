-- How units of time are spelled (CF Conventions, after UDUNITS): `UNIT since DATE`, and after it nothing, or a time and
-- then nothing or a zone. Letters of the words may be in either case. A date may have no dashes, a time its hour alone,
-- and a zone no colon, or after a gap no sign. Where the spelling is strict, numbers are in their ranges, days exist
-- and words are units; else texts of the same form count too.
use Rattle.std.specs.Prelude.{◌≡◌, ◌⊎◌, ℕ, suc, ◌+◌, ◌*◌, ◌≤◌, List, [], ◌∷◌, ◌++◌, length, replicate, codes, Bool, true, IsTrue, Some, ℤ, pos, neg_ℤ, ◌-ℤ◌}
use Rattle.std.specs.Char.{is_ascii_alphabetic, is_ascii_digit}
use Rattle.std.specs.List.{list_all}
use Rattle.nc_model.specs.Calendar.{time_seconds}
use Rattle.nc_model.specs.Stamp.{number_of}
use Rattle.nc_model.specs.UnitsReading.{Written, unit_of, day_of, is_same_word}

-- one text after the other
abbrev pub joined : List (List ℕ) → List ℕ
joined [] = []
joined (text ∷ []) = text
joined (text ∷ next ∷ texts) = text ++ joined (next ∷ texts)

-- any number of spaces
pub record AreSpaces (text : List ℕ) : Type 0 where
  pub count : ℕ
  pub text_is : text ≡ replicate count 32

-- one space or more
pub record IsGap (text : List ℕ) : Type 0 where
  pub more : ℕ
  pub text_is : text ≡ replicate (suc more) 32

-- this word in letters of either case
abbrev pub IsWord : List ℕ → List ℕ → Type 0
IsWord word text = IsTrue (is_same_word text word)

-- a number from `low` to `high` of at least `fewest` and at most `most` digits
pub record SpellsNumberWithin (strict : Bool) (fewest most low high : ℕ) (text : List ℕ) (number : ℕ) : Type 0 where
  pub digits : IsTrue (list_all is_ascii_digit text)
  pub enough : fewest ≤ length text
  pub few : length text ≤ most
  pub value : number_of text ≡ number
  pub low_is : strict ≡ true → low ≤ number
  pub high_is : strict ≡ true → number ≤ high

-- digits that spell such a number
abbrev pub AreDigitsWithin : Bool → ℕ → ℕ → ℕ → ℕ → List ℕ → Type 0
AreDigitsWithin strict fewest most low high digits =
    SpellsNumberWithin strict fewest most low high digits (number_of digits)

-- these digits spell such a number
pub record SpellsDigits (strict : Bool) (fewest most low high : ℕ) (text digits : List ℕ) : Type 0 where
  pub same : text ≡ digits
  pub within : AreDigitsWithin strict fewest most low high digits

-- the word of a unit of this many seconds
pub record SpellsUnit (strict : Bool) (text : List ℕ) (seconds : ℕ) : Type 0 where
  pub letters : IsTrue (list_all is_ascii_alphabetic text)
  pub unit : unit_of strict text ≡ Some seconds

-- a day of this month that exists, by its day number
pub record SpellsDay (strict : Bool) (fewest year month : ℕ) (text : List ℕ) (day : ℤ) : Type 0 where
  pub day_of_month : ℕ
  pub day_is : SpellsNumberWithin strict fewest 2 1 31 text day_of_month
  pub number : day_of strict year month day_of_month ≡ Some day

-- a month and a day with their dashes: `-02-29` or `-2-29`
pub record SpellsDashedDay (strict : Bool) (year : ℕ) (text : List ℕ) (day : ℤ) : Type 0 where
  pub month_text : List ℕ
  pub day_text : List ℕ
  pub month : ℕ
  pub month_is : SpellsNumberWithin strict 1 2 1 12 month_text month
  pub day_is : SpellsDay strict 1 year month day_text day
  pub text_is : text ≡ joined (codes "-" ∷ month_text ∷ codes "-" ∷ day_text ∷ [])

-- a month and a day of two digits each, after the four of a year: `0229`
pub record SpellsJoinedDay (strict : Bool) (year_text text : List ℕ) (day : ℤ) : Type 0 where
  pub month_text : List ℕ
  pub day_text : List ℕ
  pub month : ℕ
  pub four : length year_text ≡ 4
  pub month_is : SpellsNumberWithin strict 2 2 1 12 month_text month
  pub day_is : SpellsDay strict 2 (number_of year_text) month day_text day
  pub text_is : text ≡ joined (month_text ∷ day_text ∷ [])

-- what follows a year
abbrev pub SpellsAfterYear : Bool → List ℕ → List ℕ → ℤ → Type 0
SpellsAfterYear strict year_text text day =
    SpellsJoinedDay strict year_text text day ⊎ SpellsDashedDay strict (number_of year_text) text day

-- a date that exists, by its day number: `2024-02-29`, `2024-2-29` or `20240229`
pub record SpellsDate (strict : Bool) (text : List ℕ) (day : ℤ) : Type 0 where
  pub year_text : List ℕ
  pub after_text : List ℕ
  pub year_is : AreDigitsWithin strict 1 4 0 9999 year_text
  pub after_is : SpellsAfterYear strict year_text after_text day
  pub text_is : text ≡ joined (year_text ∷ after_text ∷ [])

-- nothing, or a point and zeros
abbrev pub SpellsFraction : List ℕ → Type 0
SpellsFraction text = (text ≡ []) ⊎ ((more : ℕ) × (text ≡ 46 ∷ replicate (suc more) 48))

-- a second after its colon: `:09` or `:09.000`
pub record SpellsGivenSecond (strict : Bool) (text : List ℕ) (second : ℕ) : Type 0 where
  pub second_text : List ℕ
  pub fraction_text : List ℕ
  pub second_is : SpellsNumberWithin strict 1 2 0 59 second_text second
  pub fraction : SpellsFraction fraction_text
  pub text_is : text ≡ joined (codes ":" ∷ second_text ∷ fraction_text ∷ [])

-- a second, 0 where it is left out
abbrev pub SpellsSecond : Bool → List ℕ → ℕ → Type 0
SpellsSecond strict text second = ((text ≡ []) × (second ≡ 0)) ⊎ SpellsGivenSecond strict text second

-- a minute after its colon, and a second: `:07` or `:7:09`
pub record SpellsGivenMinute (strict : Bool) (text : List ℕ) (seconds : ℕ) : Type 0 where
  pub minute_text : List ℕ
  pub second_text : List ℕ
  pub minute : ℕ
  pub second : ℕ
  pub minute_is : SpellsNumberWithin strict 1 2 0 59 minute_text minute
  pub second_is : SpellsSecond strict second_text second
  pub seconds_is : minute * 60 + second ≡ seconds
  pub text_is : text ≡ joined (codes ":" ∷ minute_text ∷ second_text ∷ [])

-- the seconds of a minute and a second, 0 where they are left out
abbrev pub SpellsPastHour : Bool → List ℕ → ℕ → Type 0
SpellsPastHour strict text seconds = ((text ≡ []) × (seconds ≡ 0)) ⊎ SpellsGivenMinute strict text seconds

-- a time of day, by its seconds since midnight: `6`, `6:07` or `06:07:09`
pub record SpellsTime (strict : Bool) (text : List ℕ) (seconds : ℕ) : Type 0 where
  pub hour_text : List ℕ
  pub past_text : List ℕ
  pub hour : ℕ
  pub past : ℕ
  pub hour_is : SpellsNumberWithin strict 1 2 0 23 hour_text hour
  pub past_is : SpellsPastHour strict past_text past
  pub seconds_is : hour * 3600 + past ≡ seconds
  pub text_is : text ≡ joined (hour_text ∷ past_text ∷ [])

-- the minutes of a zone after their colon, of two digits
pub record SpellsGivenZoneMinute (strict : Bool) (text : List ℕ) (minute : ℕ) : Type 0 where
  pub minute_text : List ℕ
  pub minute_is : SpellsNumberWithin strict 2 2 0 59 minute_text minute
  pub text_is : text ≡ joined (codes ":" ∷ minute_text ∷ [])

-- the minutes of a zone: two digits after the two of its hours, none, which is 0, or a colon and two digits
abbrev pub SpellsZoneMinute : Bool → List ℕ → List ℕ → ℕ → Type 0
SpellsZoneMinute strict hour_text text minute =
    ((length hour_text ≡ 2) × SpellsNumberWithin strict 2 2 0 59 text minute)
    ⊎ (((text ≡ []) × (minute ≡ 0)) ⊎ SpellsGivenZoneMinute strict text minute)

-- the hours and minutes of a zone, as seconds: `1`, `01`, `01:30` or `0130`
pub record SpellsDistance (strict : Bool) (text : List ℕ) (seconds : ℕ) : Type 0 where
  pub hour_text : List ℕ
  pub minute_text : List ℕ
  pub minute : ℕ
  pub hour_is : AreDigitsWithin strict 1 2 0 23 hour_text
  pub minute_is : SpellsZoneMinute strict hour_text minute_text minute
  pub seconds_is : time_seconds (number_of hour_text) minute 0 ≡ seconds
  pub text_is : text ≡ joined (hour_text ∷ minute_text ∷ [])

-- a zone to the east without its sign, by the seconds by which its clocks are ahead of UTC: `0:00` or `01:30`
pub record SpellsShift (strict : Bool) (text : List ℕ) (zone : ℤ) : Type 0 where
  pub hour_text : List ℕ
  pub minute_text : List ℕ
  pub hour : ℕ
  pub minute : ℕ
  pub hour_is : SpellsNumberWithin strict 1 2 0 23 hour_text hour
  pub minute_is : SpellsGivenZoneMinute strict minute_text minute
  pub zone_is : pos (time_seconds hour minute 0) ≡ zone
  pub text_is : text ≡ joined (hour_text ∷ minute_text ∷ [])

-- a sign and a distance from UTC
pub record SpellsSigned (strict : Bool) (sign : ℕ) (text : List ℕ) (distance : ℕ) : Type 0 where
  pub distance_text : List ℕ
  pub distance_is : SpellsDistance strict distance_text distance
  pub text_is : text ≡ joined ((sign ∷ []) ∷ distance_text ∷ [])

-- a zone whose clocks are ahead of UTC
pub record IsAhead (strict : Bool) (text : List ℕ) (zone : ℤ) : Type 0 where
  pub distance : ℕ
  pub signed : SpellsSigned strict 43 text distance
  pub zone_is : zone ≡ pos distance

-- a zone whose clocks are behind UTC
pub record IsBehind (strict : Bool) (text : List ℕ) (zone : ℤ) : Type 0 where
  pub distance : ℕ
  pub signed : SpellsSigned strict 45 text distance
  pub zone_is : zone ≡ neg_ℤ (pos distance)

-- `Z`, `UTC` or `GMT`
pub record IsUtc (text : List ℕ) (zone : ℤ) : Type 0 where
  pub word : IsWord (codes "z") text ⊎ (IsWord (codes "gmt") text ⊎ IsWord (codes "utc") text)
  pub zone_is : zone ≡ pos 0

-- a zone, by the seconds by which its clocks are ahead of UTC
abbrev pub SpellsZone : Bool → List ℕ → ℤ → Type 0
SpellsZone strict text zone = IsAhead strict text zone ⊎ (IsBehind strict text zone ⊎ IsUtc text zone)

-- a zone after these spaces, of which one without a sign needs one
abbrev pub SpellsZoneAfter : Bool → List ℕ → List ℕ → ℤ → Type 0
SpellsZoneAfter strict front text zone = (IsGap front × SpellsShift strict text zone) ⊎ SpellsZone strict text zone

-- a zone and the end of a text, with spaces
pub record SpellsGivenZone (strict : Bool) (text : List ℕ) (zone : ℤ) : Type 0 where
  pub front : List ℕ
  pub zone_text : List ℕ
  pub back : List ℕ
  pub front_is : AreSpaces front
  pub zone_is : SpellsZoneAfter strict front zone_text zone
  pub back_is : AreSpaces back
  pub text_is : text ≡ joined (front ∷ zone_text ∷ back ∷ [])

-- the end of a text after its time: spaces, or a zone
abbrev pub SpellsLastZone : Bool → List ℕ → ℤ → Type 0
SpellsLastZone strict text zone = (AreSpaces text × (zone ≡ pos 0)) ⊎ SpellsGivenZone strict text zone

-- a time and its zone up to the end of a text, as the seconds from the midnight in UTC that begins its date
pub record SpellsClock (strict : Bool) (text : List ℕ) (seconds : ℤ) : Type 0 where
  pub time_text : List ℕ
  pub zone_text : List ℕ
  pub time : ℕ
  pub zone : ℤ
  pub time_is : SpellsTime strict time_text time
  pub zone_is : SpellsLastZone strict zone_text zone
  pub seconds_is : pos time -ℤ zone ≡ seconds
  pub text_is : text ≡ joined (time_text ∷ zone_text ∷ [])

-- what stands between a date and its time
abbrev pub IsBreak : List ℕ → Type 0
IsBreak text = IsWord (codes "t") text ⊎ IsGap text

-- a time after a date
pub record SpellsGivenClock (strict : Bool) (text : List ℕ) (seconds : ℤ) : Type 0 where
  pub break : List ℕ
  pub clock_text : List ℕ
  pub break_is : IsBreak break
  pub clock_is : SpellsClock strict clock_text seconds
  pub text_is : text ≡ joined (break ∷ clock_text ∷ [])

-- the end of a text after its date: spaces, or a time
abbrev pub SpellsAfterDate : Bool → List ℕ → ℤ → Type 0
SpellsAfterDate strict text seconds = (AreSpaces text × (seconds ≡ pos 0)) ⊎ SpellsGivenClock strict text seconds

-- units of time
pub record SpellsUnits (strict : Bool) (text : List ℕ) (units : Written) : Type 0 where
  pub front : List ℕ
  pub unit_text : List ℕ
  pub gap : List ℕ
  pub since : List ℕ
  pub gap_after : List ℕ
  pub date_text : List ℕ
  pub end_text : List ℕ
  pub front_is : AreSpaces front
  pub unit_is : SpellsUnit strict unit_text units.per
  pub gap_is : IsGap gap
  pub since_is : IsWord (codes "since") since
  pub gap_after_is : IsGap gap_after
  pub date_is : SpellsDate strict date_text units.day
  pub end_is : SpellsAfterDate strict end_text units.seconds
  pub text_is : text ≡ joined (front ∷ unit_text ∷ gap ∷ since ∷ gap_after ∷ date_text ∷ end_text ∷ [])
