-- Which value of a text of units is out of its range, by what stands before it: a word that is no unit, or a number. A
-- word is the longest run of letters, and a number the longest run of digits, up to its most digits.
use Rattle.std.specs.Prelude.{◌≡◌, ◌⊎◌, ℕ, ◌+◌, ◌<◌, ◌≤◌, List, [], ◌∷◌, ◌++◌, length, replicate, slice_get, codes, Bool, true, false, IsTrue, None}
use Rattle.std.specs.Char.{is_ascii_alphabetic, is_ascii_digit}
use Rattle.std.specs.List.{list_all}
use Rattle.std.specs.Option.{option_map_or}
use Rattle.nc_model.specs.Calendar.{day_number}
use Rattle.nc_model.specs.Stamp.{number_of}
use Rattle.nc_model.specs.UnitsReading.{seconds_per, is_same_word}
use Rattle.nc_model.specs.UnitsSpelling.{SpellsNumberWithin, SpellsDigits, SpellsUnit, SpellsDate, SpellsTime}

-- the first byte isn't of this kind, or there is none
abbrev pub EndsRun : (ℕ → Bool) → List ℕ → Type 0
EndsRun test text = option_map_or test (slice_get text 0) false ≡ false

-- the digits are as many as there may be, or end
abbrev pub EndsDigits : ℕ → List ℕ → List ℕ → Type 0
EndsDigits most digits rest = (length digits ≡ most) ⊎ EndsRun is_ascii_digit rest

-- a digit or more, and no more than `most` of them
pub record AreDigits (most : ℕ) (text digits : List ℕ) : Type 0 where
  pub same : text ≡ digits
  pub all : IsTrue (list_all is_ascii_digit digits)
  pub some : 0 < length digits
  pub few : length digits ≤ most

-- a letter or more
pub record SpellsLetters (text word : List ℕ) : Type 0 where
  pub same : text ≡ word
  pub all : IsTrue (list_all is_ascii_alphabetic word)
  pub some : 0 < length word

-- a value stands whole at the beginning of this text, and is wrong
pub record IsWrong {X : Type 0} (S : List ℕ → X → Type 0) (Ends : X → List ℕ → Type 0) (Wrong : X → Type 0)
    (offset : ℕ) (text : List ℕ) : Type 0 where
  pub value : X
  pub front : List ℕ
  pub more : List ℕ
  pub here : offset ≡ 0
  pub spelled : S front value
  pub ends : Ends value more
  pub wrong : Wrong value
  pub text_is : text ≡ front ++ more

-- at this offset of a text, a value is out of its range
abbrev pub Out : Type 1
Out = ℕ → List ℕ → Type 0

-- in the one way or in the other
abbrev pub EitherOut : Out → Out → Out
EitherOut first second offset text = first offset text ⊎ second offset text

-- after a part that is spelled so
pub record OutAfter {X : Type 0} (S : List ℕ → X → Type 0) (Next : X → Out) (offset : ℕ) (text : List ℕ) : Type 0 where
  pub value : X
  pub front : List ℕ
  pub back : List ℕ
  pub left : ℕ
  pub first : S front value
  pub next : Next value left back
  pub text_is : text ≡ front ++ back
  pub offset_is : offset ≡ length front + left

-- after a byte
abbrev pub OutAfterByte : ℕ → Out → Out
OutAfterByte byte next = OutAfter (λ text (u : Unit {0}). text ≡ byte ∷ []) (λ u. next)

-- after a word in letters of either case
abbrev pub OutAfterWord : List ℕ → Out → Out
OutAfterWord word next = OutAfter (λ text (u : Unit {0}). IsTrue (is_same_word text word)) (λ u. next)

-- after spaces, by how many there are
abbrev pub OutAfterSpaces : (ℕ → Out) → Out
OutAfterSpaces next = OutAfter (λ text count. text ≡ replicate count 32) next

-- after one space or more
abbrev pub OutAfterGap : Out → Out
OutAfterGap next = OutAfter (λ text (count : ℕ). (0 < count) × (text ≡ replicate count 32)) (λ count. next)

-- the number here isn't from `low` to `high`
abbrev pub OutNumber : ℕ → ℕ → ℕ → Out
OutNumber most low high =
    IsWrong (AreDigits most) (EndsDigits most) (λ digits. (number_of digits < low) ⊎ (high < number_of digits))

-- the day here isn't one of this month
abbrev pub OutDay : ℕ → ℕ → ℕ → Out
OutDay fewest year month =
    EitherOut (OutNumber 2 1 31)
    (IsWrong (SpellsDigits true fewest 2 1 31) (EndsDigits 2)
    (λ digits. day_number year month (number_of digits) ≡ None))

-- a month and a day with their dashes
abbrev pub OutDashed : ℕ → Out
OutDashed year =
    OutAfterByte 45 (EitherOut (OutNumber 2 1 12)
    (OutAfter (SpellsNumberWithin true 1 2 1 12) (λ month. OutAfterByte 45 (OutDay 1 year month))))

-- a month and a day of two digits each
abbrev pub OutJoined : ℕ → Out
OutJoined year =
    EitherOut (OutNumber 2 1 12) (OutAfter (SpellsNumberWithin true 2 2 1 12) (λ month. OutDay 2 year month))

-- what follows a year
abbrev pub OutAfterYear : List ℕ → Out
OutAfterYear year offset text =
    ((length year ≡ 4) × OutJoined (number_of year) offset text) ⊎ OutDashed (number_of year) offset text

abbrev pub OutDate : Out
OutDate = EitherOut (OutNumber 4 0 9999) (OutAfter (SpellsDigits true 1 4 0 9999) OutAfterYear)

-- a minute and a second after an hour
abbrev pub OutPastHour : Out
OutPastHour =
    OutAfterByte 58 (EitherOut (OutNumber 2 0 59)
    (OutAfter (SpellsNumberWithin true 1 2 0 59) (λ minute. OutAfterByte 58 (OutNumber 2 0 59))))

abbrev pub OutTime : Out
OutTime = EitherOut (OutNumber 2 0 23) (OutAfter (SpellsNumberWithin true 1 2 0 23) (λ hour. OutPastHour))

-- the minutes of a zone, after the digits of its hours
abbrev pub OutZoneMinute : List ℕ → Out
OutZoneMinute hours offset text =
    ((length hours ≡ 2) × OutNumber 2 0 59 offset text) ⊎ OutAfterByte 58 (OutNumber 2 0 59) offset text

abbrev pub OutDistance : Out
OutDistance = EitherOut (OutNumber 2 0 23) (OutAfter (SpellsDigits true 1 2 0 23) OutZoneMinute)

-- a zone without its sign
abbrev pub OutShift : Out
OutShift =
    EitherOut (OutNumber 2 0 23)
    (OutAfter (SpellsNumberWithin true 1 2 0 23) (λ hour. OutAfterByte 58 (OutNumber 2 0 59)))

-- a zone after this many spaces
abbrev pub OutZone : ℕ → Out
OutZone gap offset text =
    ((0 < gap) × OutShift offset text)
    ⊎ (OutAfterByte 43 OutDistance offset text ⊎ OutAfterByte 45 OutDistance offset text)

-- a time and its zone
abbrev pub OutClock : Out
OutClock = EitherOut OutTime (OutAfter (SpellsTime true) (λ time. OutAfterSpaces OutZone))

-- a time after a date
abbrev pub OutAfterDate : Out
OutAfterDate = EitherOut (OutAfterWord (codes "t") OutClock) (OutAfterGap OutClock)

-- what follows the word of a unit
abbrev pub OutAfterUnit : Out
OutAfterUnit =
    OutAfterGap (OutAfterWord (codes "since")
    (OutAfterGap (EitherOut OutDate (OutAfter (SpellsDate true) (λ day. OutAfterDate)))))

-- units of time
abbrev pub OutUnits : Out
OutUnits =
    OutAfterSpaces (λ front. EitherOut
    (IsWrong SpellsLetters (λ word. EndsRun is_ascii_alphabetic) (λ word. seconds_per word ≡ None))
    (OutAfter (SpellsUnit true) (λ per. OutAfterUnit)))
