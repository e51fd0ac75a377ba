-- What holds of the hours and minutes of zones.
use Rattle.std.proofs.Common.{◌≡◌, ◌⊎◌, inl, inr, ℕ, Bool, true, false, ◌==◌, List, [], ◌∷◌, ◌++◌, length, refl, sym, ap, subst, ◌∙◌, eq-eqb, ℤ, pos, arith}
use Rattle.std.proofs.lemmas.Bool.{eqb-true}
use Rattle.std.proofs.lemmas.List.{append-nil}
use Rattle.std.specs.Char.{is_ascii_digit}
use Rattle.nc_model.specs.Calendar.{time_seconds}
use Rattle.nc_model.specs.Stamp.{number_of}
use Rattle.nc_model.specs.UnitsRanges.{EndsDigits, OutNumber, OutAfterByte, OutZoneMinute, OutDistance, OutShift}
use Rattle.nc_model.specs.UnitsReading.{next_passes, colon_minute_at, zone_minute_at, distance_at, shift_at}
use Rattle.nc_model.specs.UnitsSpelling.{SpellsNumberWithin, SpellsDigits, SpellsGivenZoneMinute, SpellsZoneMinute, SpellsDistance, SpellsShift}
use Rattle.fm_base.specs.Parser.{◌>>=◌, pure}
use Rattle.fm_base.proofs.Exact.{input, Stops, Is, onto}
use Rattle.tm_units.proofs.Lawful.{Lawful, Seq, Lawful-as, Lawful-before, Lawful-then, Lawful-map, Lawful-outs, after_nothing}
use Rattle.tm_units.proofs.LawfulChoices.{Optional, Lawful-optional, Lawful-digit_follows}
use Rattle.tm_units.proofs.UnitsBegins.{whole_test, After, out_after_begins, Lawful-after_byte, number_begins, digit_first, digit_whole, out_number_begins}
use Rattle.tm_units.proofs.UnitsNumbers.{Lawful-digits, Lawful-number}
use Rattle.tm_units.proofs.UnitsTimes.{EndsTime}

abbrev Minute : Bool → List ℕ → ℕ → Type 0
Minute strict = SpellsNumberWithin strict 2 2 0 59

to_colon_minute : (strict : Bool) (text : List ℕ) (minute : ℕ) → After 58 Minute strict text minute
    → SpellsGivenZoneMinute strict text minute
to_colon_minute strict text minute s = record {
  minute_text = s.back;
  minute_is = s.second;
  text_is = s.text_is ∙ ap (λ (l : List ℕ). l ++ s.back) s.first;
}

from_colon_minute : (strict : Bool) (text : List ℕ) (minute : ℕ) → SpellsGivenZoneMinute strict text minute
    → After 58 Minute strict text minute
from_colon_minute strict text minute s =
    record { a = tt; front = 58 ∷ []; back = s.minute_text; first = refl; second = s.minute_is; text_is = s.text_is }

Lawful-colon_minute : Lawful SpellsGivenZoneMinute (λ minute. Stops is_ascii_digit)
    (OutAfterByte 58 (OutNumber 2 0 59)) colon_minute_at
unfolding colon_minute_at
Lawful-colon_minute =
    Lawful-as to_colon_minute from_colon_minute
    (Lawful-after_byte {S = Minute} 58 (Lawful-number 2 2 0 59 (omega arith) (omega arith)))

-- minutes after their colon begin with it
colon_begins : (test : ℕ → Bool) (b : Bool) (strict : Bool) (text rest : List ℕ) (minute : ℕ)
    → SpellsGivenZoneMinute strict text minute → test 58 ≡ b → next_passes test (input 0 (text ++ rest)) ≡ b
colon_begins test b strict text rest minute s is =
    subst (λ (l : List ℕ). next_passes test (input 0 (l ++ rest)) ≡ b) (sym s.text_is) is

-- the minutes of a zone, by the next byte
abbrev TheZoneMinute : List ℕ → Bool → List ℕ → ℕ → Type 0
TheZoneMinute hours strict text minute = (((length hours == 2) ≡ true) × Minute strict text minute)
    ⊎ Optional 0 (SpellsGivenZoneMinute strict) text minute

to_zone_minute : (hours : List ℕ) (strict : Bool) (text : List ℕ) (minute : ℕ)
    → TheZoneMinute hours strict text minute → SpellsZoneMinute strict hours text minute
to_zone_minute hours strict text minute (inl s) = inl (eqb-true (length hours) 2 s.0, s.1)
to_zone_minute hours strict text minute (inr s) = inr s

from_zone_minute : (hours : List ℕ) (strict : Bool) (text : List ℕ) (minute : ℕ)
    → SpellsZoneMinute strict hours text minute → TheZoneMinute hours strict text minute
from_zone_minute hours strict text minute (inl s) = inl (eq-eqb (length hours) 2 s.0, s.1)
from_zone_minute hours strict text minute (inr s) = inr s

no_digit_first : (strict : Bool) (text rest : List ℕ) (minute : ℕ)
    → Optional 0 (SpellsGivenZoneMinute strict) text minute → EndsTime rest
    → next_passes is_ascii_digit (input 0 (text ++ rest)) ≡ false
no_digit_first strict text rest minute (inl none) may =
    after_nothing (Stops is_ascii_digit) text rest none.0 may.digit
no_digit_first strict text rest minute (inr s) may = colon_begins is_ascii_digit false strict text rest minute s refl

Lawful-zone_minute : (hours : List ℕ)
    → Lawful (λ strict. SpellsZoneMinute strict hours) (λ minute. EndsTime) (OutZoneMinute hours)
    (λ strict. zone_minute_at strict hours)
unfolding zone_minute_at
Lawful-zone_minute hours =
    Lawful-as (to_zone_minute hours) (from_zone_minute hours)
    (Lawful-outs
    (λ offset text o. elim o [ inl s ↦ inl (eqb-true (length hours) 2 s.0, s.1) | inr s ↦ inr s ])
    (λ offset text o. elim o [ inl s ↦ inl (eq-eqb (length hours) 2 s.0, s.1) | inr s ↦ inr s ])
    (Lawful-digit_follows {S = Minute} {T = λ strict. Optional 0 (SpellsGivenZoneMinute strict)} (length hours == 2)
    (Lawful-before (λ minute rest may. may.digit) (Lawful-number 2 2 0 59 (omega arith) (omega arith)))
    (Lawful-before (λ minute rest may. (may.colon, may.digit))
    (Lawful-optional {S = SpellsGivenZoneMinute} (λ other. other == 58) 0 Lawful-colon_minute
    (λ strict text rest a s. colon_begins (λ other. other == 58) true strict text rest a s refl)
    (λ offset rest o. whole_test (λ other. other == 58) 58 true rest (out_after_begins 58 offset rest o) refl)))
    (λ strict text rest a s. digit_first text rest (number_begins strict 2 2 0 59 text a (omega arith) s))
    (λ strict text rest a s may. no_digit_first strict text rest a s may)
    (λ offset rest o. digit_whole rest (out_number_begins 2 0 59 offset rest o))
    (λ offset rest o. whole_test is_ascii_digit 58 false rest (out_after_begins 58 offset rest o) refl)))

-- two digits of hours may be followed by others, and fewer end
hours_end : (hours : List ℕ) (strict : Bool) (text rest : List ℕ) (minute : ℕ)
    → SpellsZoneMinute strict hours text minute → EndsTime rest → EndsDigits 2 hours (text ++ rest)
hours_end hours strict text rest minute (inl s) may = inl s.0
hours_end hours strict text rest minute (inr s) may = inr (no_digit_first strict text rest minute s may)

hours_await : (hours back : List ℕ) (offset : ℕ) → OutZoneMinute hours offset back → EndsDigits 2 hours back
hours_await hours back offset (inl s) = inl s.0
hours_await hours back offset (inr s) =
    inr (whole_test is_ascii_digit 58 false back (out_after_begins 58 offset back s) refl)

abbrev TheDistance : Bool → List ℕ → ℕ → Type 0
TheDistance =
    Seq (λ strict. SpellsDigits strict 1 2 0 23)
    (λ hours. Seq (λ strict. SpellsZoneMinute strict hours)
    (λ minute strict. Is (time_seconds (number_of hours) minute 0)))

to_distance : (strict : Bool) (text : List ℕ) (seconds : ℕ) → TheDistance strict text seconds
    → SpellsDistance strict text seconds
to_distance strict text seconds s = record {
  hour_text = s.a;
  minute_text = s.second.front;
  minute = s.second.a;
  hour_is = s.first.within;
  minute_is = s.second.first;
  seconds_is = s.second.second.value;
  text_is = s.text_is ∙ ap (λ (l : List ℕ). l ++ s.back) s.first.same
      ∙ onto s.a (s.second.text_is ∙ onto s.second.front s.second.second.text_is ∙ append-nil s.second.front);
}

from_distance : (strict : Bool) (text : List ℕ) (seconds : ℕ) → SpellsDistance strict text seconds
    → TheDistance strict text seconds
from_distance strict text seconds s = record {
  a = s.hour_text;
  front = s.hour_text;
  back = s.minute_text;
  first = record { same = refl; within = s.hour_is };
  second = record {
    a = s.minute;
    front = s.minute_text;
    back = [];
    first = s.minute_is;
    second = record { value = s.seconds_is; text_is = refl };
    text_is = sym (append-nil s.minute_text);
  };
  text_is = s.text_is;
}

pub Lawful-distance : Lawful SpellsDistance (λ seconds. EndsTime) OutDistance distance_at
unfolding distance_at
Lawful-distance =
    Lawful-as to_distance from_distance
    (Lawful-then {T = λ hours. Seq (λ strict. SpellsZoneMinute strict hours)
    (λ minute strict. Is (time_seconds (number_of hours) minute 0))} {U = OutZoneMinute}
    {q = λ hours strict. zone_minute_at strict hours >>= λ minute. pure (time_seconds (number_of hours) minute 0)}
    (Lawful-digits 1 2 0 23 (omega arith) (omega arith))
    (λ hours. Lawful-map (λ minute. time_seconds (number_of hours) minute 0) (Lawful-zone_minute hours))
    (λ strict a b front back rest s t may.
    subst (λ (l : List ℕ). EndsDigits 2 a (l ++ rest))
    (sym (t.text_is ∙ onto t.front t.second.text_is ∙ append-nil t.front))
    (hours_end a strict t.front rest t.a t.first may))
    (λ a front back offset s o. hours_await a back offset o))

-- a zone without a sign
abbrev TheShift : Bool → List ℕ → ℤ → Type 0
TheShift =
    Seq (λ strict. SpellsNumberWithin strict 1 2 0 23)
    (λ hour. Seq SpellsGivenZoneMinute (λ minute strict. Is (pos (time_seconds hour minute 0))))

to_shift : (strict : Bool) (text : List ℕ) (zone : ℤ) → TheShift strict text zone → SpellsShift strict text zone
to_shift strict text zone s = record {
  hour_text = s.front;
  minute_text = s.second.front;
  hour = s.a;
  minute = s.second.a;
  hour_is = s.first;
  minute_is = s.second.first;
  zone_is = s.second.second.value;
  text_is = s.text_is
      ∙ onto s.front (s.second.text_is ∙ onto s.second.front s.second.second.text_is ∙ append-nil s.second.front);
}

from_shift : (strict : Bool) (text : List ℕ) (zone : ℤ) → SpellsShift strict text zone → TheShift strict text zone
from_shift strict text zone s = record {
  a = s.hour;
  front = s.hour_text;
  back = s.minute_text;
  first = s.hour_is;
  second = record {
    a = s.minute;
    front = s.minute_text;
    back = [];
    first = s.minute_is;
    second = record { value = s.zone_is; text_is = refl };
    text_is = sym (append-nil s.minute_text);
  };
  text_is = s.text_is;
}

pub Lawful-shift : Lawful SpellsShift (λ zone. EndsTime) OutShift shift_at
unfolding shift_at
Lawful-shift =
    Lawful-as to_shift from_shift
    (Lawful-then {T = λ hour. Seq SpellsGivenZoneMinute (λ minute strict. Is (pos (time_seconds hour minute 0)))}
    {U = λ hour. OutAfterByte 58 (OutNumber 2 0 59)}
    {q = λ hour strict. colon_minute_at strict >>= λ minute. pure (pos (time_seconds hour minute 0))}
    (Lawful-number 1 2 0 23 (omega arith) (omega arith))
    (λ hour. Lawful-map (λ minute. pos (time_seconds hour minute 0))
    (Lawful-before (λ minute rest may. may.digit) Lawful-colon_minute))
    (λ strict a b front back rest s t may.
    subst (λ (l : List ℕ). Stops is_ascii_digit (l ++ rest))
    (sym (t.text_is ∙ onto t.front t.second.text_is ∙ append-nil t.front))
    (colon_begins is_ascii_digit false strict t.front rest t.a t.first refl))
    (λ a front back offset s o. whole_test is_ascii_digit 58 false back (out_after_begins 58 offset back o) refl))
