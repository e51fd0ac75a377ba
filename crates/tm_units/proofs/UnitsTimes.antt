-- What holds of times of day.
use Rattle.std.proofs.Common.{◌≡◌, inl, inr, ℕ, zero, suc, ◌+◌, ◌*◌, Bool, true, false, ◌==◌, List, [], ◌∷◌, ◌++◌, replicate, refl, sym, ap, subst, ◌∙◌, arith}
use Rattle.std.proofs.lemmas.List.{append-nil}
use Rattle.std.specs.Char.{is_ascii_digit}
use Rattle.nc_model.specs.UnitsRanges.{OutNumber, OutPastHour, OutTime, OutAfterByte}
use Rattle.nc_model.specs.UnitsReading.{fraction_at, second_at, past_hour_at, time_of_day_at}
use Rattle.nc_model.specs.UnitsSpelling.{SpellsNumberWithin, SpellsFraction, SpellsSecond, SpellsPastHour, SpellsTime}
use Rattle.fm_base.specs.Parser.{◌>>=◌, pure}
use Rattle.fm_base.proofs.Exact.{Stops, Is, onto}
use Rattle.tm_units.proofs.Lawful.{Lawful, NoOut, Seq, Lawful-as, Lawful-before, Lawful-then, Lawful-first, Lawful-map, Lawful-outs, after_nothing}
use Rattle.tm_units.proofs.LawfulChoices.{Optional, Lawful-optional}
use Rattle.tm_units.proofs.UnitsBegins.{begins_test, whole_test, stops_at, After, after_begins, out_after_begins, Lawful-after_byte}
use Rattle.tm_units.proofs.UnitsNumbers.{Lawful-number}
use Rattle.tm_units.proofs.UnitsRuns.{RepeatsSome}
use Rattle.tm_units.proofs.UnitsTerms.{Lawful-some}

-- what may follow a time
pub record EndsTime (rest : List ℕ) : Type 0 where
  pub digit : Stops is_ascii_digit rest
  pub zero_byte : Stops (λ other. other == 48) rest
  pub colon : Stops (λ other. other == 58) rest
  pub point : Stops (λ other. other == 46) rest

-- a point and zeros, by how many there are
abbrev Zeros : Bool → List ℕ → ℕ → Type 0
Zeros strict = Optional 0 (After 46 (λ strict. RepeatsSome 48) strict)

Lawful-fraction : Lawful Zeros (λ n. EndsTime) NoOut (λ strict. fraction_at)
unfolding fraction_at
Lawful-fraction =
    Lawful-before (λ n rest may. (may.point, may.zero_byte))
    (Lawful-optional {S = After 46 (λ strict. RepeatsSome 48)} (λ other. other == 46) 0
    (Lawful-outs (λ offset text o. o.next) (λ offset text none. absurd none)
    (Lawful-after_byte 46 (Lawful-some 48)))
    (λ strict text rest a s. begins_test (λ other. other == 46) 46 true text rest (after_begins 46 text a s) refl)
    (λ offset rest none. absurd none))

to_fraction : (strict : Bool) (text : List ℕ) (count : ℕ) → Zeros strict text count → SpellsFraction text
to_fraction strict text count (inl none) = inl none.0
to_fraction strict text zero (inr s) = let some = s.second.0 in absurd (omega arith)
to_fraction strict text (suc more) (inr s) = inr (
  more,
  s.text_is ∙ ap (λ (l : List ℕ). l ++ s.back) s.first
      ∙ ap (λ (l : List ℕ). 46 ∷ l) s.second.1,
)

from_fraction : (strict : Bool) (text : List ℕ) → SpellsFraction text → (zeros : ℕ) × Zeros strict text zeros
from_fraction strict text (inl none) = (0, inl (none, refl))
from_fraction strict text (inr s) = (
  suc s.0,
  inr (record {
    a = tt;
    front = 46 ∷ [];
    back = replicate (suc s.0) 48;
    first = refl;
    second = (omega arith, refl);
    text_is = s.1;
  }),
)

-- what may stand at the start of a fraction stops a number
fraction_stops : (strict : Bool) (text rest : List ℕ) (count : ℕ) → Zeros strict text count → EndsTime rest
    → Stops is_ascii_digit (text ++ rest)
fraction_stops strict text rest count (inl none) may = after_nothing (Stops is_ascii_digit) text rest none.0 may.digit
fraction_stops strict text rest count (inr s) may =
    begins_test is_ascii_digit 46 false text rest (after_begins 46 text count s) refl

-- a second and its fraction
abbrev TheSecond : Bool → List ℕ → ℕ → Type 0
TheSecond =
    Seq (λ strict. SpellsNumberWithin strict 1 2 0 59) (λ second. Seq Zeros (λ zeros strict. Is second))

to_second : (strict : Bool) (text : List ℕ) (second : ℕ) → Optional 0 (After 58 TheSecond strict) text second
    → SpellsSecond strict text second
to_second strict text second (inl none) = inl none
to_second strict text second (inr s) =
    let the_second = s.second in
    let zeros = the_second.second in
    let value : the_second.a ≡ second = zeros.second.value in
    inr (record {
      second_text = the_second.front;
      fraction_text = zeros.front;
      second_is = subst (λ (n : ℕ). SpellsNumberWithin strict 1 2 0 59 the_second.front n) value the_second.first;
      fraction = to_fraction strict zeros.front zeros.a zeros.first;
      text_is = s.text_is ∙ ap (λ (l : List ℕ). l ++ s.back) s.first
          ∙ ap (λ (l : List ℕ). 58 ∷ l) (the_second.text_is
          ∙ ap (λ (l : List ℕ). the_second.front ++ l) (zeros.text_is
          ∙ ap (λ (l : List ℕ). zeros.front ++ l) zeros.second.text_is ∙ append-nil zeros.front));
    })

from_second : (strict : Bool) (text : List ℕ) (second : ℕ) → SpellsSecond strict text second
    → Optional 0 (After 58 TheSecond strict) text second
from_second strict text second (inl none) = inl none
from_second strict text second (inr s) =
    let zeros = from_fraction strict s.fraction_text s.fraction in
    inr (record {
      a = tt;
      front = 58 ∷ [];
      back = s.second_text ++ s.fraction_text;
      first = refl;
      second = record {
        a = second;
        front = s.second_text;
        back = s.fraction_text;
        first = s.second_is;
        second = record {
          a = zeros.0;
          front = s.fraction_text;
          back = [];
          first = zeros.1;
          second =
              record { value = refl; text_is = refl };
          text_is = sym (append-nil s.fraction_text);
        };
        text_is = refl;
      };
      text_is = s.text_is;
    })

Lawful-second : Lawful SpellsSecond (λ second. EndsTime) (OutAfterByte 58 (OutNumber 2 0 59)) second_at
unfolding second_at
Lawful-second =
    Lawful-as to_second from_second
    (Lawful-before (λ second rest may. (may.colon, may))
    (Lawful-optional {S = After 58 TheSecond} (λ other. other == 58) 0
    (Lawful-after_byte {S = TheSecond} 58
    (Lawful-first {T = λ second. Seq Zeros (λ zeros strict. Is second)}
    {q = λ second strict. fraction_at >>= λ zeros. pure second}
    (Lawful-number 1 2 0 59 (omega arith) (omega arith))
    (λ second. Lawful-map (λ (zeros : ℕ). second) Lawful-fraction)
    (λ strict a b front back rest s t may.
    subst (λ (l : List ℕ). Stops is_ascii_digit (l ++ rest))
    (sym (t.text_is ∙ onto t.front t.second.text_is ∙ append-nil t.front))
    (fraction_stops strict t.front rest t.a t.first may))))
    (λ strict text rest a s. begins_test (λ other. other == 58) 58 true text rest (after_begins 58 text a s) refl)
    (λ offset rest o. whole_test (λ other. other == 58) 58 true rest (out_after_begins 58 offset rest o) refl)))

-- what may stand at the start of a second stops a number
second_stops : (strict : Bool) (text rest : List ℕ) (second : ℕ) → SpellsSecond strict text second → EndsTime rest
    → Stops is_ascii_digit (text ++ rest)
second_stops strict text rest second (inl none) may =
    after_nothing (Stops is_ascii_digit) text rest none.0 may.digit
second_stops strict text rest second (inr s) may =
    stops_at is_ascii_digit 58 text (s.second_text ++ s.fraction_text) rest s.text_is refl

-- a minute and what follows it, after their colon
abbrev TheMinute : Bool → List ℕ → ℕ → Type 0
TheMinute =
    Seq (λ strict. SpellsNumberWithin strict 1 2 0 59)
    (λ minute. Seq SpellsSecond (λ second strict. Is (minute * 60 + second)))

to_past : (strict : Bool) (text : List ℕ) (seconds : ℕ) → Optional 0 (After 58 TheMinute strict) text seconds
    → SpellsPastHour strict text seconds
to_past strict text seconds (inl none) = inl none
to_past strict text seconds (inr s) =
    let minute = s.second in
    let second = minute.second in
    inr (record {
      minute_text = minute.front;
      second_text = second.front;
      minute = minute.a;
      second = second.a;
      minute_is = minute.first;
      second_is = second.first;
      seconds_is = second.second.value;
      text_is = s.text_is ∙ ap (λ (l : List ℕ). l ++ s.back) s.first
          ∙ onto (58 ∷ []) (minute.text_is
          ∙ onto minute.front (second.text_is ∙ onto second.front second.second.text_is ∙ append-nil second.front));
    })

from_past : (strict : Bool) (text : List ℕ) (seconds : ℕ) → SpellsPastHour strict text seconds
    → Optional 0 (After 58 TheMinute strict) text seconds
from_past strict text seconds (inl none) = inl none
from_past strict text seconds (inr s) = inr (record {
  a = tt;
  front = 58 ∷ [];
  back = s.minute_text ++ s.second_text;
  first = refl;
  second = record {
    a = s.minute;
    front = s.minute_text;
    back = s.second_text;
    first = s.minute_is;
    second = record {
      a = s.second;
      front = s.second_text;
      back = [];
      first = s.second_is;
      second = record { value = s.seconds_is; text_is = refl };
      text_is = sym (append-nil s.second_text);
    };
    text_is = refl;
  };
  text_is = s.text_is;
})

Lawful-past : Lawful SpellsPastHour (λ seconds. EndsTime) OutPastHour past_hour_at
unfolding past_hour_at
Lawful-past =
    Lawful-as to_past from_past
    (Lawful-before (λ seconds rest may. (may.colon, may))
    (Lawful-optional {S = After 58 TheMinute} (λ other. other == 58) 0
    (Lawful-after_byte {S = TheMinute} 58
    (Lawful-then {T = λ minute. Seq SpellsSecond (λ second strict. Is (minute * 60 + second))}
    {U = λ minute. OutAfterByte 58 (OutNumber 2 0 59)}
    {q = λ minute strict. second_at strict >>= λ second. pure (minute * 60 + second)}
    (Lawful-number 1 2 0 59 (omega arith) (omega arith))
    (λ minute. Lawful-map (λ second. minute * 60 + second) Lawful-second)
    (λ strict a b front back rest s t may.
    subst (λ (l : List ℕ). Stops is_ascii_digit (l ++ rest))
    (sym (t.text_is ∙ onto t.front t.second.text_is ∙ append-nil t.front))
    (second_stops strict t.front rest t.a t.first may))
    (λ a front back offset s o. whole_test is_ascii_digit 58 false back (out_after_begins 58 offset back o) refl)))
    (λ strict text rest a s. begins_test (λ other. other == 58) 58 true text rest (after_begins 58 text a s) refl)
    (λ offset rest o. whole_test (λ other. other == 58) 58 true rest (out_after_begins 58 offset rest o) refl)))

-- what may stand after an hour stops a number
past_stops : (strict : Bool) (text rest : List ℕ) (seconds : ℕ) → SpellsPastHour strict text seconds → EndsTime rest
    → Stops is_ascii_digit (text ++ rest)
past_stops strict text rest seconds (inl none) may =
    after_nothing (Stops is_ascii_digit) text rest none.0 may.digit
past_stops strict text rest seconds (inr s) may =
    stops_at is_ascii_digit 58 text (s.minute_text ++ s.second_text) rest s.text_is refl

-- an hour and what follows it
abbrev TheTime : Bool → List ℕ → ℕ → Type 0
TheTime =
    Seq (λ strict. SpellsNumberWithin strict 1 2 0 23)
    (λ hour. Seq SpellsPastHour (λ past strict. Is (hour * 3600 + past)))

to_time : (strict : Bool) (text : List ℕ) (seconds : ℕ) → TheTime strict text seconds → SpellsTime strict text seconds
to_time strict text seconds s = record {
  hour_text = s.front;
  past_text = s.second.front;
  hour = s.a;
  past = s.second.a;
  hour_is = s.first;
  past_is = s.second.first;
  seconds_is = s.second.second.value;
  text_is = s.text_is
      ∙ onto s.front (s.second.text_is ∙ onto s.second.front s.second.second.text_is ∙ append-nil s.second.front);
}

from_time : (strict : Bool) (text : List ℕ) (seconds : ℕ) → SpellsTime strict text seconds
    → TheTime strict text seconds
from_time strict text seconds s = record {
  a = s.hour;
  front = s.hour_text;
  back = s.past_text;
  first = s.hour_is;
  second = record {
    a = s.past;
    front = s.past_text;
    back = [];
    first = s.past_is;
    second = record { value = s.seconds_is; text_is = refl };
    text_is = sym (append-nil s.past_text);
  };
  text_is = s.text_is;
}

pub Lawful-time : Lawful SpellsTime (λ seconds. EndsTime) OutTime time_of_day_at
unfolding time_of_day_at
Lawful-time =
    Lawful-as to_time from_time
    (Lawful-then {T = λ hour. Seq SpellsPastHour (λ past strict. Is (hour * 3600 + past))} {U = λ hour. OutPastHour}
    {q = λ hour strict. past_hour_at strict >>= λ past. pure (hour * 3600 + past)}
    (Lawful-number 1 2 0 23 (omega arith) (omega arith))
    (λ hour. Lawful-map (λ past. hour * 3600 + past) Lawful-past)
    (λ strict a b front back rest s t may.
    subst (λ (l : List ℕ). Stops is_ascii_digit (l ++ rest))
    (sym (t.text_is ∙ onto t.front t.second.text_is ∙ append-nil t.front))
    (past_stops strict t.front rest t.a t.first may))
    (λ a front back offset s o. whole_test is_ascii_digit 58 false back (out_after_begins 58 offset back o) refl))
