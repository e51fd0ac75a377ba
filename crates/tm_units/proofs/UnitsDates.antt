-- What holds of dates.
use Rattle.std.proofs.Common.{◌≡◌, ◌⊎◌, inl, inr, ℕ, ◌≤◌, Bool, true, false, cond, ◌==◌, List, [], ◌∷◌, ◌++◌, length, drop, Some, None, Ok, refl, sym, ap, subst, ◌∙◌, eq-eqb, ℤ, pos, arith}
use Rattle.std.proofs.lemmas.Bool.{eqb-true}
use Rattle.std.proofs.lemmas.List.{append-nil}
use Rattle.std.specs.Char.{is_ascii_digit}
use Rattle.jiff_core.specs.Calendar.{days_from_civil}
use Rattle.fm_base.specs.Input.{Input}
use Rattle.nc_model.specs.Calendar.{day_number, is_date}
use Rattle.nc_model.specs.Stamp.{number_of}
use Rattle.nc_model.specs.UnitsRanges.{EndsDigits, OutDay, OutDashed, OutJoined, OutAfterYear, OutDate, OutAfterByte}
use Rattle.nc_model.specs.UnitsReading.{next_passes, digits_at, day_of, day_at, dashed_day_at, joined_day_at, after_year_at, date_at}
use Rattle.nc_model.specs.UnitsSpelling.{SpellsNumberWithin, SpellsDigits, SpellsDay, SpellsDashedDay, SpellsAfterYear, SpellsDate}
use Rattle.fm_base.proofs.Exact.{input, Anything, Stops, Finds, IsOfParts-anything, onto}
use Rattle.fm_base.proofs.Parts.{Part, Part-as, Part-then, Part-pure}
use Rattle.tm_units.proofs.Lawful.{offsets, Lawful, Seq, Lawful-then, Lawful-as, Lawful-before, Lawful-outs}
use Rattle.tm_units.proofs.LawfulChoices.{Lawful-digit_follows}
use Rattle.tm_units.proofs.LawfulFound.{found_at, Lawful-found}
use Rattle.tm_units.proofs.UnitsBegins.{whole_test, stops_at, After, out_after_begins, Lawful-after_byte, number_begins, digit_before, digit_first, digit_whole, out_number_begins}
use Rattle.tm_units.proofs.UnitsDigits.{digits_of, digits_read}
use Rattle.tm_units.proofs.UnitsForms.{digits_end, form_digits}
use Rattle.tm_units.proofs.UnitsNumbers.{Lawful-digits, Lawful-number, Lawful-fixed}

-- the day of a date, after its year and month
abbrev TheDay : ℕ → ℕ → ℕ → Bool → List ℕ → ℤ → Type 0
TheDay fewest year month =
    Seq (λ strict. SpellsDigits strict fewest 2 1 31)
    (λ digits strict. Finds (day_of strict year month (number_of digits)))

to_day : (fewest year month : ℕ) (strict : Bool) (text : List ℕ) (day : ℤ) → TheDay fewest year month strict text day
    → SpellsDay strict fewest year month text day
to_day fewest year month strict text day s =
    let whole : text ≡ s.a = s.text_is ∙ onto s.front s.second.text_is ∙ append-nil s.front ∙ s.first.same in
    record {
      day_of_month = number_of s.a;
      day_is = subst (λ (l : List ℕ). SpellsNumberWithin strict fewest 2 1 31 l (number_of s.a)) (sym whole)
          s.first.within;
      number = s.second.found_is;
    }

from_day : (fewest year month : ℕ) (strict : Bool) (text : List ℕ) (day : ℤ)
    → SpellsDay strict fewest year month text day → TheDay fewest year month strict text day
from_day fewest year month strict text day s =
    let value = s.day_is.value in
    record {
      a = text;
      front = text;
      back = [];
      first = record {
        same = refl;
        within = subst (λ (m : ℕ). SpellsNumberWithin strict fewest 2 1 31 text m) (sym value) s.day_is;
      };
      second = record { found_is = ap (day_of strict year month) value ∙ s.number; text_is = refl };
      text_is = sym (append-nil text);
    }

-- a day that exists has the number of one that need not
day_same : (year month day : ℕ) (number : ℤ) → day_number year month day ≡ Some number
    → Some (days_from_civil (pos year) month day) ≡ Some number
unfolding day_number
day_same year month day number e = by_date (is_date year month day) e
  where
    by_date : (b : Bool) → cond b (Some (days_from_civil (pos year) month day)) None ≡ Some number
        → Some (days_from_civil (pos year) month day) ≡ Some number
    by_date true e = e
    by_date false e = absurd cc

digits_ended : (fewest at : ℕ) (rest digits : List ℕ) (j : Input)
    → digits_at true fewest 2 1 31 (input at rest) ≡ Ok (digits, j) → EndsDigits 2 digits j.rest
digits_ended fewest at rest digits j e =
    let r = digits_read true fewest 2 1 31 at rest digits j e in
    subst (λ (i : Input). EndsDigits 2 digits i.rest) r.input_is
    (subst (λ (d : List ℕ). EndsDigits 2 d (drop (digits_of 2 rest) rest)) r.digits_are (digits_end 2 rest))

form_day : (fewest year month : ℕ) → fewest ≤ 2
    → Part offsets Anything (TheDay fewest year month false)
    (found_at (digits_at false fewest 2 1 31) (λ digits. day_of false year month (number_of digits)))
form_day fewest year month wide =
    Part-then {T = λ digits. Finds (day_of false year month (number_of digits))} IsOfParts-anything
    (form_digits fewest 2 1 31 wide)
    (λ digits. Part-as (λ text day s. record { found_is = ap Some s.value; text_is = s.text_is })
    (Part-pure (days_from_civil (pos year) month (number_of digits))))

Lawful-day : (fewest year month : ℕ) → 1 ≤ fewest → fewest ≤ 2
    → Lawful (λ strict. SpellsDay strict fewest year month) (λ day. Stops is_ascii_digit) (OutDay fewest year month)
    (λ strict. day_at strict fewest year month)
unfolding day_at
Lawful-day fewest year month some wide =
    Lawful-as (to_day fewest year month) (from_day fewest year month)
    (Lawful-before (λ day rest stops digits. inr stops)
    (Lawful-found (λ strict digits. day_of strict year month (number_of digits))
    (λ digits. day_number year month (number_of digits) ≡ None) (Lawful-digits fewest 2 1 31 some wide)
    (record {
      same = λ digits number e. day_same year month (number_of digits) number e;
      none = λ digits none. none;
      wrong = λ digits none. inr none;
      here = λ offset text o. o.here;
      ends = digits_ended fewest;
    }) (form_day fewest year month wide)))

-- a month and a day with their dashes
abbrev TheDashed : ℕ → Bool → List ℕ → ℤ → Type 0
TheDashed year =
    After 45 (Seq (λ strict. SpellsNumberWithin strict 1 2 1 12)
    (λ month. After 45 (λ strict. SpellsDay strict 1 year month)))

to_dashed : (year : ℕ) (strict : Bool) (text : List ℕ) (day : ℤ) → TheDashed year strict text day
    → SpellsDashedDay strict year text day
to_dashed year strict text day s =
    let month = s.second in
    record {
      month_text = month.front;
      day_text = month.second.back;
      month = month.a;
      month_is = month.first;
      day_is = month.second.second;
      text_is = s.text_is ∙ ap (λ (l : List ℕ). l ++ s.back) s.first
          ∙ onto (45 ∷ []) (month.text_is
          ∙ onto month.front (month.second.text_is ∙ ap (λ (l : List ℕ). l ++ month.second.back) month.second.first));
    }

from_dashed : (year : ℕ) (strict : Bool) (text : List ℕ) (day : ℤ) → SpellsDashedDay strict year text day
    → TheDashed year strict text day
from_dashed year strict text day s = record {
  a = tt;
  front = 45 ∷ [];
  back = s.month_text ++ (45 ∷ s.day_text);
  first = refl;
  second = record {
    a = s.month;
    front = s.month_text;
    back = 45 ∷ s.day_text;
    first = s.month_is;
    second =
        record { a = tt; front = 45 ∷ []; back = s.day_text; first = refl; second = s.day_is; text_is = refl };
    text_is = refl;
  };
  text_is = s.text_is;
}

Lawful-dashed : (year : ℕ)
    → Lawful (λ strict. SpellsDashedDay strict year) (λ day. Stops is_ascii_digit) (OutDashed year)
    (λ strict. dashed_day_at strict year)
unfolding dashed_day_at
Lawful-dashed year =
    Lawful-as (to_dashed year) (from_dashed year)
    (Lawful-after_byte 45
    (Lawful-then {T = λ month. After 45 (λ strict. SpellsDay strict 1 year month)}
    {U = λ month. OutAfterByte 45 (OutDay 1 year month)} (Lawful-number 1 2 1 12 (omega arith) (omega arith))
    (λ month. Lawful-after_byte 45 (Lawful-day 1 year month (omega arith) (omega arith)))
    (λ strict a b front back rest s t may. stops_at is_ascii_digit 45 back t.back rest (t.text_is
    ∙ ap (λ (l : List ℕ). l ++ t.back) t.first) refl)
    (λ a front back offset s o. whole_test is_ascii_digit 45 false back (out_after_begins 45 offset back o) refl)))

-- a month and a day of two digits each
abbrev TheJoined : ℕ → Bool → List ℕ → ℤ → Type 0
TheJoined year = Seq (λ strict. SpellsNumberWithin strict 2 2 1 12) (λ month strict. SpellsDay strict 2 year month)

Lawful-joined : (year : ℕ)
    → Lawful (TheJoined year) (λ day. Stops is_ascii_digit) (OutJoined year) (λ strict. joined_day_at strict year)
unfolding joined_day_at
Lawful-joined year =
    Lawful-then {T = λ month strict. SpellsDay strict 2 year month} {U = λ month. OutDay 2 year month}
    (Lawful-fixed 2 1 12 (omega arith)) (λ month. Lawful-day 2 year month (omega arith) (omega arith))
    (λ strict a b front back rest s t may. tt) (λ a front back offset s o. tt)

-- what follows the digits of a year, by the next byte
abbrev TheAfterYear : List ℕ → Bool → List ℕ → ℤ → Type 0
TheAfterYear year strict text day = (((length year == 4) ≡ true) × TheJoined (number_of year) strict text day)
    ⊎ SpellsDashedDay strict (number_of year) text day

to_after_year : (year : List ℕ) (strict : Bool) (text : List ℕ) (day : ℤ) → TheAfterYear year strict text day
    → SpellsAfterYear strict year text day
to_after_year year strict text day (inl s) = inl (record {
  month_text = s.1.front;
  day_text = s.1.back;
  month = s.1.a;
  four = eqb-true (length year) 4 s.0;
  month_is = s.1.first;
  day_is = s.1.second;
  text_is = s.1.text_is;
})
to_after_year year strict text day (inr s) = inr s

from_after_year : (year : List ℕ) (strict : Bool) (text : List ℕ) (day : ℤ) → SpellsAfterYear strict year text day
    → TheAfterYear year strict text day
from_after_year year strict text day (inl s) = inl (
  eq-eqb (length year) 4 s.four,
  record {
    a = s.month;
    front = s.month_text;
    back = s.day_text;
    first = s.month_is;
    second = s.day_is;
    text_is = s.text_is;
  },
)
from_after_year year strict text day (inr s) = inr s

dashed_begins : (year : ℕ) (strict : Bool) (text rest : List ℕ) (day : ℤ) → SpellsDashedDay strict year text day
    → next_passes is_ascii_digit (input 0 (text ++ rest)) ≡ false
dashed_begins year strict text rest day s =
    stops_at is_ascii_digit 45 text (s.month_text ++ (45 ∷ s.day_text)) rest s.text_is refl

out_joined_begins : (year offset : ℕ) (text : List ℕ) → OutJoined year offset text
    → next_passes is_ascii_digit (input 0 text) ≡ true
out_joined_begins year offset text (inl month) = digit_whole text (out_number_begins 2 1 12 offset text month)
out_joined_begins year offset text (inr day) =
    digit_whole text (digit_before text day.front day.back day.text_is
    (number_begins true 2 2 1 12 day.front day.value (omega arith) day.first))

Lawful-after_year : (year : List ℕ)
    → Lawful (λ strict. SpellsAfterYear strict year) (λ day. Stops is_ascii_digit) (OutAfterYear year)
    (λ strict. after_year_at strict year)
unfolding after_year_at
Lawful-after_year year =
    Lawful-as (to_after_year year) (from_after_year year)
    (Lawful-outs
    (λ offset text o. elim o [ inl s ↦ inl (eqb-true (length year) 4 s.0, s.1) | inr s ↦ inr s ])
    (λ offset text o. elim o [ inl s ↦ inl (eq-eqb (length year) 4 s.0, s.1) | inr s ↦ inr s ])
    (Lawful-digit_follows {S = TheJoined (number_of year)} {T =
    λ strict. SpellsDashedDay strict (number_of year)} (length year == 4) (Lawful-joined (number_of year))
    (Lawful-dashed (number_of year))
    (λ strict text rest day s. digit_first text rest (digit_before text s.front s.back s.text_is
    (number_begins strict 2 2 1 12 s.front s.a (omega arith) s.first)))
    (λ strict text rest day s may. dashed_begins (number_of year) strict text rest day s)
    (out_joined_begins (number_of year))
    (λ offset rest o. whole_test is_ascii_digit 45 false rest (out_after_begins 45 offset rest o) refl)))

-- the digits of a year and what follows them
abbrev TheDate : Bool → List ℕ → ℤ → Type 0
TheDate = Seq (λ strict. SpellsDigits strict 1 4 0 9999) (λ year strict. SpellsAfterYear strict year)

to_date : (strict : Bool) (text : List ℕ) (day : ℤ) → TheDate strict text day → SpellsDate strict text day
to_date strict text day s = record {
  year_text = s.a;
  after_text = s.back;
  year_is = s.first.within;
  after_is = s.second;
  text_is = s.text_is ∙ ap (λ (l : List ℕ). l ++ s.back) s.first.same;
}

from_date : (strict : Bool) (text : List ℕ) (day : ℤ) → SpellsDate strict text day → TheDate strict text day
from_date strict text day s = record {
  a = s.year_text;
  front = s.year_text;
  back = s.after_text;
  first = record { same = refl; within = s.year_is };
  second = s.after_is;
  text_is = s.text_is;
}

-- four digits may be followed by others, and fewer end
year_ends : (year back rest : List ℕ) (strict : Bool) (day : ℤ) → SpellsAfterYear strict year back day
    → EndsDigits 4 year (back ++ rest)
year_ends year back rest strict day (inl s) = inl s.four
year_ends year back rest strict day (inr s) = inr (dashed_begins (number_of year) strict back rest day s)

year_awaits : (year back : List ℕ) (offset : ℕ) → OutAfterYear year offset back → EndsDigits 4 year back
year_awaits year back offset (inl s) = inl s.0
year_awaits year back offset (inr s) =
    inr (whole_test is_ascii_digit 45 false back (out_after_begins 45 offset back s) refl)

pub Lawful-date : Lawful SpellsDate (λ day. Stops is_ascii_digit) OutDate date_at
unfolding date_at
Lawful-date =
    Lawful-as to_date from_date
    (Lawful-then {T = λ year strict. SpellsAfterYear strict year} {U = OutAfterYear}
    (Lawful-digits 1 4 0 9999 (omega arith) (omega arith)) Lawful-after_year
    (λ strict a b front back rest s t may. year_ends a back rest strict b t)
    (λ a front back offset s o. year_awaits a back offset o))
