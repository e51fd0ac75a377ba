-- What holds of units of time.
use Rattle.std.proofs.Common.{◌≡◌, inl, inr, ℕ, zero, suc, ◌<◌, Bool, true, false, List, [], ◌∷◌, ◌++◌, length, replicate, codes, Some, None, refl, sym, ap, subst, ◌∙◌, ℤ, arith}
use Rattle.std.proofs.lemmas.Bool.{eqb-true, ne_eqb}
use Rattle.std.proofs.lemmas.List.{append-nil}
use Rattle.std.specs.Char.{is_ascii_digit, is_ascii_alphabetic}
use Rattle.std.specs.List.{list_all}
use Rattle.nc_model.specs.UnitsRanges.{Out, EitherOut, OutAfter, IsWrong, SpellsLetters, OutAfterWord, OutAfterGap, OutDate, OutAfterDate, OutAfterUnit, OutUnits}
use Rattle.nc_model.specs.UnitsReading.{letters_at, gap_at, unit_at, date_at, after_date_at, units_at, UnitsParser, Written, unit_of, seconds_per}
use Rattle.nc_model.specs.UnitsSpelling.{SpellsUnit, SpellsDate, SpellsAfterDate, SpellsUnits}
use Rattle.fm_base.specs.Parser.{◌>>=◌, pure}
use Rattle.fm_base.proofs.Exact.{Stops, AtEnd, Is}
use Rattle.tm_units.proofs.InstantLemmas.{and_parts}
use Rattle.tm_units.proofs.Lawful.{Lawful, Seq, Lawful-as, Lawful-then, Lawful-after, Lawful-map}
use Rattle.tm_units.proofs.UnitsAfterDate.{Lawful-after_date, after_date_stops, after_date_awaits}
use Rattle.tm_units.proofs.UnitsBegins.{Begins, begins_test, whole_test, BeginsWithDigit, digits_begin, digit_before, out_number_begins}
use Rattle.tm_units.proofs.UnitsDates.{Lawful-date}
use Rattle.tm_units.proofs.UnitsRuns.{Repeats, RepeatsSome, AreLetters}
use Rattle.tm_units.proofs.UnitsTerms.{Lawful-many, Lawful-some, Lawful-letters}
use Rattle.tm_units.proofs.UnitsWords.{Lawful-unit, no_unit}
use Rattle.tm_units.proofs.UnitsZoneAfter.{Space, StartsApart, starts_no_space, starts_before, digit_starts}
use Rattle.tm_units.proofs.UnitsZoneWords.{word_begins, letter_starts}

-- the parts of units after the date
abbrev TheEnd : ℕ → ℤ → Bool → List ℕ → Written → Type 0
TheEnd per day =
    Seq SpellsAfterDate (λ seconds strict. Is (record { per = per; day = day; seconds = seconds }))

abbrev FromDate : ℕ → Bool → List ℕ → Written → Type 0
FromDate per = Seq SpellsDate (TheEnd per)

abbrev FromSince : ℕ → Bool → List ℕ → Written → Type 0
FromSince per =
    Seq (λ strict. AreLetters (codes "since")) (λ u. Seq (λ strict. RepeatsSome 32) (λ gap. FromDate per))

abbrev FromUnit : Bool → List ℕ → Written → Type 0
FromUnit = Seq SpellsUnit (λ per. Seq (λ strict. RepeatsSome 32) (λ gap. FromSince per))

abbrev TheUnits : Bool → List ℕ → Written → Type 0
TheUnits = Seq (λ strict. Repeats 32) (λ front. FromUnit)

-- a gap begins with a space
gap_begins : (count : ℕ) (text front back : List ℕ) → text ≡ front ++ back → RepeatsSome 32 front count
    → Begins text 32
gap_begins zero text front back is s = let some = s.0 in absurd (omega arith)
gap_begins (suc count) text front back is s =
    record { more = replicate count 32 ++ back; text_is = is ∙ ap (λ (l : List ℕ). l ++ back) s.1 }

letter_no_space : (byte : ℕ) → is_ascii_alphabetic byte ≡ true → Space byte ≡ false
letter_no_space byte h = by_space (Space byte) refl
  where
    by_space : (b : Bool) → Space byte ≡ b → Space byte ≡ false
    by_space false e = e
    by_space true e = absurd (space_is_none (subst (λ (c : ℕ). is_ascii_alphabetic c ≡ true) (eqb-true byte 32 e) h))
      where
        space_is_none : is_ascii_alphabetic 32 ≡ true → ⊥
        space_is_none k = let same : false ≡ true = k in absurd cc

letters_start : (word : List ℕ) → list_all is_ascii_alphabetic word ≡ true → 0 < length word → StartsApart word
letters_start [] all some = absurd (omega arith)
letters_start (x ∷ word) all some = record {
  byte = x;
  begins = record { more = word; text_is = refl };
  no_space = letter_no_space x (and_parts (is_ascii_alphabetic x) (list_all is_ascii_alphabetic word) all).0;
}

-- no word of a unit is empty
unit_some : (strict : Bool) (text : List ℕ) (per : ℕ) → unit_of strict text ≡ Some per → 0 < length text
unit_some true [] per is = absurd (no_unit per is)
unit_some false [] per is = absurd cc
unit_some strict (x ∷ text) per is = omega arith

unit_starts : (strict : Bool) (text : List ℕ) (per : ℕ) → SpellsUnit strict text per → StartsApart text
unit_starts strict text per s = letters_start text s.letters (unit_some strict text per s.unit)

since_starts : (text front back : List ℕ) → text ≡ front ++ back → AreLetters (codes "since") front tt
    → StartsApart text
since_starts text front back is s =
    let first = letter_starts 115 text (omega arith) (omega arith)
    (word_begins 115 (codes "ince") text front back is s) in
    record {
      byte = first.byte;
      begins = first.begins;
      no_space = ne_eqb first.byte 32 (λ e. let above = first.above in omega arith);
    }

date_starts : (strict : Bool) (text : List ℕ) (day : ℤ) → SpellsDate strict text day → StartsApart text
date_starts strict text day s =
    digit_starts text (digit_before text s.year_text s.after_text s.text_is
    (digits_begin s.year_text s.year_is.digits (let enough = s.year_is.enough in omega arith)))

out_date_starts : (offset : ℕ) (text : List ℕ) → OutDate offset text → StartsApart text
out_date_starts offset text (inl year) = digit_starts text (out_number_begins 4 0 9999 offset text year)
out_date_starts offset text (inr after) =
    digit_starts text (digit_before text after.front after.back after.text_is
    (subst BeginsWithDigit (sym after.first.same)
    (digits_begin after.value after.first.within.digits (let enough = after.first.within.enough in omega arith))))

Lawful-from_date : (per : ℕ)
    → Lawful (FromDate per) (λ w. AtEnd) (EitherOut OutDate (OutAfter (SpellsDate true) (λ day. OutAfterDate)))
    (λ strict. date_at strict >>= λ day. after_date_at strict >>= λ seconds.
    pure (record { per = per; day = day; seconds = seconds }))
Lawful-from_date per =
    Lawful-then {T = TheEnd per} {U = λ day. OutAfterDate}
    {q = λ day strict. after_date_at strict >>= λ seconds. pure (record { per = per; day = day; seconds = seconds })}
    Lawful-date
    (λ day. Lawful-map (λ seconds. record { per = per; day = day; seconds = seconds }) Lawful-after_date)
    (λ strict a b front back rest s t may.
    subst (λ (l : List ℕ). Stops is_ascii_digit (l ++ rest))
    (sym (t.text_is ∙ ap (λ (l : List ℕ). t.front ++ l) t.second.text_is ∙ append-nil t.front))
    (after_date_stops strict t.front rest t.a t.first may))
    (λ a front back offset s o. after_date_awaits offset back o)

-- a gap and what follows it
Lawful-after_gap : {B : Type 0} {T : Bool → List ℕ → B → Type 0} {O : Out} {q : Bool → UnitsParser B}
    → Lawful T (λ b. AtEnd) O q → ((strict : Bool) (text : List ℕ) (b : B) → T strict text b → StartsApart text)
    → ((offset : ℕ) (text : List ℕ) → O offset text → StartsApart text)
    → Lawful (Seq (λ strict. RepeatsSome 32) (λ gap. T)) (λ b. AtEnd) (OutAfterGap O)
    (λ strict. gap_at >>= λ gap. q strict)
Lawful-after_gap {T = T} {O = O} {q = q} law starts outs =
    Lawful-after {T = λ gap. T} {U = λ gap. O} {q = λ gap. q} (Lawful-some 32) (λ gap. law)
    (λ strict a b front back rest s t may. starts_no_space back rest (starts strict back b t))
    (λ a front back offset s o. let first = outs offset back o in
    whole_test Space first.byte false back first.begins first.no_space)

Lawful-from_since : (per : ℕ)
    → Lawful (FromSince per) (λ w. AtEnd)
    (OutAfterWord (codes "since") (OutAfterGap (EitherOut OutDate (OutAfter (SpellsDate true) (λ day. OutAfterDate)))))
    (λ strict. letters_at (codes "since") >>= λ since. gap_at >>= λ gap. date_at strict >>= λ day.
    after_date_at strict >>= λ seconds. pure (record { per = per; day = day; seconds = seconds }))
Lawful-from_since per =
    Lawful-after {T = λ u. Seq (λ strict. RepeatsSome 32) (λ gap. FromDate per)}
    {U = λ u. OutAfterGap (EitherOut OutDate (OutAfter (SpellsDate true) (λ day. OutAfterDate)))}
    {q = λ u strict. gap_at >>= λ gap. date_at strict >>= λ day. after_date_at strict >>= λ seconds.
    pure (record { per = per; day = day; seconds = seconds })} (Lawful-letters (codes "since"))
    (λ u. Lawful-after_gap {T = FromDate per} (Lawful-from_date per)
    (λ strict text w s. starts_before text s.front s.back s.text_is (date_starts strict s.front s.a s.first))
    (λ offset text o. elim o [
      | inl date ↦ out_date_starts offset text date
      | inr after ↦ starts_before text after.front after.back after.text_is
          (date_starts true after.front after.value after.first)
    ]))
    (λ strict a b front back rest s t may. tt) (λ a front back offset s o. tt)

Lawful-from_unit : Lawful FromUnit (λ w. AtEnd)
    (EitherOut (IsWrong SpellsLetters (λ word. Stops is_ascii_alphabetic) (λ word. seconds_per word ≡ None))
    (OutAfter (SpellsUnit true) (λ per. OutAfterUnit)))
    (λ strict. unit_at strict >>= λ per. gap_at >>= λ gap. letters_at (codes "since") >>= λ since. gap_at >>= λ gap.
    date_at strict >>= λ day. after_date_at strict >>= λ seconds.
    pure (record { per = per; day = day; seconds = seconds }))
Lawful-from_unit =
    Lawful-then {T = λ per. Seq (λ strict. RepeatsSome 32) (λ gap. FromSince per)} {U = λ per. OutAfterUnit}
    {q = λ per strict. gap_at >>= λ gap. letters_at (codes "since") >>= λ since. gap_at >>= λ gap.
    date_at strict >>= λ day. after_date_at strict >>= λ seconds.
    pure (record { per = per; day = day; seconds = seconds })} Lawful-unit
    (λ per. Lawful-after_gap {T = FromSince per} (Lawful-from_since per)
    (λ strict text w s. since_starts text s.front s.back s.text_is s.first)
    (λ offset text o. since_starts text o.front o.back o.text_is o.first))
    (λ strict a b front back rest s t may.
    begins_test is_ascii_alphabetic 32 false back rest (gap_begins t.a back t.front t.back t.text_is t.first) refl)
    (λ a front back offset s o.
    whole_test is_ascii_alphabetic 32 false back (gap_begins o.value back o.front o.back o.text_is o.first) refl)

out_unit_starts : (offset : ℕ) (text : List ℕ)
    → EitherOut (IsWrong SpellsLetters (λ word. Stops is_ascii_alphabetic) (λ word. seconds_per word ≡ None))
    (OutAfter (SpellsUnit true) (λ per. OutAfterUnit)) offset text → StartsApart text
out_unit_starts offset text (inl word) =
    starts_before text word.front word.more word.text_is
    (subst StartsApart (sym word.spelled.same) (letters_start word.value word.spelled.all word.spelled.some))
out_unit_starts offset text (inr unit) =
    starts_before text unit.front unit.back unit.text_is (unit_starts true unit.front unit.value unit.first)

Lawful-the_units : Lawful TheUnits (λ w. AtEnd) OutUnits units_at
unfolding units_at
Lawful-the_units =
    Lawful-after {T = λ front. FromUnit}
    {U = λ front. EitherOut
    (IsWrong SpellsLetters (λ word. Stops is_ascii_alphabetic) (λ word. seconds_per word ≡ None))
    (OutAfter (SpellsUnit true) (λ per. OutAfterUnit))} (Lawful-many 32) (λ front. Lawful-from_unit)
    (λ strict a b front back rest s t may. starts_no_space back rest
    (starts_before back t.front t.back t.text_is (unit_starts strict t.front t.a t.first)))
    (λ a front back offset s o. let first = out_unit_starts offset back o in
    whole_test Space first.byte false back first.begins first.no_space)

-- a gap, by how much longer than one space it is
gap_more : (count : ℕ) (text : List ℕ) → RepeatsSome 32 text count → (more : ℕ) × (text ≡ replicate (suc more) 32)
gap_more zero text s = let some = s.0 in absurd (omega arith)
gap_more (suc more) text s = (more, s.1)

to_units : (strict : Bool) (text : List ℕ) (w : Written) → TheUnits strict text w → SpellsUnits strict text w
to_units strict text w s =
    let unit = s.second in
    let gap = unit.second in
    let since = gap.second in
    let gap_after = since.second in
    let date = gap_after.second in
    let after = date.second in
    let value = after.second.value in
    let m = gap_more gap.a gap.front gap.first in
    let n = gap_more gap_after.a gap_after.front gap_after.first in
    record {
      front = s.front;
      unit_text = unit.front;
      gap = gap.front;
      since = since.front;
      gap_after = gap_after.front;
      date_text = date.front;
      end_text = after.front;
      front_is = record { count = s.a; text_is = s.first };
      unit_is = subst (λ (k : ℕ). SpellsUnit strict unit.front k) (ap (λ (v : Written). v.per) value) unit.first;
      gap_is = record { more = m.0; text_is = m.1 };
      since_is = since.first;
      gap_after_is = record { more = n.0; text_is = n.1 };
      date_is = subst (λ (k : ℤ). SpellsDate strict date.front k) (ap (λ (v : Written). v.day) value) date.first;
      end_is = subst (λ (k : ℤ). SpellsAfterDate strict after.front k) (ap (λ (v : Written). v.seconds) value)
          after.first;
      text_is = s.text_is
          ∙ ap (λ (l : List ℕ). s.front ++ l) (unit.text_is
          ∙ ap (λ (l : List ℕ). unit.front ++ l) (gap.text_is
          ∙ ap (λ (l : List ℕ). gap.front ++ l) (since.text_is
          ∙ ap (λ (l : List ℕ). since.front ++ l) (gap_after.text_is
          ∙ ap (λ (l : List ℕ). gap_after.front ++ l) (date.text_is
          ∙ ap (λ (l : List ℕ). date.front ++ l) (after.text_is
          ∙ ap (λ (l : List ℕ). after.front ++ l) after.second.text_is ∙ append-nil after.front))))));
    }

from_units : (strict : Bool) (text : List ℕ) (w : Written) → SpellsUnits strict text w → TheUnits strict text w
from_units strict text w s = record {
  a = s.front_is.count;
  front = s.front;
  back = s.unit_text ++ (s.gap ++ (s.since ++ (s.gap_after ++ (s.date_text ++ s.end_text))));
  first = s.front_is.text_is;
  second = record {
    a = w.per;
    front = s.unit_text;
    back = s.gap ++ (s.since ++ (s.gap_after ++ (s.date_text ++ s.end_text)));
    first = s.unit_is;
    second = record {
      a = suc s.gap_is.more;
      front = s.gap;
      back = s.since ++ (s.gap_after ++ (s.date_text ++ s.end_text));
      first = (omega arith, s.gap_is.text_is);
      second = record {
        a = tt;
        front = s.since;
        back = s.gap_after ++ (s.date_text ++ s.end_text);
        first = s.since_is;
        second = record {
          a = suc s.gap_after_is.more;
          front = s.gap_after;
          back = s.date_text ++ s.end_text;
          first = (omega arith, s.gap_after_is.text_is);
          second = record {
            a = w.day;
            front = s.date_text;
            back = s.end_text;
            first = s.date_is;
            second = record {
              a = w.seconds;
              front = s.end_text;
              back = [];
              first = s.end_is;
              second =
                  record { value = refl; text_is = refl };
              text_is = sym (append-nil s.end_text);
            };
            text_is = refl;
          };
          text_is = refl;
        };
        text_is = refl;
      };
      text_is = refl;
    };
    text_is = refl;
  };
  text_is = s.text_is;
}

pub Lawful-units : Lawful SpellsUnits (λ w. AtEnd) OutUnits units_at
Lawful-units = Lawful-as to_units from_units Lawful-the_units
