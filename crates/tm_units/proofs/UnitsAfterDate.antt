-- What holds of the end of a text after its date.
use Rattle.std.proofs.Common.{◌≡◌, ◌⊎◌, inl, inr, ℕ, zero, suc, Bool, true, false, ◌==◌, List, [], ◌++◌, replicate, codes, refl, sym, ap, ◌∙◌, ℤ, pos, arith}
use Rattle.std.proofs.lemmas.Bool.{eqb-false, ne_eqb}
use Rattle.std.proofs.lemmas.List.{append-nil}
use Rattle.std.proofs.Math.Dec.{eqb-suc-zero}
use Rattle.std.specs.Char.{is_ascii_digit, eq_ignore_ascii_case}
use Rattle.nc_model.specs.UnitsRanges.{Out, OutClock, OutAfterDate, OutAfterWord, OutAfterGap, OutAfterSpaces}
use Rattle.nc_model.specs.UnitsReading.{next_passes, after_date_at}
use Rattle.nc_model.specs.UnitsSpelling.{SpellsClock, SpellsAfterDate}
use Rattle.fm_base.proofs.Exact.{input, Stops, AtEnd}
use Rattle.tm_units.proofs.Lawful.{Lawful, Seq, Lawful-as, Lawful-after, Lawful-outs, after_nothing}
use Rattle.tm_units.proofs.LawfulChoices.{Optional, Allowed, Lawful-either, Lawful-allowed}
use Rattle.tm_units.proofs.UnitsBegins.{Begins, begins_test, whole_test}
use Rattle.tm_units.proofs.UnitsEnds.{Lawful-clock, clock_starts, out_clock_starts}
use Rattle.tm_units.proofs.UnitsRuns.{AreLetters, Repeats}
use Rattle.tm_units.proofs.UnitsTerms.{Lawful-letter, Lawful-many}
use Rattle.tm_units.proofs.UnitsTimes.{EndsTime}
use Rattle.tm_units.proofs.UnitsZoneAfter.{Space, starts_no_space, starts_goes_on, spaces_end, at_end}
use Rattle.tm_units.proofs.UnitsZoneWords.{nothing_ends, BeginsWithLetter, word_begins, letter_is, letter_starts}

-- spaces, and then the end or a time
abbrev AfterGap : ℕ → Bool → List ℕ → ℤ → Type 0
AfterGap gap strict = Optional (pos 0) (Allowed (gap == 0) (SpellsClock strict))

abbrev Spaced : Bool → List ℕ → ℤ → Type 0
Spaced = Seq (λ strict. Repeats 32) AfterGap

abbrev Marked : Bool → List ℕ → ℤ → Type 0
Marked = Seq (λ strict. AreLetters (codes "t")) (λ u strict. SpellsClock strict)

abbrev Letter : ℕ → Bool
Letter = λ other. eq_ignore_ascii_case other 116

-- a time may follow a gap
abbrev OutSpaced : Out
OutSpaced = OutAfterSpaces (λ gap offset text. ((gap == 0) ≡ false) × OutClock offset text)

after_gap_stops : (gap : ℕ) (strict : Bool) (back rest : List ℕ) (seconds : ℤ) → AfterGap gap strict back seconds
    → AtEnd rest → Stops Space (back ++ rest)
after_gap_stops gap strict back rest seconds (inl none) end =
    after_nothing (Stops Space) back rest none.0 (at_end (Stops Space) rest end refl)
after_gap_stops gap strict back rest seconds (inr s) end =
    starts_no_space back rest (clock_starts strict back seconds s.spelled)

marked_begins : (strict : Bool) (text : List ℕ) (seconds : ℤ) → Marked strict text seconds → BeginsWithLetter 116 text
marked_begins strict text seconds s = word_begins 116 [] text s.front s.back s.text_is s.first

spaced_is_not : (strict : Bool) (text rest : List ℕ) (seconds : ℤ) → Spaced strict text seconds → AtEnd rest
    → next_passes Letter (input 0 (text ++ rest)) ≡ false
spaced_is_not strict text rest seconds s end = by_count s.a s.first s.second
  where
    by_count : (count : ℕ) → s.front ≡ replicate count 32 → AfterGap count strict s.back seconds
        → next_passes Letter (input 0 (text ++ rest)) ≡ false
    by_count zero is (inl none) =
        let whole : text ≡ [] = s.text_is ∙ ap (λ (l : List ℕ). l ++ s.back) is ∙ none.0 in
        after_nothing (Stops Letter) text rest whole (at_end (Stops Letter) rest end refl)
    by_count zero is (inr t) = let good = t.good in absurd cc
    by_count (suc count) is t =
        begins_test Letter 32 false text rest
        (record { more = replicate count 32 ++ s.back; text_is = s.text_is ∙ ap (λ (l : List ℕ). l ++ s.back) is }) refl

-- what is out of its range after spaces begins with one
out_spaced_begins : (offset : ℕ) (text : List ℕ) → OutSpaced offset text → Begins text 32
out_spaced_begins offset text o = by_count o.value o.first o.next.0
  where
    by_count : (count : ℕ) → o.front ≡ replicate count 32 → (count == 0) ≡ false → Begins text 32
    by_count zero is some = absurd cc
    by_count (suc count) is some = record {
      more = replicate count 32 ++ o.back;
      text_is = o.text_is ∙ ap (λ (l : List ℕ). l ++ o.back) is;
    }

out_marked_begins : (offset : ℕ) (text : List ℕ) → OutAfterWord (codes "t") OutClock offset text
    → BeginsWithLetter 116 text
out_marked_begins offset text o = word_begins 116 [] text o.front o.back o.text_is o.first

to_gap : (offset : ℕ) (text : List ℕ) → OutSpaced offset text → OutAfterGap OutClock offset text
to_gap offset text o = record {
  value = o.value;
  front = o.front;
  back = o.back;
  left = o.left;
  first = (let some = eqb-false o.value 0 o.next.0 in omega (arith, some), o.first);
  next = o.next.1;
  text_is = o.text_is;
  offset_is = o.offset_is;
}

from_gap : (offset : ℕ) (text : List ℕ) → OutAfterGap OutClock offset text → OutSpaced offset text
from_gap offset text o = record {
  value = o.value;
  front = o.front;
  back = o.back;
  left = o.left;
  first = o.first.1;
  next = (ne_eqb o.value 0 (λ none. let some = o.first.0 in omega arith), o.next);
  text_is = o.text_is;
  offset_is = o.offset_is;
}

to_after : (strict : Bool) (text : List ℕ) (seconds : ℤ) → Marked strict text seconds ⊎ Spaced strict text seconds
    → SpellsAfterDate strict text seconds
to_after strict text seconds (inl s) = inr (record {
  break = s.front;
  clock_text = s.back;
  break_is = inl s.first;
  clock_is = s.second;
  text_is = s.text_is;
})
to_after strict text seconds (inr s) = by_gap s.a s.first s.second
  where
    by_gap : (gap : ℕ) → s.front ≡ replicate gap 32 → AfterGap gap strict s.back seconds
        → SpellsAfterDate strict text seconds
    by_gap gap is (inl none) =
        inl (
          record {
            count = gap;
            text_is = s.text_is ∙ ap (λ (l : List ℕ). s.front ++ l) none.0 ∙ append-nil s.front
                ∙ is;
          },
          none.1,
        )
    by_gap zero is (inr t) = let good = t.good in absurd cc
    by_gap (suc more) is (inr t) =
        inr (record {
          break = s.front;
          clock_text = s.back;
          break_is = inr (record { more = more; text_is = is });
          clock_is = t.spelled;
          text_is = s.text_is;
        })

from_after : (strict : Bool) (text : List ℕ) (seconds : ℤ) → SpellsAfterDate strict text seconds
    → Marked strict text seconds ⊎ Spaced strict text seconds
from_after strict text seconds (inl s) =
    inr (record {
      a = s.0.count;
      front = text;
      back = [];
      first = s.0.text_is;
      second = inl (refl, s.1);
      text_is = sym (append-nil text);
    })
from_after strict text seconds (inr s) = elim s.break_is [
  | inl t ↦
      inl (record {
        a = tt;
        front = s.break;
        back = s.clock_text;
        first = t;
        second = s.clock_is;
        text_is = s.text_is;
      })
  | inr gap ↦
      inr (record {
        a = suc gap.more;
        front = s.break;
        back = s.clock_text;
        first = gap.text_is;
        second = inr (record { good = eqb-suc-zero gap.more; spelled = s.clock_is });
        text_is = s.text_is;
      })
]

pub Lawful-after_date : Lawful SpellsAfterDate (λ seconds. AtEnd) OutAfterDate after_date_at
unfolding after_date_at
Lawful-after_date =
    Lawful-as to_after from_after
    (Lawful-outs
    (λ offset text o. elim o [ inl t ↦ inl t | inr gap ↦ inr (to_gap offset text gap) ])
    (λ offset text o. elim o [ inl t ↦ inl t | inr gap ↦ inr (from_gap offset text gap) ])
    (Lawful-either {S = Marked} {T = Spaced} Letter
    (Lawful-after {T = λ u strict. SpellsClock strict} {U = λ u. OutClock} (Lawful-letter 116) (λ u. Lawful-clock)
    (λ strict a b front back rest s t may. tt) (λ a front back offset s o. tt))
    (Lawful-after {T = AfterGap} {U = λ gap offset text. ((gap == 0) ≡ false) × OutClock offset text} (Lawful-many 32)
    (λ gap. Lawful-allowed {S = SpellsClock} (pos 0) (gap == 0) Lawful-clock
    (λ strict text seconds s. starts_goes_on text (clock_starts strict text seconds s))
    (λ offset rest o. starts_goes_on rest (out_clock_starts offset rest o)))
    (λ strict a b front back rest s t may. after_gap_stops a strict back rest b t may)
    (λ a front back offset s o. let first = out_clock_starts offset back o.1 in
    whole_test Space first.byte false back first.begins first.no_space))
    (λ strict text rest seconds s. letter_is 116 text rest (marked_begins strict text seconds s))
    spaced_is_not
    (λ offset rest o. let first = out_marked_begins offset rest o in
    whole_test Letter first.byte true rest first.begins first.same)
    (λ offset rest o. whole_test Letter 32 false rest (out_spaced_begins offset rest o) refl)))

-- what follows a date doesn't begin with a digit
pub after_date_stops : (strict : Bool) (text rest : List ℕ) (seconds : ℤ) → SpellsAfterDate strict text seconds
    → AtEnd rest → Stops is_ascii_digit (text ++ rest)
after_date_stops strict text rest seconds (inl s) end =
    (spaces_end s.0.count (text ++ rest) text rest refl s.0.text_is (at_end EndsTime rest end nothing_ends)).digit
after_date_stops strict text rest seconds (inr s) end = elim s.break_is [
  | inl t ↦
      let first = letter_starts 116 text (omega arith) (omega arith)
      (word_begins 116 [] text s.break s.clock_text s.text_is t) in
      begins_test is_ascii_digit first.byte false text rest first.begins first.plain.digit
  | inr gap ↦
      begins_test is_ascii_digit 32 false text rest (record {
        more = replicate gap.more 32 ++ s.clock_text;
        text_is = s.text_is ∙ ap (λ (l : List ℕ). l ++ s.clock_text) gap.text_is;
      }) refl
]

-- nor does it where a value is out of its range after a date
pub after_date_awaits : (offset : ℕ) (text : List ℕ) → OutAfterDate offset text → Stops is_ascii_digit text
after_date_awaits offset text (inl t) =
    let first = letter_starts 116 text (omega arith) (omega arith) (out_marked_begins offset text t) in
    whole_test is_ascii_digit first.byte false text first.begins first.plain.digit
after_date_awaits offset text (inr gap) =
    whole_test is_ascii_digit 32 false text (out_spaced_begins offset text (from_gap offset text gap)) refl
