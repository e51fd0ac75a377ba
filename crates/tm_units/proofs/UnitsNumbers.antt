-- What holds of the digits of numbers, and of numbers.
use Rattle.std.proofs.Common.{◌≡◌, ◌⊎◌, inl, inr, ℕ, ◌+◌, ◌<◌, ◌≤◌, Bool, true, false, ltb, List, [], length, take, drop, Err, refl, sym, ap, ap₂, subst, ◌∙◌, length-take, take-append-drop, arith}
use Rattle.std.proofs.lemmas.Bool.{ltb-true, lt-ltb, or_cases, or_left, or_right, cases_lt}
use Rattle.std.proofs.lemmas.List.{append-nil}
use Rattle.std.proofs.lemmas.List.Sums.{prefix_len-le-length}
use Rattle.std.specs.Char.{is_ascii_digit}
use Rattle.fm_base.specs.Input.{Input}
use Rattle.fm_base.specs.Parser.{pure}
use Rattle.nc_model.specs.Stamp.{number_of}
use Rattle.nc_model.specs.UnitsRanges.{EndsDigits, OutNumber}
use Rattle.nc_model.specs.UnitsReading.{past, digits_at, number_at}
use Rattle.nc_model.specs.UnitsSpelling.{SpellsNumberWithin, SpellsDigits}
use Rattle.fm_base.proofs.Exact.{input, Stops, Anything, Is, done, onto}
use Rattle.fm_base.proofs.Local.{Beyond, fault_is}
use Rattle.tm_units.proofs.Lawful.{offsets, IsOutAt, Lawful, Seq, Lawful-pure, Lawful-as, Lawful-before, Lawful-first, Lawful-map}
use Rattle.tm_units.proofs.UnitsDigits.{is_out, checked-out, checked-few, digits_of, digits_is, AreOut, AreIn, digits_cases, digits_read, digits_count, digits_checked, Exact-digits}
use Rattle.tm_units.proofs.UnitsForms.{digits_size, digits_end, form_local, form_digits}
use Rattle.tm_units.proofs.UnitsRuns.{run_passes}

-- a number out of its range, which stands whole
out_here : (fewest most low high at : ℕ) (rest : List ℕ) → AreOut true fewest most low high at rest
    → 0 < digits_of most rest → OutNumber most low high 0 rest
out_here fewest most low high at rest out some =
    let count = digits_of most rest in
    let size = digits_size most rest in
    record {
      value = take count rest;
      front = take count rest;
      more = drop count rest;
      here = refl;
      spelled = record {
        same = refl;
        all = run_passes is_ascii_digit rest most;
        some = omega arith;
        few = short_most (digits_end most rest);
      };
      ends = digits_end most rest;
      wrong = elim (or_cases (ltb (number_of (take count rest)) low) (ltb high (number_of (take count rest))) out.out) [
        | inl below ↦ inl (ltb-true _ _ below)
        | inr above ↦ inr (ltb-true _ _ above)
      ];
      text_is = sym (take-append-drop count rest);
    }
  where
    short_most : EndsDigits most (take (digits_of most rest) rest) (drop (digits_of most rest) rest)
        → length (take (digits_of most rest) rest) ≤ most
    short_most ends =
        let within = prefix_len-le-length is_ascii_digit (take most rest) in
        omega (arith, length-take most rest, digits_size most rest)

pub Lawful-digits : (fewest most low high : ℕ) → 1 ≤ fewest → fewest ≤ most
    → Lawful (λ strict. SpellsDigits strict fewest most low high) (EndsDigits most) (OutNumber most low high)
    (λ strict. digits_at strict fewest most low high)
Lawful-digits fewest most low high some wide = record {
  exact = λ strict. Exact-digits strict fewest most low high;
  form = form_digits fewest most low high wide;
  same = λ i x e.
      let r = digits_read true fewest most low high i.at i.rest x.0 x.1 e in
      let count = digits_of most i.rest in
      digits_is false fewest most low high i.at i.rest
      ∙ checked-few false fewest low high i.at (take count i.rest) (past count i) false refl r.good.few_is
      ∙ ap₂ (λ (d : List ℕ) (k : Input). done {A = List ℕ × Input} (d, k)) r.digits_are r.input_is;
  fails = λ at rest bad e. elim (digits_cases true fewest most low high at rest) [
    | inl out ↦
        let start : at ≡ bad = fault_is {A = List ℕ} at bad (sym out.said ∙ e) in
        elim (cases_lt 0 (digits_of most rest)) [
          | inl there ↦ inr (record {
            offset = 0;
            bad_is = omega arith;
            out = out_here fewest most low high at rest out there;
            beyond = subst (λ (n : ℕ). Beyond offsets n (digits_at false fewest most low high (input at rest))) start
                ((form_local fewest most low high).forward at rest);
          })
          | inr none ↦
              let size = digits_size most rest in
              let few = lt-ltb (length (take (digits_of most rest) rest)) fewest (omega arith) in
              let here : at + digits_of most rest ≡ bad = omega arith in
              inl (form_is at rest few ∙ ap (λ (n : ℕ). Err n) here)
        ]
    | inr c ↦ by_few at rest bad e c.0 c.1
  ];
  refuses = λ at rest offset o.
      let front = o.front in
      let same = o.spelled.same in
      let count = digits_count most front o.value o.more same o.spelled.all o.spelled.few o.ends in
      let out : is_out true low high front ≡ true =
      subst (λ (l : List ℕ). is_out true low high l ≡ true) (sym same) (elim o.wrong [
        | inl below ↦ or_left _ _ (lt-ltb _ _ below)
        | inr above ↦ or_right _ _ (lt-ltb _ _ above)
      ]) in
      let start : at ≡ at + offset = let here = o.here in omega arith in
      ap (λ (l : List ℕ). digits_at true fewest most low high (input at l)) o.text_is
      ∙ digits_checked true fewest most low high at front o.more count
      ∙ checked-out true fewest low high at front (input (at + length front) o.more) out
      ∙ ap (λ (n : ℕ). Err n) start;
}
  where
    form_is : (at : ℕ) (rest : List ℕ) → ltb (length (take (digits_of most rest) rest)) fewest ≡ true
        → digits_at false fewest most low high (input at rest) ≡ Err (at + digits_of most rest)
    form_is at rest few = digits_is false fewest most low high at rest
        ∙ checked-few false fewest low high at (take (digits_of most rest) rest)
        (past (digits_of most rest) (input at rest)) true refl few

    by_few : (at : ℕ) (rest : List ℕ) (bad : ℕ) → digits_at true fewest most low high (input at rest) ≡ Err bad
        → (few : Bool) → AreIn true fewest most low high at rest few
        → (digits_at false fewest most low high (input at rest) ≡ Err bad)
        ⊎ IsOutAt (OutNumber most low high) (digits_at false fewest most low high) at rest bad
    by_few at rest bad e true few = inl (form_is at rest few.few_is ∙ sym few.said ∙ e)
    by_few at rest bad e false good = let no = sym e ∙ good.said in absurd cc

-- digits, by the number that they write
to_number : (fewest most low high : ℕ) (strict : Bool) (text : List ℕ) (n : ℕ)
    → Seq (λ strict. SpellsDigits strict fewest most low high) (λ digits strict. Is (number_of digits)) strict text n
    → SpellsNumberWithin strict fewest most low high text n
to_number fewest most low high strict text n s =
    let whole : text ≡ s.a = s.text_is ∙ onto s.front s.second.text_is ∙ append-nil s.front ∙ s.first.same in
    subst (λ (l : List ℕ). SpellsNumberWithin strict fewest most low high l n) (sym whole)
    (subst (λ (m : ℕ). SpellsNumberWithin strict fewest most low high s.a m) s.second.value s.first.within)

from_number : (fewest most low high : ℕ) (strict : Bool) (text : List ℕ) (n : ℕ)
    → SpellsNumberWithin strict fewest most low high text n
    → Seq (λ strict. SpellsDigits strict fewest most low high) (λ digits strict. Is (number_of digits)) strict text n
from_number fewest most low high strict text n s = record {
  a = text;
  front = text;
  back = [];
  first = record {
    same = refl;
    within = subst (λ (m : ℕ). SpellsNumberWithin strict fewest most low high text m) (sym s.value) s;
  };
  second = record { value = s.value; text_is = refl };
  text_is = sym (append-nil text);
}

pub Lawful-number : (fewest most low high : ℕ) → 1 ≤ fewest → fewest ≤ most
    → Lawful (λ strict. SpellsNumberWithin strict fewest most low high) (λ n. Stops is_ascii_digit)
    (OutNumber most low high) (λ strict. number_at strict fewest most low high)
unfolding number_at
Lawful-number fewest most low high some wide =
    Lawful-as (to_number fewest most low high) (from_number fewest most low high)
    (Lawful-map number_of (Lawful-before (λ digits rest stops. inr stops)
    (Lawful-digits fewest most low high some wide)))

-- a number of a fixed width, whatever follows
pub Lawful-fixed : (width low high : ℕ) → 1 ≤ width
    → Lawful (λ strict. SpellsNumberWithin strict width width low high) (λ n. Anything) (OutNumber width low high)
    (λ strict. number_at strict width width low high)
unfolding number_at
Lawful-fixed width low high some =
    Lawful-as (to_number width width low high) (from_number width width low high)
    (Lawful-first {T = λ digits strict. Is (number_of digits)} {q = λ digits strict. pure (number_of digits)}
    (Lawful-digits width width low high some (omega arith)) (λ digits. Lawful-pure (number_of digits))
    (λ strict a b front back rest s t may. let few = s.within.few in let enough = s.within.enough in
    inl (omega arith)))
