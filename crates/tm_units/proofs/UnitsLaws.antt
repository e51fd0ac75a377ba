-- What a result of reading units says of the text and the calendar, and that what is spelled is read.
use Rattle.std.proofs.Common.{◌≡◌, inl, inr, ℕ, suc, ◌+◌, ◌<◌, ◌≤◌, Bool, true, false, List, ◌++◌, length, take, replicate, Option, Result, Ok, Err, refl, sym, ap, subst, ◌∙◌, arith}
use Rattle.std.proofs.lemmas.Bool.{cases_lt}
use Rattle.std.proofs.lemmas.List.{length-replicate}
use Rattle.nc_model.specs.declared.units.UnitsFault.{UnitsFault}
use Rattle.nc_model.specs.declared.units.UnitsFault.TheVariants.{BadUnits}
use Rattle.fm_base.specs.Chain.{◌>>=◌, fault_as}
use Rattle.fm_base.specs.Input.{whole}
use Rattle.fm_base.specs.Parser.{value_of}
use Rattle.nc_model.specs.Units.{Settles, in_calendar, is_gregorian, is_proleptic, is_before_gregorian, units_of}
use Rattle.nc_model.specs.UnitsFaults.{EndsForm, IsWrongUnit, GoesWrongFirst}
use Rattle.nc_model.specs.UnitsRanges.{OutUnits}
use Rattle.nc_model.specs.UnitsReading.{UnitsOutcome as Outcome, units_at, Written, written_or_fault}
use Rattle.nc_model.specs.UnitsSpelling.{SpellsUnits}
use Rattle.fm_base.proofs.ChainLemmas.{same_Ok}
use Rattle.fm_base.proofs.ListLemmas.{agree_less}
use Rattle.fm_base.proofs.Local.{Beyond, fault_is}
use Rattle.fm_base.proofs.Parts.{begun_same}
use Rattle.tm_units.proofs.Lawful.{offsets}
use Rattle.tm_units.proofs.UnitsReadings.{Lawful-units}
use Rattle.tm_units.proofs.UnitsSpelled.{spelled_read, read_spelled}

-- what a calendar makes of a reading
calendar_settles : (text : List ℕ) (calendar : Option (List ℕ)) (w : Written) → SpellsUnits true text w
    → Settles text calendar (in_calendar calendar w)
unfolding in_calendar
calendar_settles text calendar w s =
    by_tests (is_gregorian calendar) (is_proleptic calendar) (is_before_gregorian w.day) refl refl refl
  where
    by_tests : (a b c : Bool) → is_gregorian calendar ≡ a → is_proleptic calendar ≡ b → is_before_gregorian w.day ≡ c
        → Settles text calendar (in_calendar calendar w)
    by_tests false b c ea eb ec = rw ea (w, s, ea)
    by_tests true true c ea eb ec = rw (ea, eb) (w, s, rw (ea, eb) refl)
    by_tests true false true ea eb ec = rw (ea, eb, ec) (w, s, eb, ec)
    by_tests true false false ea eb ec = rw (ea, eb, ec) (w, s, rw (ea, eb, ec) refl)

-- a text that is spelled doesn't go wrong
not_wrong : (strict : Bool) (other : List ℕ) (units : Written) (offset : ℕ) → SpellsUnits strict other units
    → units_at strict (whole other) ≡ Err offset → ⊥
not_wrong strict other units offset s e = let no = sym (spelled_read strict other units s) ∙ e in absurd cc

-- where the form goes wrong in reading, it ends
form_ends : (text : List ℕ) (offset : ℕ) → units_at false (whole text) ≡ Err offset → EndsForm offset text
form_ends text offset e =
    let b = Lawful-units.form.fails 0 text offset tt e in
    let begun : b.count ≡ offset = let is = b.stands in omega arith in
    let f = Lawful-units.form.local.fails 0 text offset e in
    record {
      begun = record {
        other = b.some.text;
        units = b.some.a;
        within = subst (λ (n : ℕ). n ≤ length text) begun b.within;
        spelled = b.some.spelled;
        same = subst (λ (n : ℕ). take n b.some.text ≡ take n text) begun (sym (begun_same b));
      };
      nowhere = λ other units s same. elim f.why [
        | inl w ↦
            let here : f.count ≡ offset = let is = w.stands in omega arith in
            let within = w.within in
            let one = w.uncut in
            not_wrong false other units offset s (w.again other
            (agree_less (f.count + f.size) (suc offset) text other (omega arith) (sym same)))
        | inr short ↦ absurd short.fault_is
      ];
    }

-- no text ends its form at two offsets
form_ends_once : (text : List ℕ) (m n : ℕ) → EndsForm m text → EndsForm n text → m < n → ⊥
form_ends_once text m n one other less =
    let begun = other.begun in
    one.nowhere begun.other begun.units begun.spelled
    (agree_less (suc m) n begun.other text (omega arith) begun.same)

-- where the form ends, reading it goes wrong
ends_form : (text : List ℕ) (offset : ℕ) → EndsForm offset text → units_at false (whole text) ≡ Err offset
ends_form text offset ends = by_reading (units_at false (whole text)) refl
  where
    by_reading : (r : Outcome Written) → units_at false (whole text) ≡ r → r ≡ Err offset
    by_reading (Ok x) is = absurd (ends.nowhere text x.0 (read_spelled false text x.0 x.1 is) refl)
    by_reading (Err bad) is =
        let other = form_ends text bad is in
        elim (cases_lt bad offset) [
          | inl less ↦ absurd (form_ends_once text bad offset other ends less)
          | inr more ↦ elim (cases_lt offset bad) [
            | inl less ↦ absurd (form_ends_once text offset bad ends other less)
            | inr same ↦ let is : bad ≡ offset = omega arith in ap (λ (n : ℕ). Err n) is
          ]
        ]

-- a value out of its range is where reading goes wrong
out_fails : (text : List ℕ) (offset : ℕ) → OutUnits offset text → units_at true (whole text) ≡ Err offset
out_fails text offset out =
    let here : 0 + offset ≡ offset = omega arith in
    Lawful-units.refuses 0 text offset out ∙ ap (λ (n : ℕ). Err n) here

-- where reading goes wrong, the text does, and at no offset before
wrong_first : (text : List ℕ) (offset : ℕ) → units_at true (whole text) ≡ Err offset → GoesWrongFirst offset text
wrong_first text offset e = elim (Lawful-units.fails 0 text offset e) [
  | inl form ↦ record {
    wrong = inl (form_ends text offset form);
    first = λ before less w. elim w [
      | inl ends ↦ form_ends_once text before offset ends (form_ends text offset form) less
      | inr out ↦ no_out before less out
    ];
  }
  | inr o ↦
      let here : o.offset ≡ offset = let is = o.bad_is in omega arith in
      record {
        wrong = inr (subst (λ (n : ℕ). OutUnits n text) here o.out);
        first = λ before less w. elim w [
          | inl ends ↦
              let later : offset ≤ before =
              subst (λ r. Beyond offsets offset r) (ends_form text before ends) o.beyond in
              absurd (omega arith)
          | inr out ↦ no_out before less out
        ];
      }
]
  where
    no_out : (before : ℕ) → before < offset → OutUnits before text → ⊥
    no_out before less out =
        let same : before ≡ offset = fault_is {A = Written} before offset (sym (out_fails text before out) ∙ e) in
        absurd (omega arith)

-- a text goes wrong first where reading does
first_wrong : (text : List ℕ) (offset : ℕ) → GoesWrongFirst offset text → units_at true (whole text) ≡ Err offset
first_wrong text offset w = by_reading (units_at true (whole text)) refl
  where
    by_reading : (r : Outcome Written) → units_at true (whole text) ≡ r → r ≡ Err offset
    by_reading (Ok x) is = elim w.wrong [
      | inl ends ↦
          let no = sym (Lawful-units.same (whole text) x is) ∙ ends_form text offset ends in absurd cc
      | inr out ↦ sym is ∙ out_fails text offset out
    ]
    by_reading (Err bad) is =
        let other = wrong_first text bad is in
        elim (cases_lt bad offset) [
          | inl less ↦ absurd (w.first bad less other.wrong)
          | inr more ↦ elim (cases_lt offset bad) [
            | inl less ↦ absurd (other.first offset less w.wrong)
            | inr same ↦ let is : bad ≡ offset = omega arith in ap (λ (n : ℕ). Err n) is
          ]
        ]

-- a word that is no unit is out of its range
unit_out : (text : List ℕ) (offset : ℕ) → IsWrongUnit offset text → OutUnits offset text
unit_out text offset w = record {
  value = offset;
  front = replicate offset 32;
  back = w.word ++ w.more;
  left = 0;
  first = refl;
  next = inl (record {
    value = w.word;
    front = w.word;
    more = w.more;
    here = refl;
    spelled = record { same = refl; all = w.letters; some = w.some };
    ends = w.ends;
    wrong = w.unknown;
    text_is = refl;
  });
  text_is = w.text_is;
  offset_is = let size = length-replicate {A = ℕ} offset 32 in omega (arith, size);
}

-- a text that is read as units spells them
pub written-from_read : (text : List ℕ) (w : Written) → written_or_fault text ≡ Ok w → SpellsUnits true text w
unfolding written_or_fault
written-from_read text w e = by_reading (units_at true (whole text)) refl e
  where
    by_reading : (r : Outcome Written) → units_at true (whole text) ≡ r → fault_as BadUnits (value_of r) ≡ Ok w
        → SpellsUnits true text w
    by_reading (Ok x) is k =
        subst (λ (v : Written). SpellsUnits true text v) (same_Ok {E = UnitsFault} x.0 w k)
        (read_spelled true text x.0 x.1 is)
    by_reading (Err offset) is k = absurd cc

-- a text that spells units is read as those
pub read-from_written : (text : List ℕ) (w : Written) → SpellsUnits true text w → written_or_fault text ≡ Ok w
unfolding written_or_fault
read-from_written text w s =
    ap (λ (r : Outcome Written). fault_as BadUnits (value_of r)) (spelled_read true text w s)

-- a text that is refused goes wrong there first
pub wrong-from_refused : (text : List ℕ) (offset : ℕ) → written_or_fault text ≡ Err (BadUnits offset)
    → GoesWrongFirst offset text
unfolding written_or_fault
wrong-from_refused text offset e = by_reading (units_at true (whole text)) refl e
  where
    by_reading : (r : Outcome Written) → units_at true (whole text) ≡ r
        → fault_as BadUnits (value_of r) ≡ Err (BadUnits offset) → GoesWrongFirst offset text
    by_reading (Ok x) is k = absurd cc
    by_reading (Err bad) is k = let same : bad ≡ offset = cc in
        subst (λ (n : ℕ). GoesWrongFirst n text) same (wrong_first text bad is)

-- a text that goes wrong first at an offset is refused there
pub refused-from_wrong : (text : List ℕ) (offset : ℕ) → GoesWrongFirst offset text
    → written_or_fault text ≡ Err (BadUnits offset)
unfolding written_or_fault
refused-from_wrong text offset w =
    ap (λ (r : Outcome Written). fault_as BadUnits (value_of r)) (first_wrong text offset w)

-- a text goes wrong first at one offset
pub wrong_once : (text : List ℕ) (one other : ℕ) → GoesWrongFirst one text → GoesWrongFirst other text → one ≡ other
wrong_once text one other w v =
    fault_is {A = Written} one other (sym (first_wrong text one w) ∙ first_wrong text other v)

-- what a result says
pub units_settle : (text : List ℕ) (calendar : Option (List ℕ)) → Settles text calendar (units_of text calendar)
unfolding units_of written_or_fault
units_settle text calendar = by_reading (units_at true (whole text)) refl
  where
    by_reading : (r : Outcome Written) → units_at true (whole text) ≡ r
        → Settles text calendar (fault_as BadUnits (value_of r) >>= in_calendar calendar)
    by_reading (Ok x) is = calendar_settles text calendar x.0 (read_spelled true text x.0 x.1 is)
    by_reading (Err offset) is = (wrong_first text offset is, λ w s. not_wrong true text w offset s is)

-- what is spelled is read
pub units_of-spelled : (text : List ℕ) (calendar : Option (List ℕ)) (w : Written) → SpellsUnits true text w
    → units_of text calendar ≡ in_calendar calendar w
unfolding units_of
units_of-spelled text calendar w s =
    ap (λ (r : Result Written UnitsFault). r >>= in_calendar calendar) (read-from_written text w s)

-- a text is refused where it goes wrong first
pub units_of-wrong_first : (text : List ℕ) (calendar : Option (List ℕ)) (offset : ℕ) → GoesWrongFirst offset text
    → units_of text calendar ≡ Err (BadUnits offset)
unfolding units_of
units_of-wrong_first text calendar offset w =
    ap (λ (r : Result Written UnitsFault). r >>= in_calendar calendar) (refused-from_wrong text offset w)

-- an unknown unit is refused at its first letter
pub units_of-wrong_unit : (text : List ℕ) (calendar : Option (List ℕ)) (offset : ℕ) → IsWrongUnit offset text
    → units_of text calendar ≡ Err (BadUnits offset)
unfolding units_of written_or_fault
units_of-wrong_unit text calendar offset w =
    ap (λ (r : Outcome Written). fault_as BadUnits (value_of r) >>= in_calendar calendar)
    (out_fails text offset (unit_out text offset w))

pub ruleset units_laws = (units_settle, units_of-spelled)
