-- The form of digits, which tests no ranges: it depends on its own bytes alone, and where it fails too few were read.
use Rattle.std.proofs.Common.{◌≡◌, ◌⊎◌, inl, inr, ℕ, zero, suc, ◌+◌, ◌-◌, ◌<◌, ◌≤◌, Bool, true, false, cond, ltb, List, [], ◌∷◌, ◌++◌, length, take, drop, replicate, Err, refl, sym, ap, subst, ◌∙◌, length-append, length-take, arith}
use Rattle.std.proofs.lemmas.Bool.{ltb-true}
use Rattle.std.proofs.lemmas.List.{length-replicate}
use Rattle.std.specs.Char.{is_ascii_digit}
use Rattle.std.specs.List.{prefix_len, list_all}
use Rattle.fm_base.specs.Input.{Input}
use Rattle.nc_model.specs.UnitsRanges.{EndsDigits}
use Rattle.nc_model.specs.UnitsReading.{past, digits_at}
use Rattle.nc_model.specs.UnitsSpelling.{SpellsDigits}
use Rattle.fm_base.proofs.Exact.{input, Stops, Anything, done}
use Rattle.fm_base.proofs.ListLemmas.{agree_less, Agree}
use Rattle.fm_base.proofs.Local.{Local, Beyond, fault_is}
use Rattle.fm_base.proofs.Parts.{Part}
use Rattle.tm_units.proofs.InstantLemmas.{and_parts}
use Rattle.tm_units.proofs.Lawful.{offsets}
use Rattle.tm_units.proofs.UnitsDigits.{checked, checked-few, digits_of, digits_is, AreIn, digits_cases, digits_read, Exact-digits}
use Rattle.tm_units.proofs.UnitsRuns.{run_passes}
use Rattle.tm_units.proofs.UnitsTerms.{fails_after, prefix_agree_within, short}

-- as many digits as there may be, or a byte after them that is none
pub full_or_ends : (test : ℕ → Bool) (most : ℕ) (rest : List ℕ)
    → (prefix_len test (take most rest) ≡ most) ⊎ Stops test (drop (prefix_len test (take most rest)) rest)
full_or_ends test zero rest = inl refl
full_or_ends test (suc most) [] = inr refl
full_or_ends test (suc most) (x ∷ rest) = by_first (test x) refl (full_or_ends test most rest)
  where
    by_first : (b : Bool) → test x ≡ b → (prefix_len test (take most rest) ≡ most)
        ⊎ Stops test (drop (prefix_len test (take most rest)) rest)
        → (cond b (1 + prefix_len test (take most rest)) 0 ≡ suc most)
        ⊎ Stops test (drop (cond b (1 + prefix_len test (take most rest)) 0) (x ∷ rest))
    by_first true is (inl full) = inl (omega arith)
    by_first true is (inr ends) =
        let longer : 1 + prefix_len test (take most rest) ≡ suc (prefix_len test (take most rest)) = omega arith in
        inr (subst (λ (n : ℕ). Stops test (drop n (x ∷ rest))) (sym longer) ends)
    by_first false is h = inr is

pub digits_size : (most : ℕ) (rest : List ℕ) → length (take (digits_of most rest) rest) ≡ digits_of most rest
digits_size most rest = let fits = short is_ascii_digit most rest in
    omega (arith, length-take (digits_of most rest) rest)

-- the digits in front are as many as there may be, or end
pub digits_end : (most : ℕ) (rest : List ℕ)
    → EndsDigits most (take (digits_of most rest) rest) (drop (digits_of most rest) rest)
digits_end most rest = elim (full_or_ends is_ascii_digit most rest) [
  | inl full ↦ inl (digits_size most rest ∙ full)
  | inr ends ↦ inr ends
]

-- digits, and zeros after them
digits_filled : (digits : List ℕ) (n : ℕ) → list_all is_ascii_digit digits ≡ true
    → list_all is_ascii_digit (digits ++ replicate n 48) ≡ true
digits_filled [] zero all = refl
digits_filled [] (suc n) all = digits_filled [] n refl
digits_filled (x ∷ digits) n all =
    let parts = and_parts (is_ascii_digit x) (list_all is_ascii_digit digits) all in
    rw (parts.0, digits_filled digits n parts.1) refl

filled : (fewest most low high : ℕ) (digits : List ℕ) → fewest ≤ most → length digits ≤ fewest
    → list_all is_ascii_digit digits ≡ true
    → SpellsDigits false fewest most low high (digits ++ replicate (fewest - length digits) 48)
    (digits ++ replicate (fewest - length digits) 48)
filled fewest most low high digits wide few all =
    let zeros : List ℕ = replicate (fewest - length digits) 48 in
    let size : length (digits ++ zeros) ≡ fewest =
    omega (arith, length-append digits zeros, length-replicate {A = ℕ} (fewest - length digits) 48) in
    record {
      same = refl;
      within = record {
        digits = digits_filled digits (fewest - length digits) all;
        enough = omega arith;
        few = omega arith;
        value = refl;
        low_is = λ no. absurd cc;
        high_is = λ no. absurd cc;
      };
    }

-- digits of a text that begins with the same ones and the same next byte
digits_same : (strict : Bool) (fewest most low high at : ℕ) (rest other : List ℕ)
    → Agree (suc (digits_of most rest)) rest other → digits_at strict fewest most low high (input at other)
    ≡ checked strict fewest low high at (take (digits_of most rest) rest) (past (digits_of most rest) (input at other))
digits_same strict fewest most low high at rest other same =
    let count = digits_of most rest in
    digits_is strict fewest most low high at other
    ∙ ap (λ (n : ℕ). checked strict fewest low high at (take n other) (past n (input at other)))
    (prefix_agree_within is_ascii_digit most rest other same)
    ∙ ap (λ (l : List ℕ). checked strict fewest low high at l (past count (input at other)))
    (sym (agree_less count (suc count) rest other (omega arith) same))

-- the form of digits: they are too few, or they are taken
form_cases : (fewest most low high at : ℕ) (rest : List ℕ)
    → (few : Bool) × AreIn false fewest most low high at rest few
form_cases fewest most low high at rest = elim (digits_cases false fewest most low high at rest) [
  | inl out ↦ let no = out.out in absurd cc
  | inr c ↦ c
]

-- too few digits
record AreFew (fewest most low high at : ℕ) (rest : List ℕ) (bad : ℕ) : Type 0 where
  bad_is : bad ≡ at + digits_of most rest
  below : length (take (digits_of most rest) rest) < fewest
  few_is : ltb (length (take (digits_of most rest) rest)) fewest ≡ true

form_few : (fewest most low high at : ℕ) (rest : List ℕ) (bad : ℕ)
    → digits_at false fewest most low high (input at rest) ≡ Err bad → AreFew fewest most low high at rest bad
form_few fewest most low high at rest bad e =
    let c = form_cases fewest most low high at rest in by_few c.0 c.1
  where
    by_few : (few : Bool) → AreIn false fewest most low high at rest few → AreFew fewest most low high at rest bad
    by_few true few = record {
      bad_is = sym (fault_is {A = List ℕ} (at + digits_of most rest) bad (sym few.said ∙ e));
      below = ltb-true _ _ few.few_is;
      few_is = few.few_is;
    }
    by_few false good = let no = sym e ∙ good.said in absurd cc

pub form_local : (fewest most low high : ℕ) → Local offsets (digits_at false fewest most low high)
form_local fewest most low high = record {
  takes = λ at rest digits j e.
      let r = digits_read false fewest most low high at rest digits j e in
      let count = digits_of most rest in
      record {
        count = count;
        input_is = sym r.input_is;
        within = short is_ascii_digit most rest;
        again = λ other looked.
            digits_same false fewest most low high at rest other
            (agree_less (suc count) (count + 1) rest other (omega arith) looked)
            ∙ checked-few false fewest low high at (take count rest) (past count (input at other)) false refl
            r.good.few_is
            ∙ ap (λ (l : List ℕ). done {A = List ℕ × Input} (l, past count (input at other))) r.digits_are;
      };
  fails = λ at rest bad e.
      let few = form_few fewest most low high at rest bad e in
      let count = digits_of most rest in
      fails_after (digits_at false fewest most low high) at rest bad count few.bad_is (short is_ascii_digit most rest)
      (λ other same. digits_same false fewest most low high at rest other same
      ∙ checked-few false fewest low high at (take count rest) (past count (input at other)) true refl few.few_is
      ∙ ap (λ (n : ℕ). Err n) (sym few.bad_is));
  forward = λ at rest. let c = form_cases fewest most low high at rest in by_few at rest c.0 c.1;
}
  where
    by_few : (at : ℕ) (rest : List ℕ) (few : Bool) → AreIn false fewest most low high at rest few
        → Beyond offsets at (digits_at false fewest most low high (input at rest))
    by_few at rest true few = subst (λ r. Beyond offsets at r) (sym few.said) (omega arith)
    by_few at rest false good = subst (λ r. Beyond offsets at r) (sym good.said) (omega arith)

pub form_digits : (fewest most low high : ℕ) → fewest ≤ most
    → Part offsets Anything (SpellsDigits false fewest most low high) (digits_at false fewest most low high)
form_digits fewest most low high wide = record {
  local = form_local fewest most low high;
  takes = λ i digits j of e. (Exact-digits false fewest most low high).takes i digits j e;
  fails = λ at rest bad of e.
      let few = form_few fewest most low high at rest bad e in
      let digits = take (digits_of most rest) rest in
      let below = few.below in
      record {
        count = digits_of most rest;
        stands = few.bad_is;
        within = short is_ascii_digit most rest;
        some = record {
          text = digits ++ replicate (fewest - length digits) 48;
          a = digits ++ replicate (fewest - length digits) 48;
          spelled = filled fewest most low high digits wide (omega arith) (run_passes is_ascii_digit rest most);
        };
        more = replicate (fewest - length digits) 48;
        begins = refl;
      };
  some = record {
    text = [] ++ replicate (fewest - length {A = ℕ} []) 48;
    a = [] ++ replicate (fewest - length {A = ℕ} []) 48;
    spelled = filled fewest most low high [] wide (omega arith) refl;
  };
}
