-- What the digits of a number come to, and that they are read exactly.
use Rattle.std.proofs.Common.{◌≡◌, ◌⊎◌, inl, inr, ℕ, ◌+◌, ◌≤◌, Bool, true, false, cond, ◌||◌, ◌&&◌, ltb, List, ◌++◌, length, take, Ok, Err, refl, sym, ap, subst, ◌∙◌, length-take, take-append-drop, arith}
use Rattle.std.proofs.lemmas.Bool.{or_parts, ltb-false, le-ltb}
use Rattle.std.proofs.lemmas.List.Sums.{prefix_len-le-length}
use Rattle.std.proofs.Math.Seq.{drop-append_seam, take-append_seam}
use Rattle.std.specs.Char.{is_ascii_digit}
use Rattle.std.specs.List.{prefix_len, list_all}
use Rattle.fm_base.specs.Input.{Input}
use Rattle.fm_base.specs.Parser.{and_then}
use Rattle.nc_model.specs.Stamp.{number_of}
use Rattle.nc_model.specs.UnitsRanges.{EndsDigits}
use Rattle.nc_model.specs.UnitsReading.{UnitsOutcome as Outcome, past, digits_at}
use Rattle.nc_model.specs.UnitsSpelling.{AreDigitsWithin, SpellsDigits}
use Rattle.fm_base.proofs.Exact.{input, Took, done, ok_pair}
use Rattle.tm_units.proofs.Lawful.{ExactBy}
use Rattle.tm_units.proofs.UnitsRuns.{run_full, run_within, run_passes}

-- whether a number is out of its range, where this is tested
abbrev pub is_out : Bool → ℕ → ℕ → List ℕ → Bool
is_out strict low high digits = strict && (ltb (number_of digits) low || ltb high (number_of digits))

-- what the digits of a number come to
abbrev pub checked : Bool → ℕ → ℕ → ℕ → ℕ → List ℕ → Input → Outcome (List ℕ)
checked strict fewest low high at digits j =
    and_then (cond (is_out strict low high digits) (Err at) (done {A = List ℕ × Input} (digits, j)))
    (λ digits i. cond (ltb (length digits) fewest) (Err i.at) (Ok (digits, i)))

pub checked-out : (strict : Bool) (fewest low high at : ℕ) (digits : List ℕ) (j : Input)
    → is_out strict low high digits ≡ true → checked strict fewest low high at digits j ≡ Err at
checked-out strict fewest low high at digits j out =
    ap (λ (b : Bool). and_then (cond b (Err at) (done {A = List ℕ × Input} (digits, j)))
    (λ digits i. cond (ltb (length digits) fewest) (Err i.at) (done {A = List ℕ × Input} (digits, i)))) out

pub checked-few : (strict : Bool) (fewest low high at : ℕ) (digits : List ℕ) (j : Input) (few : Bool)
    → is_out strict low high digits ≡ false → ltb (length digits) fewest ≡ few
    → checked strict fewest low high at digits j ≡ cond few (Err j.at) (done {A = List ℕ × Input} (digits, j))
checked-few strict fewest low high at digits j few in_range is =
    ap (λ (b : Bool). and_then (cond b (Err at) (done {A = List ℕ × Input} (digits, j)))
    (λ digits i. cond (ltb (length digits) fewest) (Err i.at) (done {A = List ℕ × Input} (digits, i)))) in_range
    ∙ ap (λ (b : Bool). cond b (Err j.at) (done {A = List ℕ × Input} (digits, j))) is

-- the digits in front
abbrev pub digits_of : ℕ → List ℕ → ℕ
digits_of most rest = prefix_len is_ascii_digit (take most rest)

pub digits_is : (strict : Bool) (fewest most low high at : ℕ) (rest : List ℕ)
    → digits_at strict fewest most low high (input at rest)
    ≡ checked strict fewest low high at (take (digits_of most rest) rest) (past (digits_of most rest) (input at rest))
unfolding digits_at
digits_is strict fewest most low high at rest = refl

-- digits out of their range
pub record AreOut (strict : Bool) (fewest most low high at : ℕ) (rest : List ℕ) : Type 0 where
  pub out : is_out strict low high (take (digits_of most rest) rest) ≡ true
  pub said : digits_at strict fewest most low high (input at rest) ≡ Err at

-- digits in their range
pub record AreIn (strict : Bool) (fewest most low high at : ℕ) (rest : List ℕ) (few : Bool) : Type 0 where
  pub in_range : is_out strict low high (take (digits_of most rest) rest) ≡ false
  pub few_is : ltb (length (take (digits_of most rest) rest)) fewest ≡ few
  pub said : digits_at strict fewest most low high (input at rest)
      ≡ cond few (Err (at + digits_of most rest))
      (done {A = List ℕ × Input} (take (digits_of most rest) rest, past (digits_of most rest) (input at rest)))

-- digits are out of their range, too few, or a number
pub digits_cases : (strict : Bool) (fewest most low high at : ℕ) (rest : List ℕ)
    → AreOut strict fewest most low high at rest ⊎ ((few : Bool) × AreIn strict fewest most low high at rest few)
digits_cases strict fewest most low high at rest = by_out (is_out strict low high digits) refl
  where
    digits : List ℕ
    digits = take (digits_of most rest) rest

    j : Input
    j = past (digits_of most rest) (input at rest)

    by_out : (out : Bool) → is_out strict low high digits ≡ out
        → AreOut strict fewest most low high at rest ⊎ ((few : Bool) × AreIn strict fewest most low high at rest few)
    by_out true is = inl (record {
      out = is;
      said = digits_is strict fewest most low high at rest ∙ checked-out strict fewest low high at digits j is;
    })
    by_out false is = inr (
      ltb (length digits) fewest,
      record {
        in_range = is;
        few_is = refl;
        said = digits_is strict fewest most low high at rest
            ∙ checked-few strict fewest low high at digits j (ltb (length digits) fewest) is refl;
      },
    )

-- digits that were read
pub record AreRead (strict : Bool) (fewest most low high at : ℕ) (rest digits : List ℕ) (j : Input) : Type 0 where
  pub good : AreIn strict fewest most low high at rest false
  pub digits_are : take (digits_of most rest) rest ≡ digits
  pub input_is : past (digits_of most rest) (input at rest) ≡ j

pub digits_read : (strict : Bool) (fewest most low high at : ℕ) (rest digits : List ℕ) (j : Input)
    → digits_at strict fewest most low high (input at rest) ≡ Ok (digits, j)
    → AreRead strict fewest most low high at rest digits j
digits_read strict fewest most low high at rest digits j e =
    elim (digits_cases strict fewest most low high at rest) [
      | inl out ↦ let no = sym e ∙ out.said in absurd cc
      | inr c ↦ by_few c.0 c.1
    ]
  where
    by_few : (few : Bool) → AreIn strict fewest most low high at rest few
        → AreRead strict fewest most low high at rest digits j
    by_few true few = let no = sym e ∙ few.said in absurd cc
    by_few false good =
        let k = ok_pair (take (digits_of most rest) rest) digits (past (digits_of most rest) (input at rest)) j
        (sym good.said ∙ e) in
        record { good = good; digits_are = k.0; input_is = k.1 }

-- a number that passed the test is in its range
pub in_range : (strict : Bool) (low high : ℕ) (digits : List ℕ) → is_out strict low high digits ≡ false
    → strict ≡ true → (low ≤ number_of digits) × (number_of digits ≤ high)
in_range true low high digits e is =
    let range = or_parts (ltb (number_of digits) low) (ltb high (number_of digits)) e in
    (ltb-false _ _ range.0, ltb-false _ _ range.1)
in_range false low high digits e is = absurd cc

-- a number in its range passes the test
pub not_out : (strict : Bool) (fewest most low high : ℕ) (digits : List ℕ)
    → AreDigitsWithin strict fewest most low high digits → is_out strict low high digits ≡ false
not_out true fewest most low high digits s =
    let above : ltb (number_of digits) low ≡ false = le-ltb _ _ (s.low_is refl) in
    let below : ltb high (number_of digits) ≡ false = le-ltb _ _ (s.high_is refl) in
    rw (above, below) refl
not_out false fewest most low high digits s = refl

-- what was tested holds of a number
pub tested_within : (strict : Bool) (fewest most low high : ℕ) (digits : List ℕ)
    → list_all is_ascii_digit digits ≡ true → length digits ≤ most → is_out strict low high digits ≡ false
    → fewest ≤ length digits → AreDigitsWithin strict fewest most low high digits
tested_within strict fewest most low high digits all few passed enough = record {
  digits = all;
  enough = enough;
  few = few;
  value = refl;
  low_is = λ is. (in_range strict low high digits passed is).0;
  high_is = λ is. (in_range strict low high digits passed is).1;
}

digits_take : (strict : Bool) (fewest most low high at : ℕ) (rest digits : List ℕ) (j : Input)
    → digits_at strict fewest most low high (input at rest) ≡ Ok (digits, j)
    → Took (SpellsDigits strict fewest most low high) (input at rest) digits j
digits_take strict fewest most low high at rest digits j e =
    let r = digits_read strict fewest most low high at rest digits j e in
    let count = digits_of most rest in
    let short : count ≤ length (take most rest) = prefix_len-le-length is_ascii_digit (take most rest) in
    let within : count ≤ length rest = omega (arith, length-take most rest) in
    let size : length (take count rest) ≡ count = omega (arith, length-take count rest) in
    let few : length (take count rest) ≤ most = omega (arith, length-take most rest) in
    record {
      text = take count rest;
      spelled = record {
        same = r.digits_are;
        within = subst (λ (l : List ℕ). AreDigitsWithin strict fewest most low high l) r.digits_are
            (tested_within strict fewest most low high (take count rest) (run_passes is_ascii_digit rest most) few
            r.good.in_range (ltb-false _ _ r.good.few_is));
      };
      split = sym (take-append-drop count rest) ∙ ap (λ (h : Input). take count rest ++ h.rest) r.input_is;
      offset = let here = ap (λ (h : Input). h.at) r.input_is in omega (arith, here, size);
    }

-- how many digits stand in front of a text that begins with some, and that this is all of them
pub digits_count : (most : ℕ) (text digits rest : List ℕ) → text ≡ digits → list_all is_ascii_digit digits ≡ true
    → length digits ≤ most → EndsDigits most digits rest → digits_of most (text ++ rest) ≡ length text
digits_count most text digits rest same all few ends =
    let passes = subst (λ (l : List ℕ). list_all is_ascii_digit l ≡ true) (sym same) all in
    elim ends [
      | inl full ↦ run_full is_ascii_digit text rest most passes (ap length same ∙ full)
      | inr stops ↦ run_within is_ascii_digit text rest most passes (let size = ap length same in omega arith) stops
    ]

-- what the digits in front come to
pub digits_checked : (strict : Bool) (fewest most low high at : ℕ) (text rest : List ℕ)
    → digits_of most (text ++ rest) ≡ length text
    → digits_at strict fewest most low high (input at (text ++ rest))
    ≡ checked strict fewest low high at text (input (at + length text) rest)
digits_checked strict fewest most low high at text rest count =
    digits_is strict fewest most low high at (text ++ rest)
    ∙ ap (λ (n : ℕ). checked strict fewest low high at (take n (text ++ rest)) (past n (input at (text ++ rest)))) count
    ∙ ap (λ (l : List ℕ). checked strict fewest low high at l (past (length text) (input at (text ++ rest))))
    (take-append_seam text rest)
    ∙ ap (λ (l : List ℕ). checked strict fewest low high at text (input (at + length text) l))
    (drop-append_seam text rest)

pub Exact-digits : (strict : Bool) (fewest most low high : ℕ)
    → ExactBy (SpellsDigits strict fewest most low high) (EndsDigits most) (digits_at strict fewest most low high)
Exact-digits strict fewest most low high = record {
  takes = λ i digits j e. digits_take strict fewest most low high i.at i.rest digits j e;
  again = λ at text rest digits s may.
      let within : AreDigitsWithin strict fewest most low high text =
      subst (λ (l : List ℕ). AreDigitsWithin strict fewest most low high l) (sym s.same) s.within in
      digits_checked strict fewest most low high at text rest
      (digits_count most text digits rest s.same s.within.digits s.within.few may)
      ∙ checked-few strict fewest low high at text (input (at + length text) rest) false
      (not_out strict fewest most low high text within) (le-ltb _ _ within.enough)
      ∙ ap (λ (l : List ℕ). done {A = List ℕ × Input} (l, input (at + length text) rest)) s.same;
}
