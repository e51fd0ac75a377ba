-- What holds of a part and what its value stands for, as a word does for a unit and digits for a day.
use Rattle.std.proofs.Common.{◌≡◌, ◌⊎◌, inl, inr, ℕ, ◌+◌, Bool, true, false, List, ◌++◌, length, Option, Some, None, Ok, Err, refl, sym, ap, subst, ◌∙◌, arith}
use Rattle.fm_base.specs.Input.{Input}
use Rattle.fm_base.specs.Parser.{and_then, ◌>>=◌, located, known}
use Rattle.nc_model.specs.UnitsRanges.{Out, EitherOut, IsWrong}
use Rattle.nc_model.specs.UnitsReading.{UnitsOutcome as Outcome, UnitsParser as Parser}
use Rattle.fm_base.proofs.Exact.{input, ExactOn, Anything, Finds, done, bind_ok, took_then, again_then, Exact-known}
use Rattle.fm_base.proofs.Local.{Beyond, Stepped, stepped, failed, fault_is}
use Rattle.fm_base.proofs.OptionLemmas.{cases_Option}
use Rattle.fm_base.proofs.Parts.{Part}
use Rattle.tm_units.proofs.Lawful.{offsets, IsOutAt, Lawful, Seq}

-- a part, and what its value stands for
abbrev pub found_at : {A B : Type 0} → Parser A → (A → Option B) → Parser B
found_at p f = located (λ at. p >>= λ x. known at (f x))

-- Which values stand for nothing is known; those of the form that do are wrong. The part goes wrong where it begins.
pub record IsFinding {A B : Type 0} (S : Bool → List ℕ → A → Type 0) (Ends : A → List ℕ → Type 0) (O : Out)
    (p : Bool → Parser A) (f : Bool → A → Option B) (Wrong : A → Type 0) : Type 0 where
  pub same : (a : A) (b : B) → f true a ≡ Some b → f false a ≡ Some b
  pub none : (a : A) → Wrong a → f true a ≡ None
  pub wrong : (a : A) → f true a ≡ None → (f false a ≡ None) ⊎ Wrong a
  pub here : (offset : ℕ) (text : List ℕ) → O offset text → offset ≡ 0
  pub ends : (at : ℕ) (rest : List ℕ) (a : A) (j : Input) → p true (input at rest) ≡ Ok (a, j) → Ends a j.rest

pub Lawful-found : {A B : Type 0} {S : Bool → List ℕ → A → Type 0} {Ends : A → List ℕ → Type 0} {O : Out}
    {p : Bool → Parser A} (f : Bool → A → Option B) (Wrong : A → Type 0) → Lawful S Ends O p
    → IsFinding S Ends O p f Wrong
    → Part offsets Anything (Seq S (λ a strict. Finds (f strict a)) false) (found_at (p false) (f false))
    → Lawful (Seq S (λ a strict. Finds (f strict a))) (λ b rest. (a : A) → Ends a rest)
    (EitherOut O (IsWrong (S true) Ends Wrong)) (λ strict. found_at (p strict) (f strict))
Lawful-found {A} {B} {S} {Ends} {O} {p} f Wrong law finding part = record {
  exact = λ strict. record {
    takes = λ i b k e.
        let x = bind_ok (p strict i) (λ a. known i.at (f strict a)) (b, k) e in
        took_then {T = λ a. Finds (f strict a)} ((law.exact strict).takes i x.0.0 x.0.1 x.1)
        ((exact_known i.at (f strict x.0.0)).takes x.0.1 b k tt x.2);
    again = λ at text rest b s may.
        again_then (p strict) (λ a. known at (f strict a)) at text rest b s
        ((law.exact strict).again at s.front (s.back ++ rest) s.a s.first
        (subst (λ (l : List ℕ). Ends s.a (l ++ rest)) (sym s.second.text_is) (may s.a)))
        ((exact_known at (f strict s.a)).again (at + length s.front) s.back rest b s.second tt);
  };
  form = part;
  same = λ i y e.
      let x = bind_ok (p true i) (λ a. known i.at (f true a)) y e in
      ap (λ (r : Outcome A). and_then r (λ a. known i.at (f false a))) (law.same i x.0 x.1)
      ∙ known_same i.at x.0.0 x.0.1 y x.2;
  fails = λ at rest bad e. elim (stepped (p true (input at rest)) (λ a. known at (f true a)) (Err bad) e) [
    | inl wrong ↦ first_fails at rest bad
        (wrong.1 ∙ ap (λ (n : ℕ). Err n) (sym (fault_is {A = B} bad wrong.0 wrong.2)))
    | inr s ↦ found_fails at rest bad s
  ];
  refuses = λ at rest offset out. elim out [
    | inl first ↦ ap (λ (r : Outcome A). and_then r (λ a. known at (f true a))) (law.refuses at rest offset first)
    | inr o ↦
        let here : at ≡ at + offset = let zero = o.here in omega arith in
        ap (λ (l : List ℕ). found_at (p true) (f true) (input at l)) o.text_is
        ∙ ap (λ (r : Outcome A). and_then r (λ a. known at (f true a)))
        ((law.exact true).again at o.front o.more o.value o.spelled o.ends)
        ∙ ap (λ (g : Option B). known at g (input (at + length o.front) o.more)) (finding.none o.value o.wrong)
        ∙ ap (λ (n : ℕ). Err n) here
  ];
}
  where
    exact_known : (at : ℕ) (found : Option B) → ExactOn Anything (Finds found) Anything (known {E = ℕ} at found)
    exact_known at found = Exact-known at found

    known_same : (at : ℕ) (a : A) (j : Input) (y : B × Input) → known at (f true a) j ≡ Ok y
        → known at (f false a) j ≡ Ok y
    known_same at a j y e = elim (cases_Option (f true a)) [
      | inl none ↦ let no : failed {A = B} at ≡ Ok y = sym (ap (λ (g : Option B). known at g j) none) ∙ e in absurd cc
      | inr found ↦ ap (λ (g : Option B). known at g j) (finding.same a found.0 found.1)
          ∙ sym (ap (λ (g : Option B). known at g j) found.1) ∙ e
    ]

    form : Parser B
    form = found_at (p false) (f false)

    beyond_here : (at : ℕ) (rest : List ℕ) (bad : ℕ) → at ≡ bad → Beyond offsets bad (form (input at rest))
    beyond_here at rest bad same =
        subst (λ (n : ℕ). Beyond offsets n (form (input at rest))) same (part.local.forward at rest)

    first_fails : (at : ℕ) (rest : List ℕ) (bad : ℕ) → p true (input at rest) ≡ Err bad
        → (form (input at rest) ≡ Err bad) ⊎ IsOutAt (EitherOut O (IsWrong (S true) Ends Wrong)) form at rest bad
    first_fails at rest bad e = elim (law.fails at rest bad e) [
      | inl ends ↦ inl (ap (λ (r : Outcome A). and_then r (λ a. known at (f false a))) ends)
      | inr o ↦ inr (record {
        offset = o.offset;
        bad_is = o.bad_is;
        out = inl o.out;
        beyond = beyond_here at rest bad
            (let zero = finding.here o.offset rest o.out in let is = o.bad_is in omega arith);
      })
    ]

    found_fails : (at : ℕ) (rest : List ℕ) (bad : ℕ)
        → Stepped (p true (input at rest)) (λ a. known at (f true a)) (Err bad)
        → (form (input at rest) ≡ Err bad) ⊎ IsOutAt (EitherOut O (IsWrong (S true) Ends Wrong)) form at rest bad
    found_fails at rest bad s = elim (cases_Option (f true s.a)) [
      | inr found ↦
          let no : done {A = B × Input} (found.0, s.j) ≡ Err bad =
          sym (ap (λ (g : Option B). known at g s.j) found.1) ∙ s.second in absurd cc
      | inl none ↦
          let here : at ≡ bad =
          fault_is {A = B} at bad (sym (ap (λ (g : Option B). known at g s.j) none) ∙ s.second) in
          elim (finding.wrong s.a none) [
            | inl missing ↦
                inl (ap (λ (r : Outcome A). and_then r (λ a. known at (f false a)))
                (law.same (input at rest) (s.a, s.j) s.first)
                ∙ ap (λ (g : Option B). known at g s.j) missing ∙ ap (λ (n : ℕ). Err n) here)
            | inr wrong ↦
                let t = (law.exact true).takes (input at rest) s.a s.j s.first in
                inr (record {
                  offset = 0;
                  bad_is = omega arith;
                  out = inr (record {
                    value = s.a;
                    front = t.text;
                    more = s.j.rest;
                    here = refl;
                    spelled = t.spelled;
                    ends = finding.ends at rest s.a s.j s.first;
                    wrong = wrong;
                    text_is = t.split;
                  });
                  beyond = beyond_here at rest bad here;
                })
          ]
    ]
