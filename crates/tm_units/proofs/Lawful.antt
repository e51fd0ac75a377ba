-- What holds of a parser of a part of units, and of the parser of the part's form, which tests no ranges: what is
-- spelled is read and nothing else; where the form ends, it ends for each text with the same bytes up to there, and
-- some text of the form goes on up to there; and the two differ where a value is out of its range alone.
use Rattle.std.proofs.Common.{◌≡◌, ◌⊎◌, inl, inr, ℕ, ◌+◌, ◌≤◌, Bool, true, false, List, [], ◌++◌, length, Ok, Err, refl, sym, ap, subst, ◌∙◌, arith}
use Rattle.fm_base.specs.Input.{Input}
use Rattle.nc_model.specs.UnitsReading.{UnitsParser as Parser}
use Rattle.nc_model.specs.UnitsRanges.{Out, EitherOut, OutAfter}
use Rattle.fm_base.specs.Parser.{and_then, ◌>>=◌, pure}
use Rattle.fm_base.proofs.Exact.{input, Took, Exact, Anything, Then, Is, IsOfParts-anything, bind_ok, took_then, again_then, Exact-pure}
use Rattle.fm_base.proofs.Local.{Offsets, Beyond, beyond_then, stepped, fault_is}
use Rattle.fm_base.proofs.LocalSteps.{Local-same}
use Rattle.fm_base.proofs.Parts.{Part, Part-as, Part-then, Part-pure}

-- a text goes wrong at its fault, and each parser looks at the byte after those that it takes, or at the end
abbrev pub offsets : Offsets ℕ
offsets = record {
  ahead = 1;
  Stands = λ bad offset. bad ≡ offset;
  IsCut = λ offset bad. ⊥;
  Later = λ offset bad. offset ≤ bad;
  IsUncut = λ size bad. size ≡ 1;
  later_less = λ m n bad less later. omega arith;
}

-- a parser that reads what is spelled and nothing else, where this may follow what was read
pub record ExactBy {A : Type 0} (S : List ℕ → A → Type 0) (Follows : A → List ℕ → Type 0) (p : Parser A) : Type 0 where
  pub takes : (i : Input) (a : A) (j : Input) → p i ≡ Ok (a, j) → Took S i a j
  pub again : (at : ℕ) (text rest : List ℕ) (a : A) → S text a → Follows a rest
      → p (input at (text ++ rest)) ≡ Ok (a, input (at + length text) rest)

pub by_exact : {A : Type 0} {S : List ℕ → A → Type 0} {P : List ℕ → Type 0} {p : Parser A} → Exact S P p
    → ExactBy S (λ a. P) p
by_exact ep = record { takes = λ i a j e. ep.takes i a j tt e; again = ep.again }

-- a value is out of its range here, and the form doesn't end before it
pub record IsOutAt {A : Type 0} (O : Out) (form : Parser A) (at : ℕ) (rest : List ℕ) (bad : ℕ) : Type 0 where
  pub offset : ℕ
  pub bad_is : bad ≡ at + offset
  pub out : O offset rest
  pub beyond : Beyond offsets bad (form (input at rest))

-- `S` is what is spelled, by `false` in form alone; `P` is what may follow, and `O` which value is out of its range
pub record Lawful {A : Type 0} (S : Bool → List ℕ → A → Type 0) (P : A → List ℕ → Type 0) (O : Out)
    (p : Bool → Parser A) : Type 0 where
  pub exact : (strict : Bool) → ExactBy (S strict) P (p strict)
  pub form : Part offsets Anything (S false) (p false)
  pub same : (i : Input) (x : A × Input) → p true i ≡ Ok x → p false i ≡ Ok x
  pub fails : (at : ℕ) (rest : List ℕ) (bad : ℕ) → p true (input at rest) ≡ Err bad
      → (p false (input at rest) ≡ Err bad) ⊎ IsOutAt O (p false) at rest bad
  pub refuses : (at : ℕ) (rest : List ℕ) (offset : ℕ) → O offset rest → p true (input at rest) ≡ Err (at + offset)

-- nothing is out of its range
abbrev pub NoOut : Out
NoOut offset text = ⊥

-- a parser without ranges
pub Lawful-plain : {A : Type 0} {S : List ℕ → A → Type 0} {P : A → List ℕ → Type 0} {p : Parser A} → ExactBy S P p
    → Part offsets Anything S p → Lawful (λ strict. S) P NoOut (λ strict. p)
Lawful-plain ep part = record {
  exact = λ strict. ep;
  form = part;
  same = λ i x e. e;
  fails = λ at rest bad e. inl e;
  refuses = λ at rest offset out. absurd out;
}

pub Lawful-pure : {A : Type 0} {P : A → List ℕ → Type 0} (x : A)
    → Lawful (λ strict. Is x) P NoOut (λ strict. pure x)
Lawful-pure x = Lawful-plain (record {
  takes = λ i a j e. let exact : Exact (Is x) Anything (pure {E = ℕ} x) = Exact-pure x in exact.takes i a j tt e;
  again = λ at text rest a s may. let exact : Exact (Is x) Anything (pure {E = ℕ} x) = Exact-pure x in
      exact.again at text rest a s tt;
}) (Part-pure x)

-- the same, said otherwise
pub Lawful-as : {A : Type 0} {S T : Bool → List ℕ → A → Type 0} {P : A → List ℕ → Type 0} {O : Out}
    {p : Bool → Parser A}
    → ((strict : Bool) (text : List ℕ) (a : A) → S strict text a → T strict text a)
    → ((strict : Bool) (text : List ℕ) (a : A) → T strict text a → S strict text a) → Lawful S P O p → Lawful T P O p
Lawful-as to from law = record {
  exact = λ strict. record {
    takes = λ i a j e. let t = (law.exact strict).takes i a j e in
        record { text = t.text; spelled = to strict t.text a t.spelled; split = t.split; offset = t.offset };
    again = λ at text rest a s may. (law.exact strict).again at text rest a (from strict text a s) may;
  };
  form = Part-as (to false) law.form;
  same = law.same;
  fails = law.fails;
  refuses = law.refuses;
}

-- where less may follow
pub Lawful-before : {A : Type 0} {S : Bool → List ℕ → A → Type 0} {P Q : A → List ℕ → Type 0} {O : Out}
    {p : Bool → Parser A} → ((a : A) (rest : List ℕ) → Q a rest → P a rest) → Lawful S P O p → Lawful S Q O p
Lawful-before weaker law = record {
  exact = λ strict. record {
    takes = (law.exact strict).takes;
    again = λ at text rest a s may. (law.exact strict).again at text rest a s (weaker a rest may);
  };
  form = law.form;
  same = law.same;
  fails = law.fails;
  refuses = law.refuses;
}

-- what is out of its range, said otherwise
pub Lawful-outs : {A : Type 0} {S : Bool → List ℕ → A → Type 0} {P : A → List ℕ → Type 0} {O U : Out}
    {p : Bool → Parser A} → ((offset : ℕ) (text : List ℕ) → O offset text → U offset text)
    → ((offset : ℕ) (text : List ℕ) → U offset text → O offset text) → Lawful S P O p → Lawful S P U p
Lawful-outs to from law = record {
  exact = law.exact;
  form = law.form;
  same = law.same;
  fails = λ at rest bad e. elim (law.fails at rest bad e) [
    | inl form ↦ inl form
    | inr o ↦ inr (record {
      offset = o.offset;
      bad_is = o.bad_is;
      out = to o.offset rest o.out;
      beyond = o.beyond;
    })
  ];
  refuses = λ at rest offset out. law.refuses at rest offset (from offset rest out);
}

-- the same of parsers that return the same
pub Lawful-same : {A : Type 0} {S : Bool → List ℕ → A → Type 0} {P : A → List ℕ → Type 0} {O : Out}
    {p q : Bool → Parser A} → ((strict : Bool) (i : Input) → p strict i ≡ q strict i) → Lawful S P O p → Lawful S P O q
Lawful-same same law = record {
  exact = λ strict. record {
    takes = λ i a j e. (law.exact strict).takes i a j (same strict i ∙ e);
    again = λ at text rest a s may. sym (same strict (input at (text ++ rest)))
        ∙ (law.exact strict).again at text rest a s may;
  };
  form = record {
    local = Local-same (λ at rest. same false (input at rest)) law.form.local;
    takes = λ i a j of e. law.form.takes i a j of (same false i ∙ e);
    fails = λ at rest bad of e. law.form.fails at rest bad of (same false (input at rest) ∙ e);
    some = law.form.some;
  };
  same = λ i x e. sym (same false i) ∙ law.same i x (same true i ∙ e);
  fails = λ at rest bad e. elim (law.fails at rest bad (same true (input at rest) ∙ e)) [
    | inl form ↦ inl (sym (same false (input at rest)) ∙ form)
    | inr o ↦ inr (record {
      offset = o.offset;
      bad_is = o.bad_is;
      out = o.out;
      beyond = subst (λ r. Beyond offsets bad r) (same false (input at rest)) o.beyond;
    })
  ];
  refuses = λ at rest offset out. sym (same true (input at rest)) ∙ law.refuses at rest offset out;
}

-- one part and then another
abbrev pub Seq : {A B : Type 0} → (Bool → List ℕ → A → Type 0) → (A → Bool → List ℕ → B → Type 0) → Bool → List ℕ
    → B → Type 0
Seq S T strict = Then (S strict) (λ a. T a strict)

pub Lawful-then : {A B : Type 0} {S : Bool → List ℕ → A → Type 0} {T : A → Bool → List ℕ → B → Type 0}
    {P : A → List ℕ → Type 0} {Q : B → List ℕ → Type 0} {O : Out} {U : A → Out} {p : Bool → Parser A}
    {q : A → Bool → Parser B} → Lawful S P O p → ((a : A) → Lawful (T a) Q (U a) (q a))
    → ((strict : Bool) (a : A) (b : B) (front back rest : List ℕ) → S strict front a → T a strict back b → Q b rest
    → P a (back ++ rest))
    → ((a : A) (front back : List ℕ) (offset : ℕ) → S true front a → U a offset back → P a back)
    → Lawful (Seq S T) Q (EitherOut O (OutAfter (S true) U)) (λ strict. p strict >>= λ a. q a strict)
Lawful-then {A} {B} {S} {T} {P} {Q} {O} {U} {p} {q} first next follows awaits = record {
  exact = λ strict. record {
    takes = λ i b k e.
        let x = bind_ok (p strict i) (λ a. q a strict) (b, k) e in
        let t = (first.exact strict).takes i x.0.0 x.0.1 x.1 in
        took_then {T = λ a. T a strict} t (((next x.0.0).exact strict).takes x.0.1 b k x.2);
    again = λ at text rest b s may.
        again_then (p strict) (λ a. q a strict) at text rest b s
        ((first.exact strict).again at s.front (s.back ++ rest) s.a s.first
        (follows strict s.a b s.front s.back rest s.first s.second may))
        (((next s.a).exact strict).again (at + length s.front) s.back rest b s.second may);
  };
  form = Part-then {T = λ a. T a false} IsOfParts-anything first.form (λ a. (next a).form);
  same = λ i y e.
      let x = bind_ok (p true i) (λ a. q a true) y e in
      ap (λ r. and_then r (λ a. q a false)) (first.same i x.0 x.1) ∙ (next x.0.0).same x.0.1 y x.2;
  fails = λ at rest bad e. elim (stepped (p true (input at rest)) (λ a. q a true) (Err bad) e) [
    | inl wrong ↦ first_fails at rest bad
        (wrong.1 ∙ ap (λ (n : ℕ). Err n) (sym (fault_is {A = B} bad wrong.0 wrong.2)))
    | inr s ↦ next_fails at rest bad s.a s.j s.first s.second
  ];
  refuses = λ at rest offset out. elim out [
    | inl here ↦ ap (λ r. and_then r (λ a. q a true)) (first.refuses at rest offset here)
    | inr o ↦
        let text = (first.exact true).again at o.front o.back o.value o.first
        (awaits o.value o.front o.back o.left o.first o.next) in
        let here : at + length o.front + o.left ≡ at + offset = let is = o.offset_is in omega arith in
        ap (λ (l : List ℕ). and_then (p true (input at l)) (λ a. q a true)) o.text_is
        ∙ ap (λ r. and_then r (λ a. q a true)) text
        ∙ (next o.value).refuses (at + length o.front) o.back o.left o.next
        ∙ ap (λ (n : ℕ). Err n) here
  ];
}
  where
    whole : Parser B
    whole = p false >>= λ a. q a false

    first_fails : (at : ℕ) (rest : List ℕ) (bad : ℕ) → p true (input at rest) ≡ Err bad
        → (whole (input at rest) ≡ Err bad) ⊎ IsOutAt (EitherOut O (OutAfter (S true) U)) whole at rest bad
    first_fails at rest bad e = elim (first.fails at rest bad e) [
      | inl form ↦ inl (ap (λ r. and_then r (λ a. q a false)) form)
      | inr o ↦ inr (record {
        offset = o.offset;
        bad_is = o.bad_is;
        out = inl o.out;
        beyond = beyond_then offsets bad (p false (input at rest)) (λ a. q a false)
            (λ a at rest. (next a).form.local.forward at rest) o.beyond;
      })
    ]

    next_fails : (at : ℕ) (rest : List ℕ) (bad : ℕ) (a : A) (j : Input) → p true (input at rest) ≡ Ok (a, j)
        → q a true j ≡ Err bad
        → (whole (input at rest) ≡ Err bad) ⊎ IsOutAt (EitherOut O (OutAfter (S true) U)) whole at rest bad
    next_fails at rest bad a j e f =
        let t = (first.exact true).takes (input at rest) a j e in
        let form : whole (input at rest) ≡ q a false j =
        ap (λ r. and_then r (λ a. q a false)) (first.same (input at rest) (a, j) e) in
        elim ((next a).fails j.at j.rest bad f) [
          | inl ends ↦ inl (form ∙ ends)
          | inr o ↦ inr (record {
            offset = length t.text + o.offset;
            bad_is = let is = o.bad_is in let from = t.offset in omega arith;
            out = inr (record {
              value = a;
              front = t.text;
              back = j.rest;
              left = o.offset;
              first = t.spelled;
              next = o.out;
              text_is = t.split;
              offset_is = refl;
            });
            beyond = subst (λ r. Beyond offsets bad r) (sym form) o.beyond;
          })
        ]

-- one part and then another, where nothing of the first is out of its range
pub Lawful-after : {A B : Type 0} {S : Bool → List ℕ → A → Type 0} {T : A → Bool → List ℕ → B → Type 0}
    {P : A → List ℕ → Type 0} {Q : B → List ℕ → Type 0} {U : A → Out} {p : Bool → Parser A}
    {q : A → Bool → Parser B} → Lawful S P NoOut p → ((a : A) → Lawful (T a) Q (U a) (q a))
    → ((strict : Bool) (a : A) (b : B) (front back rest : List ℕ) → S strict front a → T a strict back b → Q b rest
    → P a (back ++ rest))
    → ((a : A) (front back : List ℕ) (offset : ℕ) → S true front a → U a offset back → P a back)
    → Lawful (Seq S T) Q (OutAfter (S true) U) (λ strict. p strict >>= λ a. q a strict)
Lawful-after {T = T} {U = U} {q = q} first next follows awaits =
    Lawful-outs (λ offset text o. elim o [ inl none ↦ absurd none | inr after ↦ after ]) (λ offset text o. inr o)
    (Lawful-then {T = T} {U = U} {q = q} first next follows awaits)

-- one part and then another, where nothing of the second is out of its range
pub Lawful-first : {A B : Type 0} {S : Bool → List ℕ → A → Type 0} {T : A → Bool → List ℕ → B → Type 0}
    {P : A → List ℕ → Type 0} {Q : B → List ℕ → Type 0} {O : Out} {p : Bool → Parser A}
    {q : A → Bool → Parser B} → Lawful S P O p → ((a : A) → Lawful (T a) Q NoOut (q a))
    → ((strict : Bool) (a : A) (b : B) (front back rest : List ℕ) → S strict front a → T a strict back b → Q b rest
    → P a (back ++ rest))
    → Lawful (Seq S T) Q O (λ strict. p strict >>= λ a. q a strict)
Lawful-first {T = T} {q = q} first next follows =
    Lawful-outs (λ offset text o. elim o [ inl here ↦ here | inr after ↦ absurd after.next ]) (λ offset text o. inl o)
    (Lawful-then {T = T} {U = λ a. NoOut} {q = q} first next follows (λ a front back offset s none. absurd none))

-- what follows nothing
pub after_nothing : (P : List ℕ → Type 0) (back rest : List ℕ) → back ≡ [] → P rest → P (back ++ rest)
after_nothing P back rest none may = subst (λ (l : List ℕ). P (l ++ rest)) (sym none) may

-- a value that is made of what was read
pub Lawful-map : {A B : Type 0} {S : Bool → List ℕ → A → Type 0} {Q : List ℕ → Type 0} {O : Out}
    {p : Bool → Parser A} (g : A → B) → Lawful S (λ a. Q) O p
    → Lawful (Seq S (λ a strict. Is (g a))) (λ b. Q) O (λ strict. p strict >>= λ a. pure (g a))
Lawful-map {Q = Q} g law =
    Lawful-first {T = λ a strict. Is (g a)} {q = λ a strict. pure (g a)} law (λ a. Lawful-pure (g a))
    (λ strict a b front back rest s t may. after_nothing Q back rest t.text_is may)
