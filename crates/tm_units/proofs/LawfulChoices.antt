-- What holds of a choice between two parts, by the next byte or the end of the text.
use Rattle.std.proofs.Common.{◌≡◌, ◌⊎◌, inl, inr, ℕ, ◌+◌, Bool, true, false, cond, ◌==◌, List, [], ◌∷◌, ◌++◌, length, Ok, Err, refl, sym, ap, subst, ◌∙◌, arith}
use Rattle.std.proofs.lemmas.List.{append-nil}
use Rattle.std.proofs.Math.Dec.{eqb-suc-zero}
use Rattle.std.specs.Char.{is_ascii_digit}
use Rattle.fm_base.specs.Input.{Input}
use Rattle.nc_model.specs.UnitsReading.{UnitsParser as Parser, next_passes, digit_follows, has_ended, end_at}
use Rattle.nc_model.specs.UnitsRanges.{Out, EitherOut}
use Rattle.fm_base.proofs.Exact.{input, Took, Stops, AtEnd, Is, done, ok_pair, took_none, none_again}
use Rattle.fm_base.proofs.ListLemmas.{Agree}
use Rattle.fm_base.proofs.Local.{Beyond, Local, fault_is}
use Rattle.fm_base.proofs.LocalSteps.{Local-pure, Local-cond}
use Rattle.fm_base.proofs.Parts.{Part-leaf, Part-cond}
use Rattle.tm_units.proofs.Lawful.{offsets, IsOutAt, Lawful, NoOut, Lawful-plain, Lawful-pure, Lawful-as, Lawful-before, Lawful-outs, Lawful-same, after_nothing}

-- the next byte passes in each text that begins with the same one
pub agree_first : (test : ℕ → Bool) (at : ℕ) (xs ys : List ℕ) → Agree 1 xs ys
    → next_passes test (input at xs) ≡ next_passes test (input at ys)
agree_first test at [] [] e = refl
agree_first test at [] (y ∷ ys) e = absurd cc
agree_first test at (x ∷ xs) [] e = absurd cc
agree_first test at (x ∷ xs) (y ∷ ys) e = let same : x ≡ y = cc in ap test same

pub agree_ended : (at : ℕ) (xs ys : List ℕ) → Agree 1 xs ys → has_ended (input at xs) ≡ has_ended (input at ys)
agree_ended at [] [] e = refl
agree_ended at [] (y ∷ ys) e = absurd cc
agree_ended at (x ∷ xs) [] e = absurd cc
agree_ended at (x ∷ xs) (y ∷ ys) e = eqb-suc-zero (length xs) ∙ sym (eqb-suc-zero (length ys))

-- one part or the other
pub Lawful-cond : {A : Type 0} {S T : Bool → List ℕ → A → Type 0} {P : A → List ℕ → Type 0} {O U : Out}
    {p q : Bool → Parser A} (test : Input → Bool)
    → ((at : ℕ) (xs ys : List ℕ) → Agree 1 xs ys → test (input at xs) ≡ test (input at ys))
    → Lawful S P O p → Lawful T P U q
    → ((strict : Bool) (at : ℕ) (text rest : List ℕ) (a : A) → S strict text a → P a rest
    → test (input at (text ++ rest)) ≡ true)
    → ((strict : Bool) (at : ℕ) (text rest : List ℕ) (a : A) → T strict text a → P a rest
    → test (input at (text ++ rest)) ≡ false)
    → ((at offset : ℕ) (rest : List ℕ) → O offset rest → test (input at rest) ≡ true)
    → ((at offset : ℕ) (rest : List ℕ) → U offset rest → test (input at rest) ≡ false)
    → Lawful (λ strict text a. S strict text a ⊎ T strict text a) P (EitherOut O U)
    (λ strict i. cond (test i) (p strict i) (q strict i))
Lawful-cond {A} {S} {T} {P} {O} {U} {p} {q} test looks first second begins others outs other_outs = record {
  exact = λ strict. record {
    takes = λ i a j e. takes_by strict i a j (test i) e;
    again = λ at text rest a s may. elim s [
      | inl there ↦ chosen strict (input at (text ++ rest)) true (begins strict at text rest a there may)
          ∙ (first.exact strict).again at text rest a there may
      | inr there ↦ chosen strict (input at (text ++ rest)) false (others strict at text rest a there may)
          ∙ (second.exact strict).again at text rest a there may
    ];
  };
  form = Part-cond test (Local-cond test looks first.form.local second.form.local) first.form second.form;
  same = λ i x e. same_by i x (test i) e;
  fails = λ at rest bad e. fails_by at rest bad (test (input at rest)) refl e;
  refuses = λ at rest offset out. elim out [
    | inl here ↦ chosen true (input at rest) true (outs at offset rest here) ∙ first.refuses at rest offset here
    | inr here ↦ chosen true (input at rest) false (other_outs at offset rest here)
        ∙ second.refuses at rest offset here
  ];
}
  where
    chosen : (strict : Bool) (i : Input) (b : Bool) → test i ≡ b
        → cond (test i) (p strict i) (q strict i) ≡ cond b (p strict i) (q strict i)
    chosen strict i b is = ap (λ (c : Bool). cond c (p strict i) (q strict i)) is

    takes_by : (strict : Bool) (i : Input) (a : A) (j : Input) (b : Bool)
        → cond b (p strict i) (q strict i) ≡ Ok (a, j)
        → Took (λ text a. S strict text a ⊎ T strict text a) i a j
    takes_by strict i a j true e = let t = (first.exact strict).takes i a j e in
        record { text = t.text; spelled = inl t.spelled; split = t.split; offset = t.offset }
    takes_by strict i a j false e = let t = (second.exact strict).takes i a j e in
        record { text = t.text; spelled = inr t.spelled; split = t.split; offset = t.offset }

    same_by : (i : Input) (x : A × Input) (b : Bool) → cond b (p true i) (q true i) ≡ Ok x
        → cond b (p false i) (q false i) ≡ Ok x
    same_by i x true e = first.same i x e
    same_by i x false e = second.same i x e

    either : Parser A
    either = λ i. cond (test i) (p false i) (q false i)

    fails_by : (at : ℕ) (rest : List ℕ) (bad : ℕ) (b : Bool) → test (input at rest) ≡ b
        → cond b (p true (input at rest)) (q true (input at rest)) ≡ Err bad
        → (either (input at rest) ≡ Err bad) ⊎ IsOutAt (EitherOut O U) either at rest bad
    fails_by at rest bad true is e = elim (first.fails at rest bad e) [
      | inl form ↦ inl (chosen false (input at rest) true is ∙ form)
      | inr o ↦ inr (record {
        offset = o.offset;
        bad_is = o.bad_is;
        out = inl o.out;
        beyond = subst (λ r. Beyond offsets bad r) (sym (chosen false (input at rest) true is)) o.beyond;
      })
    ]
    fails_by at rest bad false is e = elim (second.fails at rest bad e) [
      | inl form ↦ inl (chosen false (input at rest) false is ∙ form)
      | inr o ↦ inr (record {
        offset = o.offset;
        bad_is = o.bad_is;
        out = inr o.out;
        beyond = subst (λ r. Beyond offsets bad r) (sym (chosen false (input at rest) false is)) o.beyond;
      })
    ]

-- one part or the other, by the next byte
pub Lawful-either : {A : Type 0} {S T : Bool → List ℕ → A → Type 0} {P : A → List ℕ → Type 0} {O U : Out}
    {p q : Bool → Parser A} (test : ℕ → Bool) → Lawful S P O p → Lawful T P U q
    → ((strict : Bool) (text rest : List ℕ) (a : A) → S strict text a
    → next_passes test (input 0 (text ++ rest)) ≡ true)
    → ((strict : Bool) (text rest : List ℕ) (a : A) → T strict text a → P a rest
    → next_passes test (input 0 (text ++ rest)) ≡ false)
    → ((offset : ℕ) (rest : List ℕ) → O offset rest → next_passes test (input 0 rest) ≡ true)
    → ((offset : ℕ) (rest : List ℕ) → U offset rest → next_passes test (input 0 rest) ≡ false)
    → Lawful (λ strict text a. S strict text a ⊎ T strict text a) P (EitherOut O U)
    (λ strict i. cond (next_passes test i) (p strict i) (q strict i))
Lawful-either {S = S} {T = T} test first second begins others outs other_outs =
    Lawful-cond {S = S} {T = T} (next_passes test) (agree_first test) first second
    (λ strict at text rest a s may. begins strict text rest a s)
    (λ strict at text rest a s may. others strict text rest a s may)
    (λ at offset rest out. outs offset rest out) (λ at offset rest out. other_outs offset rest out)

-- a part that may be left out
abbrev pub Optional : {A : Type 0} → A → (List ℕ → A → Type 0) → List ℕ → A → Type 0
Optional missing S text a = ((text ≡ []) × (a ≡ missing)) ⊎ S text a

left_out : {A : Type 0} (missing : A) (text : List ℕ) (a : A) → Is missing text a → (text ≡ []) × (a ≡ missing)
left_out missing text a none = (none.text_is, sym none.value)

is_left_out : {A : Type 0} (missing : A) (text : List ℕ) (a : A) → (text ≡ []) × (a ≡ missing) → Is missing text a
is_left_out missing text a none = record { value = sym none.1; text_is = none.0 }

-- a part that stands there where the next byte passes
pub Lawful-optional : {A : Type 0} {S : Bool → List ℕ → A → Type 0} {P : List ℕ → Type 0} {O : Out}
    {p : Bool → Parser A} (test : ℕ → Bool) (missing : A) → Lawful S (λ a. P) O p
    → ((strict : Bool) (text rest : List ℕ) (a : A) → S strict text a
    → next_passes test (input 0 (text ++ rest)) ≡ true)
    → ((offset : ℕ) (rest : List ℕ) → O offset rest → next_passes test (input 0 rest) ≡ true)
    → Lawful (λ strict. Optional missing (S strict)) (λ a rest. Stops test rest × P rest) O
    (λ strict i. cond (next_passes test i) (p strict i) (Ok (missing, i)))
Lawful-optional {S = S} test missing law begins outs =
    Lawful-as
    (λ strict text a s. elim s [ inl there ↦ inr there | inr none ↦ inl (left_out missing text a none) ])
    (λ strict text a s. elim s [ inl none ↦ inr (is_left_out missing text a none) | inr there ↦ inl there ])
    (Lawful-outs (λ offset text o. elim o [ inl here ↦ here | inr none ↦ absurd none ]) (λ offset text o. inl o)
    (Lawful-either {S = S} {T = λ strict. Is missing} test (Lawful-before (λ a rest may. may.1) law)
    (Lawful-pure missing) begins
    (λ strict text rest a none may. after_nothing (Stops test) text rest none.text_is may.0) outs
    (λ offset rest none. absurd none)))

-- the text goes on
abbrev pub GoesOn : List ℕ → Type 0
GoesOn text = (length text == 0) ≡ false

-- a part that is left out where the text has ended
pub Lawful-unless_ended : {A : Type 0} {S : Bool → List ℕ → A → Type 0} {O : Out} {p : Bool → Parser A} (missing : A)
    → Lawful S (λ a. AtEnd) O p → ((strict : Bool) (text : List ℕ) (a : A) → S strict text a → GoesOn text)
    → ((offset : ℕ) (rest : List ℕ) → O offset rest → GoesOn rest)
    → Lawful (λ strict. Optional missing (S strict)) (λ a. AtEnd) O
    (λ strict i. cond (has_ended i) (Ok (missing, i)) (p strict i))
Lawful-unless_ended {S = S} missing law some outs =
    Lawful-as
    (λ strict text a s. elim s [ inl none ↦ inl (left_out missing text a none) | inr there ↦ inr there ])
    (λ strict text a s. elim s [ inl none ↦ inl (is_left_out missing text a none) | inr there ↦ inr there ])
    (Lawful-outs (λ offset text o. elim o [ inl none ↦ absurd none | inr there ↦ there ]) (λ offset text o. inr o)
    (Lawful-cond {S = λ strict. Is missing} {T = S} has_ended agree_ended (Lawful-pure missing) law
    (λ strict at text rest a none may. rw (none.text_is, may) refl)
    (λ strict at text rest a there may.
    subst (λ (l : List ℕ). (length l == 0) ≡ false)
    (sym (ap (λ (l : List ℕ). text ++ l) may ∙ append-nil text)) (some strict text a there))
    (λ at offset rest none. absurd none) (λ at offset rest out. outs offset rest out)))

-- the text goes wrong here, whatever it is
pub Local-here : {A : Type 0} → Local {A = A} offsets (λ i. Err i.at)
Local-here {A} = record {
  takes = λ at rest a j e. absurd cc;
  fails = λ at rest bad e.
      let here : bad ≡ at + 0 = let same = fault_is {A = A} at bad e in omega arith in
      record {
        count = 0;
        size = 1;
        some = omega arith;
        why = inl (record {
          wide = omega arith;
          within = omega arith;
          stands = here;
          uncut = refl;
          again = λ other same. e;
        });
      };
  forward = λ at rest. omega arith;
}

-- nothing, at the end of the text, and this value
abbrev IsEnd : {A : Type 0} → A → List ℕ → A → Type 0
IsEnd x text a = (text ≡ []) × (a ≡ x)

end_by : {A : Type 0} (x : A) (i : Input) (a : A) (j : Input) (b : Bool)
    → cond b (done {A = A × Input} (x, i)) (Err i.at) ≡ Ok (a, j) → (x ≡ a) × (i ≡ j)
end_by x i a j true e = ok_pair x a i j e
end_by x i a j false e = absurd cc

end_offset : {A : Type 0} (x : A) (i : Input) (bad : ℕ) (b : Bool)
    → cond b (done {A = A × Input} (x, i)) (Err i.at) ≡ Err bad → bad ≡ i.at
end_offset x i bad true e = absurd cc
end_offset {A} x i bad false e = sym (fault_is {A = A} i.at bad e)

pub Lawful-at_end : {A : Type 0} (x : A)
    → Lawful (λ strict. IsEnd x) (λ a. AtEnd) NoOut (λ strict i. cond (has_ended i) (Ok (x, i)) (Err i.at))
Lawful-at_end {A} x = Lawful-plain (record {
  takes = takes;
  again = λ at text rest a s may.
      let ended : has_ended (input at (text ++ rest)) ≡ true = rw (s.0, may) refl in
      ap (λ (b : Bool). cond b (done {A = A × Input} (x, input at (text ++ rest))) (Err at)) ended
      ∙ none_again x a at text rest (sym s.1) s.0;
}) (Part-leaf (Local-cond has_ended agree_ended (Local-pure x) Local-here) (λ i a j of e. takes i a j e)
    (record { text = []; a = x; spelled = (refl, refl) })
    (λ at rest bad e. end_offset x (input at rest) bad (has_ended (input at rest)) e))
  where
    takes : (i : Input) (a : A) (j : Input) → cond (has_ended i) (done {A = A × Input} (x, i)) (Err i.at) ≡ Ok (a, j)
        → Took (IsEnd x) i a j
    takes i a j e = let k = end_by x i a j (has_ended i) e in took_none i a j (refl, sym k.0) k.1

-- nothing, at the end of the text
abbrev pub Ended : List ℕ → Unit {0} → Type 0
Ended text unit = (text ≡ []) × (unit ≡ tt)

pub Lawful-end : Lawful (λ strict. Ended) (λ u. AtEnd) NoOut (λ strict. end_at)
unfolding end_at
Lawful-end = Lawful-at_end tt

-- a part, unless the test passes
pub record Allowed {A : Type 0} (bad : Bool) (S : List ℕ → A → Type 0) (text : List ℕ) (a : A) : Type 0 where
  pub good : bad ≡ false
  pub spelled : S text a

-- a part that is left out where the text has ended, and where the test passes can't stand
pub Lawful-allowed : {A : Type 0} {S : Bool → List ℕ → A → Type 0} {O : Out} {p : Bool → Parser A} (missing : A)
    (bad : Bool) → Lawful S (λ a. AtEnd) O p → ((strict : Bool) (text : List ℕ) (a : A) → S strict text a → GoesOn text)
    → ((offset : ℕ) (rest : List ℕ) → O offset rest → GoesOn rest)
    → Lawful (λ strict. Optional missing (Allowed bad (S strict))) (λ a. AtEnd)
    (λ offset rest. (bad ≡ false) × O offset rest)
    (λ strict i. cond (has_ended i) (Ok (missing, i)) (cond bad (Err i.at) (p strict i)))
Lawful-allowed missing true law some outs =
    Lawful-as (λ strict text a s. inl s)
    (λ strict text a s. elim s [ inl none ↦ none | inr there ↦ let no = there.good in absurd cc ])
    (Lawful-outs (λ offset text none. absurd none) (λ offset text o. let no = o.0 in absurd cc)
    (Lawful-at_end missing))
Lawful-allowed missing false law some outs =
    Lawful-as
    (λ strict text a s. elim s [ inl none ↦ inl none | inr there ↦ inr (record { good = refl; spelled = there }) ])
    (λ strict text a s. elim s [ inl none ↦ inl none | inr there ↦ inr there.spelled ])
    (Lawful-outs (λ offset text o. (refl, o)) (λ offset text o. o.1) (Lawful-unless_ended missing law some outs))

-- no digit follows where none may
never : (i : Input) → digit_follows false i ≡ false
never i = by_rest i.rest
  where
    by_rest : (rest : List ℕ) → digit_follows false (input 0 rest) ≡ false
    by_rest [] = refl
    by_rest (x ∷ rest) = refl

-- one part where a digit may follow and does, and else the other
pub Lawful-digit_follows : {A : Type 0} {S T : Bool → List ℕ → A → Type 0} {P : A → List ℕ → Type 0} {O U : Out}
    {p q : Bool → Parser A} (may : Bool) → Lawful S P O p → Lawful T P U q
    → ((strict : Bool) (text rest : List ℕ) (a : A) → S strict text a
    → next_passes is_ascii_digit (input 0 (text ++ rest)) ≡ true)
    → ((strict : Bool) (text rest : List ℕ) (a : A) → T strict text a → P a rest
    → next_passes is_ascii_digit (input 0 (text ++ rest)) ≡ false)
    → ((offset : ℕ) (rest : List ℕ) → O offset rest → next_passes is_ascii_digit (input 0 rest) ≡ true)
    → ((offset : ℕ) (rest : List ℕ) → U offset rest → next_passes is_ascii_digit (input 0 rest) ≡ false)
    → Lawful (λ strict text a. ((may ≡ true) × S strict text a) ⊎ T strict text a) P
    (λ offset rest. ((may ≡ true) × O offset rest) ⊎ U offset rest)
    (λ strict i. cond (digit_follows may i) (p strict i) (q strict i))
Lawful-digit_follows {S = S} {T = T} true first second begins others outs other_outs =
    Lawful-as
    (λ strict text a s. elim s [ inl there ↦ inl (refl, there) | inr there ↦ inr there ])
    (λ strict text a s. elim s [ inl there ↦ inl there.1 | inr there ↦ inr there ])
    (Lawful-outs (λ offset text o. elim o [ inl here ↦ inl (refl, here) | inr here ↦ inr here ])
    (λ offset text o. elim o [ inl here ↦ inl here.1 | inr here ↦ inr here ])
    (Lawful-either {S = S} {T = T} is_ascii_digit first second begins others outs other_outs))
Lawful-digit_follows {p = p} {q = q} false first second begins others outs other_outs =
    Lawful-as
    (λ strict text a s. inr s)
    (λ strict text a s. elim s [ inl there ↦ let no = there.0 in absurd cc | inr there ↦ there ])
    (Lawful-outs (λ offset text o. inr o)
    (λ offset text o. elim o [ inl here ↦ let no = here.0 in absurd cc | inr here ↦ here ])
    (Lawful-same (λ strict i. sym (ap (λ (b : Bool). cond b (p strict i) (q strict i)) (never i))) second))
