-- A field and a test of its value, whose fault stands where the field begins, is a field.
use Rattle.std.proofs.Common.{◌≡◌, inl, inr, ℕ, ◌+◌, ◌<◌, List, Ok, Err, refl, sym, ap, subst, ◌∙◌, arith}
use Rattle.nc_model.specs.declared.fault.HeaderFault.{HeaderFault}
use Rattle.nc_model.specs.FaultOffsets.{StandsAt}
use Rattle.fm_base.specs.Input.{Input}
use Rattle.fm_base.specs.Parser.{Outcome, and_then, ◌>>=◌, located}
use Rattle.nc_model.specs.Reading.{HeaderParser}
use Rattle.fm_base.proofs.Exact.{input, ok_pair}
use Rattle.fm_base.proofs.ListLemmas.{agree_less}
use Rattle.fm_base.proofs.Local.{Beyond, Taken, Failed, Local, after, failed, fault_is, refit}
use Rattle.nc_model.proofs.HeaderFaults.{offsets, IsUncut, Advances, OneField, Decides}

-- what was read of a field whose value passes
value_taken : {A B : Type 0} {p : HeaderParser A} (f : ℕ → A → HeaderParser B) (at : ℕ) (rest : List ℕ) (a : A)
    (i : Input) (b : B) (j : Input) → Taken offsets p at rest a i → (c : B) → ((k : Input) → f at a k ≡ Ok (c, k))
    → f at a i ≡ Ok (b, j) → Taken offsets (located (λ at. p >>= f at)) at rest b j
value_taken {B = B} f at rest a i b j t c good e =
    let same = ok_pair c b i j (sym (good i) ∙ e) in
    record {
      count = t.count;
      input_is = sym same.1 ∙ t.input_is;
      within = t.within;
      again = λ other agree. ap (λ r. and_then r (f at)) (t.again other agree)
          ∙ good (after t.count (input at other))
          ∙ ap (λ (y : B). Ok (y, after t.count (input at other))) same.0;
    }

-- a field whose value doesn't pass
value_failed : {A B : Type 0} {p : HeaderParser A} (f : ℕ → A → HeaderParser B) (at : ℕ) (rest : List ℕ) (a : A)
    (i : Input) (fault : HeaderFault) → Taken offsets p at rest a i → at < i.at → StandsAt fault at → IsUncut fault
    → ((k : Input) → f at a k ≡ Err fault) → Failed offsets (located (λ at. p >>= f at)) at rest fault
value_failed f at rest a i fault t moved stands uncut bad =
    let end : i.at ≡ at + t.count = ap (λ (k : Input). k.at) t.input_is in
    let here : at ≡ at + 0 = omega arith in
    record {
      count = 0;
      size = t.count;
      some = omega arith;
      why = inl (record {
        wide = omega arith;
        within = let within = t.within in omega arith;
        stands = subst (λ (n : ℕ). StandsAt fault n) here stands;
        uncut = uncut;
        again = λ other agree. ap (λ r. and_then r (f at))
            (t.again other (agree_less (t.count + 0) (0 + t.count) rest other (omega arith) agree))
            ∙ bad (after t.count (input at other));
      });
    }

pub Local-tested : {A B : Type 0} {p : HeaderParser A} (f : ℕ → A → HeaderParser B) → Local offsets p → Advances p
    → ((at : ℕ) (a : A) → Decides at (f at a)) → Local offsets (located (λ at. p >>= f at))
Local-tested {A} {B} {p} f lp moves df = record {
  takes = λ at rest b j e. takes_by at rest b j (p (input at rest)) refl e;
  fails = λ at rest fault e. fails_by at rest fault (p (input at rest)) refl e;
  forward = λ at rest. beyond_test at at (p (input at rest)) (lp.forward at rest);
}
  where
    whole : HeaderParser B
    whole = located (λ at. p >>= f at)

    beyond_test : (n at : ℕ) (r : Outcome A HeaderFault) → Beyond offsets n r → Beyond offsets n (and_then r (f at))
    beyond_test n at (Err fault) h = h
    beyond_test n at (Ok x) h = elim (df at x.0) [
      | inl good ↦ rw (good.1 x.1) h
      | inr bad ↦ rw (bad.3 x.1) (bad.2 n)
    ]

    takes_by : (at : ℕ) (rest : List ℕ) (b : B) (j : Input) (r : Outcome A HeaderFault) → p (input at rest) ≡ r
        → and_then r (f at) ≡ Ok (b, j) → Taken offsets whole at rest b j
    takes_by at rest b j (Err fault) is e = absurd cc
    takes_by at rest b j (Ok x) is e = elim (df at x.0) [
      | inl good ↦ value_taken f at rest x.0 x.1 b j (lp.takes at rest x.0 x.1 is) good.0 good.1 e
      | inr bad ↦ let no = sym (bad.3 x.1) ∙ e in absurd cc
    ]

    fails_by : (at : ℕ) (rest : List ℕ) (fault : HeaderFault) (r : Outcome A HeaderFault) → p (input at rest) ≡ r
        → and_then r (f at) ≡ Err fault → Failed offsets whole at rest fault
    fails_by at rest fault (Err first) is e =
        let same : first ≡ fault = fault_is {A = B} first fault e in
        refit (λ n other wide agree h. ap (λ r. and_then r (f at)) h)
        (λ n m other wide agree h. beyond_test m at (p (input at other)) h)
        (lp.fails at rest fault (is ∙ ap (λ (x : HeaderFault). failed {A = A} x) same))
    fails_by at rest fault (Ok x) is e = elim (df at x.0) [
      | inl good ↦ let no = sym (good.1 x.1) ∙ e in absurd cc
      | inr bad ↦
          subst (λ (y : HeaderFault). Failed offsets whole at rest y)
          (fault_is {A = B} bad.0 fault (sym (bad.3 x.1) ∙ e))
          (value_failed f at rest x.0 x.1 bad.0 (lp.takes at rest x.0 x.1 is) (moves at rest x.0 x.1 is)
          bad.1 bad.2 bad.3)
    ]

pub OneField-tested : {A B : Type 0} {p : HeaderParser A} (f : ℕ → A → HeaderParser B) → OneField p
    → ((at : ℕ) (a : A) → Decides at (f at a)) → OneField (located (λ at. p >>= f at))
OneField-tested {A} {B} {p} f fp df = record {
  local = Local-tested f fp.local fp.moves df;
  leaf = λ at rest fault e. leaf_by at rest fault (p (input at rest)) refl e;
  moves = λ at rest b j e. moves_by at rest b j (p (input at rest)) refl e;
}
  where
    leaf_by : (at : ℕ) (rest : List ℕ) (fault : HeaderFault) (r : Outcome A HeaderFault) → p (input at rest) ≡ r
        → and_then r (f at) ≡ Err fault → StandsAt fault at
    leaf_by at rest fault (Ok x) is e = elim (df at x.0) [
      | inl good ↦ let no = sym (good.1 x.1) ∙ e in absurd cc
      | inr bad ↦ subst (λ (y : HeaderFault). StandsAt y at)
          (fault_is {A = B} bad.0 fault (sym (bad.3 x.1) ∙ e)) bad.1
    ]
    leaf_by at rest fault (Err first) is e = subst (λ (y : HeaderFault). StandsAt y at)
        (fault_is {A = B} first fault e) (fp.leaf at rest first is)

    moves_by : (at : ℕ) (rest : List ℕ) (b : B) (j : Input) (r : Outcome A HeaderFault) → p (input at rest) ≡ r
        → and_then r (f at) ≡ Ok (b, j) → at < j.at
    moves_by at rest b j (Err fault) is e = absurd cc
    moves_by at rest b j (Ok x) is e = elim (df at x.0) [
      | inl good ↦
          let moved = fp.moves at rest x.0 x.1 is in
          let same = ok_pair good.0 b x.1 j (sym (good.1 x.1) ∙ e) in
          let offset = ap (λ (i : Input). i.at) same.1 in
          omega arith
      | inr bad ↦ let no = sym (bad.3 x.1) ∙ e in absurd cc
    ]
