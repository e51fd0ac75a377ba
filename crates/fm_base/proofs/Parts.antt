-- A parser of a part of a text: what it reads is spelled so; where it fails, what stands before the fault begins some
-- text that is spelled so; and it depends on its own bytes alone. How such parsers are put together.
use Rattle.std.proofs.Common.{◌≡◌, ◌⊎◌, inl, inr, ℕ, ◌+◌, ◌≤◌, Bool, true, false, cond, List, [], ◌++◌, length, take, Ok, Err, refl, sym, ap, subst, ◌∙◌, append_assoc, length-append, arith}
use Rattle.std.proofs.lemmas.List.{length-take, take_at}
use Rattle.std.proofs.Math.Seq.{take-append-add}
use Rattle.fm_base.specs.Input.{Input}
use Rattle.fm_base.specs.Parser.{Parser, ◌>>=◌, pure}
use Rattle.fm_base.proofs.Exact.{input, ExactOn, IsOfParts, Took, Then, Is, onto, took_then, bind_ok, Exact-pure}
use Rattle.fm_base.proofs.Local.{Offsets, Local, Local-then, stepped, fault_is}
use Rattle.fm_base.proofs.LocalSteps.{Local-pure}

-- some text that is spelled so
pub record Example {A : Type 0} (S : List ℕ → A → Type 0) : Type 0 where
  pub text : List ℕ
  pub a : A
  pub spelled : S text a

pub example_as : {A : Type 0} {S T : List ℕ → A → Type 0} → ((text : List ℕ) (a : A) → S text a → T text a) → Example S
    → Example T
example_as to some = record { text = some.text; a = some.a; spelled = to some.text some.a some.spelled }

-- one part and then another
abbrev pub example_then : {A B : Type 0} {S : List ℕ → A → Type 0} {T : A → List ℕ → B → Type 0} (first : Example S)
    → Example (T first.a) → Example (Then S T)
example_then first second = record {
  text = first.text ++ second.text;
  a = second.a;
  spelled = record {
    a = first.a;
    front = first.text;
    back = second.text;
    first = first.spelled;
    second = second.spelled;
    text_is = refl;
  };
}

-- some text that is spelled so begins with what stands before a fault
pub record Begun {A E : Type 0} (P : Offsets E) (S : List ℕ → A → Type 0) (at : ℕ) (rest : List ℕ)
    (fault : E) : Type 0 where
  pub count : ℕ
  pub stands : P.Stands fault (at + count)
  pub within : count ≤ length rest
  pub some : Example S
  pub more : List ℕ
  pub begins : some.text ≡ take count rest ++ more

pub begun_as : {A B E : Type 0} {P : Offsets E} {S : List ℕ → A → Type 0} {T : List ℕ → B → Type 0} (f : A → B) {at : ℕ}
    {rest : List ℕ} {fault : E}
    → ((text : List ℕ) (a : A) → S text a → T text (f a)) → Begun P S at rest fault → Begun P T at rest fault
begun_as f to b = record {
  count = b.count;
  stands = b.stands;
  within = b.within;
  some = record { text = b.some.text; a = f b.some.a; spelled = to b.some.text b.some.a b.some.spelled };
  more = b.more;
  begins = b.begins;
}

-- nothing was read yet
pub begun_here : {A E : Type 0} {P : Offsets E} {S : List ℕ → A → Type 0} (at : ℕ) (rest : List ℕ) (fault : E)
    → Example S → P.Stands fault at → Begun P S at rest fault
begun_here {P = P} at rest fault some stands = record {
  count = 0;
  stands = let offset : at ≡ at + 0 = omega arith in subst (λ (n : ℕ). P.Stands fault n) offset stands;
  within = omega arith;
  some = some;
  more = some.text;
  begins = refl;
}

-- what stands before a fault are the first bytes of that text
pub begun_same : {A E : Type 0} {P : Offsets E} {S : List ℕ → A → Type 0} {at : ℕ} {rest : List ℕ} {fault : E}
    (b : Begun P S at rest fault) → take b.count rest ≡ take b.count b.some.text
begun_same {rest = rest} b =
    let size : length (take b.count rest) ≡ b.count = let fits = b.within in
    omega (arith, length-take b.count rest) in
    sym (ap (λ (l : List ℕ). take b.count l) b.begins ∙ take_at (take b.count rest) b.more b.count size)

-- the first of two parts fails
first_begun : {A B E : Type 0} {P : Offsets E} (S : List ℕ → A → Type 0) (T : A → List ℕ → B → Type 0) (at : ℕ)
    (rest : List ℕ) (fault : E)
    (b : Begun P S at rest fault) → Example (T b.some.a) → Begun P (Then S T) at rest fault
first_begun S T at rest fault b next = record {
  count = b.count;
  stands = b.stands;
  within = b.within;
  some = example_then {T = T} b.some next;
  more = b.more ++ next.text;
  begins = ap (λ (l : List ℕ). l ++ next.text) b.begins ∙ append_assoc (take b.count rest) b.more next.text;
}

-- the second part fails, after one that was taken
pub second_begun : {A B E : Type 0} {P : Offsets E} (S : List ℕ → A → Type 0) (T : A → List ℕ → B → Type 0) (at : ℕ)
    (rest : List ℕ) (a : A) (j : Input) (fault : E)
    (t : Took S (input at rest) a j) → Begun P (T a) j.at j.rest fault → Begun P (Then S T) at rest fault
second_begun {P = P} S T at rest a j fault t b =
    let n : ℕ = length t.text in
    let offset : j.at + b.count ≡ at + (n + b.count) = omega (arith, t.offset) in
    let front : take (n + b.count) rest ≡ t.text ++ take b.count j.rest =
    ap (λ (l : List ℕ). take (n + b.count) l) t.split ∙ take-append-add t.text j.rest b.count in
    record {
      count = n + b.count;
      stands = subst (λ (m : ℕ). P.Stands fault m) offset b.stands;
      within = let fits = b.within in omega (arith, ap length t.split, length-append t.text j.rest);
      some = example_then {S = S} {T = T} (record { text = t.text; a = a; spelled = t.spelled }) b.some;
      more = b.more;
      begins = onto t.text b.begins ∙ sym (append_assoc t.text (take b.count j.rest) b.more)
          ∙ sym (ap (λ (l : List ℕ). l ++ b.more) front);
    }

-- a parser of a part of such inputs
pub record Part {A E : Type 0} (P : Offsets E) (Of : List ℕ → Type 0) (S : List ℕ → A → Type 0)
    (p : Parser A E) : Type 0 where
  pub local : Local P p
  pub takes : (i : Input) (a : A) (j : Input) → Of i.rest → p i ≡ Ok (a, j) → Took S i a j
  pub fails : (at : ℕ) (rest : List ℕ) (fault : E) → Of rest → p (input at rest) ≡ Err fault → Begun P S at rest fault
  pub some : Example S

-- all faults stand where the part begins
pub Part-leaf : {A E : Type 0} {P : Offsets E} {Of : List ℕ → Type 0} {S : List ℕ → A → Type 0} {p : Parser A E}
    → Local P p → ((i : Input) (a : A) (j : Input) → Of i.rest → p i ≡ Ok (a, j) → Took S i a j) → Example S
    → ((at : ℕ) (rest : List ℕ) (fault : E) → p (input at rest) ≡ Err fault → P.Stands fault at) → Part P Of S p
Part-leaf lp takes some here = record {
  local = lp;
  takes = takes;
  fails = λ at rest fault of e. begun_here at rest fault some (here at rest fault e);
  some = some;
}

pub Part-pure : {A E : Type 0} {P : Offsets E} {Of : List ℕ → Type 0} (x : A) → Part P Of (Is x) (pure x)
Part-pure {E = E} {Of = Of} x = record {
  local = Local-pure x;
  takes = let exact : ExactOn {E = E} Of (Is x) _ (pure x) = Exact-pure x in exact.takes;
  fails = λ at rest fault of e. absurd cc;
  some = record { text = []; a = x; spelled = record { value = refl; text_is = refl } };
}

-- the same part, said otherwise
pub Part-as : {A E : Type 0} {P : Offsets E} {Of : List ℕ → Type 0} {S T : List ℕ → A → Type 0} {p : Parser A E}
    → ((text : List ℕ) (a : A) → S text a → T text a) → Part P Of S p → Part P Of T p
Part-as to part = record {
  local = part.local;
  takes = λ i a j of e. let t = part.takes i a j of e in
      record { text = t.text; spelled = to t.text a t.spelled; split = t.split; offset = t.offset };
  fails = λ at rest fault of e. begun_as (λ a. a) to (part.fails at rest fault of e);
  some = example_as to part.some;
}

-- one part and then another
pub Part-then : {A B E : Type 0} {P : Offsets E} {Of : List ℕ → Type 0} {S : List ℕ → A → Type 0}
    {T : A → List ℕ → B → Type 0} {p : Parser A E} {q : A → Parser B E} → IsOfParts Of → Part P Of S p
    → ((a : A) → Part P Of (T a) (q a)) → Part P Of (Then S T) (p >>= q)
Part-then {A} {B} {E} {P} {Of} {S} {T} {p} {q} parts first next = record {
  local = Local-then first.local (λ a. (next a).local);
  takes = λ i b k of e.
      let x = bind_ok (p i) q (b, k) e in
      let t = first.takes i x.0.0 x.0.1 of x.1 in
      took_then {T = T} t ((next x.0.0).takes x.0.1 b k (left i x.0.0 x.0.1 t of) x.2);
  fails = λ at rest fault of e. elim (stepped (p (input at rest)) q (Err fault) e) [
    | inl wrong ↦
        let b = first.fails at rest wrong.0 of wrong.1 in
        subst (λ x. Begun P (Then S T) at rest x) (sym (fault_is {A = B} fault wrong.0 wrong.2))
        (first_begun S T at rest wrong.0 b (next b.some.a).some)
    | inr s ↦
        let t = first.takes (input at rest) s.a s.j of s.first in
        second_begun S T at rest s.a s.j fault t
        ((next s.a).fails s.j.at s.j.rest fault (left (input at rest) s.a s.j t of) s.second)
  ];
  some = example_then {T = T} first.some (next first.some.a).some;
}
  where
    left : (i : Input) (a : A) (j : Input) (t : Took S i a j) → Of i.rest → Of j.rest
    left i a j t of = parts.back t.text j.rest (subst Of t.split of)

-- one part or the other, by the bytes that are looked at
pub Part-cond : {A E : Type 0} {P : Offsets E} {Of : List ℕ → Type 0} {S T : List ℕ → A → Type 0} {p q : Parser A E}
    (test : Input → Bool) → Local P (λ i. cond (test i) (p i) (q i)) → Part P Of S p → Part P Of T q
    → Part P Of (λ text a. S text a ⊎ T text a) (λ i. cond (test i) (p i) (q i))
Part-cond {A} {E} {P} {Of} {S} {T} {p} {q} test lp first second = record {
  local = lp;
  takes = λ i a j of e. takes_by i a j (test i) of e;
  fails = λ at rest fault of e. fails_by at rest fault (test (input at rest)) of e;
  some = example_as (λ text a s. inr s) second.some;
}
  where
    takes_by : (i : Input) (a : A) (j : Input) (b : Bool) → Of i.rest → cond b (p i) (q i) ≡ Ok (a, j)
        → Took (λ text a. S text a ⊎ T text a) i a j
    takes_by i a j true of e = let t = first.takes i a j of e in
        record { text = t.text; spelled = inl t.spelled; split = t.split; offset = t.offset }
    takes_by i a j false of e = let t = second.takes i a j of e in
        record { text = t.text; spelled = inr t.spelled; split = t.split; offset = t.offset }

    fails_by : (at : ℕ) (rest : List ℕ) (fault : E) (b : Bool) → Of rest
        → cond b (p (input at rest)) (q (input at rest)) ≡ Err fault
        → Begun P (λ text a. S text a ⊎ T text a) at rest fault
    fails_by at rest fault true of e = begun_as (λ a. a) (λ text a s. inl s) (first.fails at rest fault of e)
    fails_by at rest fault false of e = begun_as (λ a. a) (λ text a s. inr s) (second.fails at rest fault of e)
