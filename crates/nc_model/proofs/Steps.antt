-- One field, and steps that read nothing, are read exactly.
use Rattle.std.proofs.Common.{◌≡◌, ℕ, ◌+◌, ◌≤◌, Bool, true, false, cond, ltb, List, ◌++◌, length, take, drop, Ok, Err, refl, sym, ap, subst, ◌∙◌, inl, inr, length-append, length-take, take-append-drop, arith}
use Rattle.std.proofs.Math.ListN.{get_or-append}
use Rattle.std.proofs.lemmas.Bool.{ltb-false, le-ltb, cases_lt}
use Rattle.std.proofs.lemmas.List.{take_at, drop_at, get_or-drop, get_or_past}
use Rattle.nc_model.specs.declared.fault.HeaderFault.{HeaderFault}
use Rattle.nc_model.specs.declared.fault.HeaderFault.TheVariants.{Truncated}
use Rattle.nc_model.specs.Format.{IsBytes}
use Rattle.fm_base.specs.Input.{Input}
use Rattle.nc_model.specs.Reading.{field, HeaderParser}
use Rattle.fm_base.proofs.Exact.{input, Such, bind_ok, ok_pair, Then, done, ExactOn, ExactOn-then, ExactOn-as, Anything, IsOfParts}
use Rattle.fm_base.specs.Parser.{Outcome, and_then, ◌>>=◌, pure, unless}

-- n bytes
pub record IsField (n : ℕ) (text bytes : List ℕ) : Type 0 where
  pub size : length bytes ≡ n
  pub text_is : text ≡ bytes

pub IsBytes-drop : (n : ℕ) (bytes : List ℕ) → IsBytes bytes → IsBytes (drop n bytes)
IsBytes-drop n bytes h i = rw get_or-drop (h (n + i))

IsBytes-front : (xs ys : List ℕ) → IsBytes (xs ++ ys) → IsBytes xs
IsBytes-front xs ys h i =
    elim (cases_lt i (length xs)) [
      | inl lt ↦ rw (← get_or-append xs ys 0 i lt) (h i)
      | inr le ↦ rw (get_or_past xs i 0 le) (omega arith)
    ]

-- the front and the back of bytes are bytes
pub IsOfParts-bytes : IsOfParts IsBytes
IsOfParts-bytes = record {
  front = IsBytes-front;
  back = λ xs ys h. subst IsBytes (drop_at xs ys (length xs) refl) (IsBytes-drop (length xs) (xs ++ ys) h);
}

-- what is read of bytes is spelled so, and what is spelled so is read, whatever follows it
abbrev pub ExactBytes : {A : Type 0} → (List ℕ → A → Type 0) → HeaderParser A → Type 0
ExactBytes S p = ExactOn IsBytes S Anything p

-- one parser and then another, which may count on what the first has read
pub ExactBytes-then : {A B : Type 0} (S : List ℕ → A → Type 0) (T : A → List ℕ → B → Type 0) (p : HeaderParser A)
    (q : A → HeaderParser B)
    → ExactBytes S p → ((a : A) (front : List ℕ) → S front a → ExactBytes (T a) (q a)) → ExactBytes (Then S T) (p >>= q)
ExactBytes-then S T p q ep eq = ExactOn-then IsOfParts-bytes ep eq (λ a b back rest s any. tt)

-- the same in other words
pub ExactBytes-as : {A : Type 0} (S T : List ℕ → A → Type 0) (p : HeaderParser A)
    → ((text : List ℕ) (a : A) → IsBytes text → S text a → T text a) → ((text : List ℕ) (a : A) → T text a → S text a)
    → ExactBytes S p → ExactBytes T p
ExactBytes-as S T p to from ep = ExactOn-as IsOfParts-bytes to from ep

guard : {A : Type 0} (b : Bool) (d : HeaderFault) (x y : A) → cond b (Err d) (done x) ≡ done y → (b ≡ false) × (x ≡ y)
guard true d x y e = absurd cc
guard false d x y e = (refl, cc)

pub Exact-field : (n : ℕ) → ExactBytes (IsField n) (field n)
Exact-field n = record {
  takes = λ i a j fits e.
      let g = guard (ltb (length i.rest) n) (Truncated i.at)
      (take n i.rest, record { at = i.at + n; rest = drop n i.rest }) (a, j) e in
      let long : n ≤ length i.rest = ltb-false _ _ g.0 in
      let value : take n i.rest ≡ a = ap (λ (p : List ℕ × Input). p.0) g.1 in
      let left : record { at = i.at + n; rest = drop n i.rest } ≡ j = ap (λ (p : List ℕ × Input). p.1) g.1 in
      let size : length (take n i.rest) ≡ n = omega (arith, length-take n i.rest) in
      record {
        text = take n i.rest;
        spelled = record { size = ap length (sym value) ∙ size; text_is = value };
        split = sym (take-append-drop n i.rest) ∙ ap (λ (k : Input). take n i.rest ++ k.rest) left;
        offset = omega (arith, ap (λ (k : Input). k.at) left, size);
      };
  again = λ at text rest a s any.
      let size : length text ≡ n = ap length s.text_is ∙ s.size in
      let long : ltb (length (text ++ rest)) n ≡ false = le-ltb _ _ (omega (arith, length-append text rest)) in
      rw (long, take_at text rest n size, drop_at text rest n size, size, ← s.text_is) refl;
}

-- a step that reads nothing, and whose value stands in this relation to the value before it
pub record Tests {A B : Type 0} (R : A → B → Type 0) (f : A → HeaderParser B) : Type 0 where
  pub passes : (x : A) (i : Input) (y : B) (j : Input) → f x i ≡ Ok (y, j) → R x y × (i ≡ j)
  pub again : (x : A) (i : Input) (y : B) → R x y → f x i ≡ Ok (y, i)

-- a text of one value, and another that stands in this relation to it
pub record Through {A B : Type 0} (S : List ℕ → A → Type 0) (R : A → B → Type 0) (text : List ℕ) (y : B) : Type 0 where
  pub x : A
  pub spelled : S text x
  pub related : R x y

-- a reader and then a step that reads nothing
pub ExactBytes-test : {A B : Type 0} (S : List ℕ → A → Type 0) (R : A → B → Type 0) (p : HeaderParser A)
    (f : A → HeaderParser B) → ExactBytes S p → Tests R f
    → ExactBytes (Through S R) (p >>= f)
ExactBytes-test {A} S R p f ep tf = record {
  takes = λ i y k fits e.
      let x = bind_ok (p i) f (y, k) e in
      let first = ep.takes i x.0.0 x.0.1 fits x.1 in
      let step = tf.passes x.0.0 x.0.1 y k x.2 in
      record {
        text = first.text;
        spelled = record { x = x.0.0; spelled = first.spelled; related = step.0 };
        split = first.split ∙ ap (λ (n : Input). first.text ++ n.rest) step.1;
        offset = sym (ap (λ (n : Input). n.at) step.1) ∙ first.offset;
      };
  again = λ at text rest y s any. ap (λ (r : Outcome A HeaderFault). and_then r f)
      (ep.again at text rest s.x s.spelled tt) ∙ tf.again s.x (input (at + length text) rest) y s.related;
}

-- another value
pub Tests-pure : {A B : Type 0} (g : A → B) → Tests (λ x y. g x ≡ y) (λ x. pure (g x))
Tests-pure g = record {
  passes = λ x i y j e. ok_pair (g x) y i j e;
  again = λ x i y s. ap (λ v. Ok (v, i)) s;
}

unless_ok : {A : Type 0} (b : Bool) (fault : HeaderFault) (x y : A) (i j : Input) → unless b fault x i ≡ Ok (y, j)
    → (b ≡ false) × (x ≡ y) × (i ≡ j)
unless_ok true fault x y i j e = absurd cc
unless_ok false fault x y i j e = let p = ok_pair x y i j e in (refl, p.0, p.1)

ok_unless : {A : Type 0} (b : Bool) (fault : HeaderFault) (x y : A) (i : Input) → b ≡ false → x ≡ y
    → unless b fault x i ≡ Ok (y, i)
ok_unless b fault x y i good same = rw (good, same) refl

-- the same value, where the test does not fail
abbrev Tested : {A : Type 0} → (A → Bool) → A → A → Type 0
Tested bad x y = (bad x ≡ false) × (x ≡ y)

Tests-unless : {A : Type 0} (bad : A → Bool) (fault : HeaderFault) → Tests (Tested bad) (λ x. unless (bad x) fault x)
Tests-unless bad fault = record {
  passes = λ x i y j e. let h = unless_ok (bad x) fault x y i j e in ((h.0, h.1), h.2);
  again = λ x i y s. ok_unless (bad x) fault x y i s.0 s.1;
}

-- a value that is tested
pub ExactBytes-unless : {A : Type 0} (S : List ℕ → A → Type 0) (bad : A → Bool) (fault : HeaderFault)
    (p : HeaderParser A) → ExactBytes S p
    → ExactBytes (Such S (λ x. bad x ≡ false)) (p >>= λ x. unless (bad x) fault x)
ExactBytes-unless S bad fault p ep = ExactBytes-as (Through S (Tested bad)) _ _
    (λ text y fits s. record {
      spelled = subst (S text) s.related.1 s.spelled;
      holds = ap bad (sym s.related.1)
          ∙ s.related.0;
    })
    (λ text y s. record { x = y; spelled = s.spelled; related = (s.holds, refl) })
    (ExactBytes-test S (Tested bad) p _ ep (Tests-unless bad fault))

-- the same value, where neither test fails
abbrev TestedBoth : {A : Type 0} → (A → Bool) → (A → Bool) → A → A → Type 0
TestedBoth bad worse x y = (bad x ≡ false) × (worse x ≡ false) × (x ≡ y)

Tests-unless_both : {A : Type 0} (bad worse : A → Bool) (fault second : HeaderFault)
    → Tests (TestedBoth bad worse) (λ x. unless (bad x) fault x >>= λ y. unless (worse y) second y)
Tests-unless_both {A} bad worse fault second = record {
  passes = λ x i y j e.
      let m = bind_ok (unless (bad x) fault x i) (λ n. unless (worse n) second n) (y, j) e in
      let first = unless_ok (bad x) fault x m.0.0 i m.0.1 m.1 in
      let then = unless_ok (worse m.0.0) second m.0.0 y m.0.1 j m.2 in
      ((first.0, ap worse first.1 ∙ then.0, first.1 ∙ then.1), first.2 ∙ then.2);
  again = λ x i y s. ap (λ (r : Outcome A HeaderFault). and_then r (λ n. unless (worse n) second n))
      (ok_unless (bad x) fault x x i s.0 refl) ∙ ok_unless (worse x) second x y i s.1 s.2;
}

-- a value that is tested twice
pub ExactBytes-unless_both : {A : Type 0} (S : List ℕ → A → Type 0) (bad worse : A → Bool) (fault second : HeaderFault)
    (p : HeaderParser A) → ExactBytes S p
    → ExactBytes (Such S (λ x. (bad x ≡ false) × (worse x ≡ false)))
    (p >>= λ x. unless (bad x) fault x >>= λ y. unless (worse y) second y)
ExactBytes-unless_both {A} S bad worse fault second p ep = ExactBytes-as (Through S (TestedBoth bad worse)) _ _
    (λ text y fits s. let same = s.related.2 in
    record {
      spelled = subst (S text) same s.spelled;
      holds =
          (ap bad (sym same) ∙ s.related.0, ap worse (sym same) ∙ s.related.1);
    })
    (λ text y s. record { x = y; spelled = s.spelled; related = (s.holds.0, s.holds.1, refl) })
    (ExactBytes-test S (TestedBoth bad worse) p _ ep (Tests-unless_both bad worse fault second))
