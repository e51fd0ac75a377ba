-- A parser that reads what is spelled and nothing else, where this may follow, and how such parsers are put together.
use Rattle.std.proofs.Common.{◌≡◌, ℕ, ◌+◌, Bool, true, false, List, [], ◌++◌, length, slice_get, Option, Some, None, Result, Ok, Err, refl, sym, ap, subst, ◌∙◌, append_assoc, length-append, arith}
use Rattle.std.specs.Option.{option_map_or}
use Rattle.fm_base.specs.Input.{Input}
use Rattle.fm_base.specs.Parser.{Outcome, Parser, and_then, ◌>>=◌, pure, located, unless, known}

abbrev pub input : ℕ → List ℕ → Input
input at rest = record { at = at; rest = rest }

-- no byte that passes stands in front
abbrev pub Stops : (ℕ → Bool) → List ℕ → Type 0
Stops test rest = option_map_or test (slice_get rest 0) false ≡ false

-- anything may follow
abbrev pub Anything : List ℕ → Type 0
Anything rest = Unit {0}

-- only the end may follow
abbrev pub AtEnd : List ℕ → Type 0
AtEnd rest = rest ≡ []

-- what holds of a text holds of its front and of its back
pub record IsOfParts (Of : List ℕ → Type 0) : Type 0 where
  pub front : (xs ys : List ℕ) → Of (xs ++ ys) → Of xs
  pub back : (xs ys : List ℕ) → Of (xs ++ ys) → Of ys

-- what was taken from the front, and that it is spelled so
pub record Took {A : Type 0} (S : List ℕ → A → Type 0) (i : Input) (a : A) (j : Input) : Type 0 where
  pub text : List ℕ
  pub spelled : S text a
  pub split : i.rest ≡ text ++ j.rest
  pub offset : j.at ≡ i.at + length text

-- What is read of an input of this sort is spelled so, and what is spelled so is read where this may follow.
pub record ExactOn {A E : Type 0} (Of : List ℕ → Type 0) (S : List ℕ → A → Type 0) (Follows : List ℕ → Type 0)
    (p : Parser A E) : Type 0 where
  pub takes : (i : Input) (a : A) (j : Input) → Of i.rest → p i ≡ Ok (a, j) → Took S i a j
  pub again : (at : ℕ) (text rest : List ℕ) (a : A) → S text a → Follows rest
      → p (input at (text ++ rest)) ≡ Ok (a, input (at + length text) rest)

-- the same of any input
abbrev pub Exact : {A E : Type 0} → (List ℕ → A → Type 0) → (List ℕ → Type 0) → Parser A E → Type 0
Exact S Follows p = ExactOn Anything S Follows p

-- one text and then the other
pub record Then {A B : Type 0} (S : List ℕ → A → Type 0) (T : A → List ℕ → B → Type 0) (text : List ℕ)
    (b : B) : Type 0 where
  pub a : A
  pub front : List ℕ
  pub back : List ℕ
  pub first : S front a
  pub second : T a back b
  pub text_is : text ≡ front ++ back

-- a text of a value of which this holds
pub record Such {A : Type 0} (S : List ℕ → A → Type 0) (P : A → Type 0) (text : List ℕ) (a : A) : Type 0 where
  pub spelled : S text a
  pub holds : P a

-- equal texts behind the same one
pub onto : (a : List ℕ) {x y : List ℕ} → x ≡ y → a ++ x ≡ a ++ y
onto a e = ap (λ (l : List ℕ). a ++ l) e

-- the value of a step that did not fail
pub bind_ok : {A B E : Type 0} (r : Outcome A E) (f : A → Parser B E) (y : B × Input) → and_then r f ≡ Ok y
    → (x : A × Input) × (r ≡ Ok x) × (f x.0 x.1 ≡ Ok y)
bind_ok (Ok x) f y e = (x, refl, e)
bind_ok (Err fault) f y e = absurd cc

-- one text and then the other, which were taken
pub took_then : {A B : Type 0} {S : List ℕ → A → Type 0} {T : A → List ℕ → B → Type 0} {i j k : Input} {a : A} {b : B}
    → Took S i a j → Took (T a) j b k → Took (Then S T) i b k
took_then {k = k} {a = a} first second = record {
  text = first.text ++ second.text;
  spelled = record {
    a = a;
    front = first.text;
    back = second.text;
    first = first.spelled;
    second = second.spelled;
    text_is = refl;
  };
  split = first.split ∙ onto first.text second.split ∙ sym (append_assoc first.text second.text k.rest);
  offset = omega (arith, first.offset, second.offset, length-append first.text second.text);
}

-- one text and then the other, which are read again
pub again_then : {A B E : Type 0} {S : List ℕ → A → Type 0} {T : A → List ℕ → B → Type 0} (p : Parser A E)
    (q : A → Parser B E) (at : ℕ) (text rest : List ℕ) (b : B) (s : Then S T text b)
    → p (input at (s.front ++ (s.back ++ rest))) ≡ Ok (s.a, input (at + length s.front) (s.back ++ rest))
    → q s.a (input (at + length s.front) (s.back ++ rest)) ≡ Ok (b, input (at + length s.front + length s.back) rest)
    → (p >>= q) (input at (text ++ rest)) ≡ Ok (b, input (at + length text) rest)
again_then {A} {B} {E} p q at text rest b s first second =
    let whole : text ++ rest ≡ s.front ++ (s.back ++ rest) = ap (λ (l : List ℕ). l ++ rest) s.text_is
    ∙ append_assoc s.front s.back rest in
    let len : at + length s.front + length s.back ≡ at + length text =
    omega (arith, ap length s.text_is, length-append s.front s.back) in
    ap (λ (l : List ℕ). and_then (p (input at l)) q) whole
    ∙ ap (λ (r : Outcome A E). and_then r q) first
    ∙ second
    ∙ ap (λ (n : ℕ). Ok (b, input n rest)) len

-- one parser and then another, which may count on what the first has read
pub ExactOn-then : {A B E : Type 0} {Of : List ℕ → Type 0} {S : List ℕ → A → Type 0} {T : A → List ℕ → B → Type 0}
    {P Q : List ℕ → Type 0}
    {p : Parser A E} {q : A → Parser B E} → IsOfParts Of → ExactOn Of S P p
    → ((a : A) (front : List ℕ) → S front a → ExactOn Of (T a) Q (q a))
    → ((a : A) (b : B) (back rest : List ℕ) → T a back b → Q rest → P (back ++ rest))
    → ExactOn Of (Then S T) Q (p >>= q)
ExactOn-then {Of = Of} {T = T} {p = p} {q = q} parts ep eq follows = record {
  takes = λ i b k of e.
      let x = bind_ok (p i) q (b, k) e in
      let first = ep.takes i x.0.0 x.0.1 of x.1 in
      let left = parts.back first.text x.0.1.rest (subst Of first.split of) in
      took_then {T = T} first ((eq x.0.0 first.text first.spelled).takes x.0.1 b k left x.2);
  again = λ at text rest b s may.
      again_then p q at text rest b s
      (ep.again at s.front (s.back ++ rest) s.a s.first (follows s.a b s.back rest s.second may))
      ((eq s.a s.front s.first).again (at + length s.front) s.back rest b s.second may);
}

pub IsOfParts-anything : IsOfParts Anything
IsOfParts-anything = record { front = λ xs ys any. tt; back = λ xs ys any. tt }

-- one parser and then another
pub Exact-then : {A B E : Type 0} {S : List ℕ → A → Type 0} {T : A → List ℕ → B → Type 0} {P Q : List ℕ → Type 0}
    {p : Parser A E} {q : A → Parser B E}
    → Exact S P p → ((a : A) → Exact (T a) Q (q a))
    → ((a : A) (b : B) (back rest : List ℕ) → T a back b → Q rest → P (back ++ rest))
    → Exact (Then S T) Q (p >>= q)
Exact-then ep eq follows = ExactOn-then IsOfParts-anything ep (λ a front s. eq a) follows

-- the same in other words
pub ExactOn-as : {A E : Type 0} {Of : List ℕ → Type 0} {S T : List ℕ → A → Type 0} {P : List ℕ → Type 0}
    {p : Parser A E} → IsOfParts Of
    → ((text : List ℕ) (a : A) → Of text → S text a → T text a) → ((text : List ℕ) (a : A) → T text a → S text a)
    → ExactOn Of S P p → ExactOn Of T P p
ExactOn-as {Of = Of} parts to from ep = record {
  takes = λ i a j of e.
      let t = ep.takes i a j of e in
      record {
        text = t.text;
        spelled = to t.text a (parts.front t.text j.rest (subst Of t.split of)) t.spelled;
        split =
            t.split;
        offset = t.offset;
      };
  again = λ at text rest a s may. ep.again at text rest a (from text a s) may;
}

-- the same parser, with what it reads said otherwise
pub Exact-as : {A E : Type 0} {S T : List ℕ → A → Type 0} {P : List ℕ → Type 0} {p : Parser A E}
    → ((text : List ℕ) (a : A) → S text a → T text a)
    → ((text : List ℕ) (a : A) → T text a → S text a) → Exact S P p → Exact T P p
Exact-as to from ep = ExactOn-as IsOfParts-anything (λ text a of s. to text a s) from ep

-- where less may follow
pub Exact-before : {A E : Type 0} {Of : List ℕ → Type 0} {S : List ℕ → A → Type 0} {P Q : List ℕ → Type 0}
    {p : Parser A E}
    → ((rest : List ℕ) → Q rest → P rest) → ExactOn Of S P p → ExactOn Of S Q p
Exact-before weaker ep = record {
  takes = λ i a j of e. ep.takes i a j of e;
  again = λ at text rest a s may. ep.again at text rest a s (weaker rest may);
}

-- at any offset
pub Exact-located : {A E : Type 0} {Of : List ℕ → Type 0} {S : List ℕ → A → Type 0} {P : List ℕ → Type 0}
    {f : ℕ → Parser A E}
    → ((at : ℕ) → ExactOn Of S P (f at)) → ExactOn Of S P (located f)
Exact-located ef = record {
  takes = λ i a j of e. (ef i.at).takes i a j of e;
  again = λ at text rest a s may. (ef at).again at text rest a s may;
}

-- nothing is read, and this is the value
pub record Is {A : Type 0} (x : A) (text : List ℕ) (a : A) : Type 0 where
  pub value : x ≡ a
  pub text_is : text ≡ []

-- nothing is read, where the test fails
pub record Passes {A : Type 0} (bad : Bool) (x : A) (text : List ℕ) (a : A) : Type 0 where
  pub good : bad ≡ false
  pub value : x ≡ a
  pub text_is : text ≡ []

-- nothing is read, where the value was found
pub record Finds {A : Type 0} (found : Option A) (text : List ℕ) (a : A) : Type 0 where
  pub found_is : found ≡ Some a
  pub text_is : text ≡ []

abbrev pub done : {A E : Type 0} → A → Result A E
done x = Ok x

ok_is : {A E : Type 0} (x y : A) → done {A = A} {E = E} x ≡ done y → x ≡ y
ok_is x y e = cc

-- two successes that are the same
pub ok_pair : {A E : Type 0} (x a : A) (i j : Input) → done {A = A × Input} {E = E} (x, i) ≡ done {A = A × Input} (a, j)
    → (x ≡ a) × (i ≡ j)
ok_pair {A = A} {E = E} x a i j e = let same : (x, i) ≡ (a, j) = ok_is {A = A × Input} {E = E} (x, i) (a, j) e in
    (ap (λ (p : A × Input). p.0) same, ap (λ (p : A × Input). p.1) same)

-- nothing was taken
pub took_none : {A : Type 0} {S : List ℕ → A → Type 0} (i : Input) (a : A) (j : Input) → S [] a → i ≡ j → Took S i a j
took_none i a j s same = record {
  text = [];
  spelled = s;
  split = ap (λ (n : Input). n.rest) same;
  offset = let h = ap (λ (n : Input). n.at) same in omega arith;
}

-- a step that reads nothing, before other bytes
pub none_again : {A E : Type 0} (x a : A) (at : ℕ) (text rest : List ℕ) → x ≡ a → text ≡ []
    → done {A = A × Input} {E = E} (x, input at (text ++ rest)) ≡ Ok (a, input (at + length text) rest)
none_again {A = A} x a at text rest value none =
    let whole : text ++ rest ≡ rest = ap (λ (l : List ℕ). l ++ rest) none in
    let len : at ≡ at + length text = omega (arith, ap length none) in
    ap (λ (l : List ℕ). Ok (x, input at l)) whole ∙ ap (λ (y : A). Ok (y, input at rest)) value
    ∙ ap (λ (n : ℕ). Ok (a, input n rest)) len

-- a test of what was read
pub Exact-unless : {A E : Type 0} {Of : List ℕ → Type 0} (bad : Bool) (fault : E) (x : A)
    → ExactOn Of (Passes bad x) Anything (unless bad fault x)
Exact-unless true fault x = record {
  takes = λ i a j of e. absurd cc;
  again = λ at text rest a s may. let bad = s.good in absurd cc;
}
Exact-unless {A = A} false fault x = record {
  takes = λ i a j of e. let k = ok_pair x a i j e in
      took_none i a j (record { good = refl; value = k.0; text_is = refl }) k.1;
  again = λ at text rest a s may. none_again x a at text rest s.value s.text_is;
}

-- a step that reads nothing
pub Exact-pure : {A E : Type 0} {Of : List ℕ → Type 0} (x : A) → ExactOn {E = E} Of (Is x) Anything (pure x)
Exact-pure x = record {
  takes = λ i a j of e. let k = ok_pair x a i j e in took_none i a j (record { value = k.0; text_is = refl }) k.1;
  again = λ at text rest a s may. none_again x a at text rest s.value s.text_is;
}

-- a value that is known or at fault
pub Exact-known : {A E : Type 0} {Of : List ℕ → Type 0} (fault : E) (found : Option A)
    → ExactOn Of (Finds found) Anything (known fault found)
Exact-known fault None = record {
  takes = λ i a j of e. absurd cc;
  again = λ at text rest a s may. let none = s.found_is in absurd cc;
}
Exact-known {A = A} fault (Some x) = record {
  takes = λ i a j of e. let k = ok_pair x a i j e in
      took_none i a j (record { found_is = ap Some k.0; text_is = refl }) k.1;
  again = λ at text rest a s may. none_again x a at text rest (some_is x a s.found_is) s.text_is;
}
  where
    some_is : {A : Type 0} (x y : A) → Some x ≡ Some y → x ≡ y
    some_is x y e = cc
