-- A value that is there was made of values that are there.
use Rattle.std.proofs.Common.{◌≡◌, ◌<◌, ◌≤◌, ◌^◌, ℕ, Bool, true, false, ◌&&◌, List, length, drop, Option, Some, None, refl, ap, subst, arith, length-drop}
use Rattle.std.specs.Prelude.{nat_le, nat_lt}
use Rattle.std.proofs.lemmas.Bool.{and_parts, ltb-true}
use Rattle.std.specs.Option.{option_and_then, option_or}
use Rattle.srv_words.specs.Reads.{◌>>=◌, if_so}
use Rattle.srv_words.specs.Values.{decimal_of, in_range, number_in, rest_of}
use Rattle.srv_words.proofs.NumberLemmas.{decimal_of-some}

-- a value that a step gave, and what came of it
pub step_some : {A B : Type 0} (o : Option A) (next : A → Option B) (y : B) → (o >>= next) ≡ Some y
    → (x : A) × (o ≡ Some x) × (next x ≡ Some y)
step_some None next y is = absurd cc
step_some (Some x) next y is = (x, refl, is)

-- the same, where the step comes first
pub then_some : {A B : Type 0} (f : A → Option B) (o : Option A) (y : B) → option_and_then f o ≡ Some y
    → (x : A) × (o ≡ Some x) × (f x ≡ Some y)
then_some f None y is = absurd cc
then_some f (Some x) y is = (x, refl, is)

-- a value is one of the two
pub or_some : {A P : Type 0} (first second : Option A) (x : A) → option_or first second ≡ Some x
    → (first ≡ Some x → P) → (second ≡ Some x → P) → P
or_some None second x is by_first by_second = by_second is
or_some (Some y) second x is by_first by_second = by_first is

-- a value that is there only where a test passes
pub so_some : {A : Type 0} (test : Bool) (x y : A) → if_so test x ≡ Some y → (test ≡ true) × (x ≡ y)
so_some true x y is = (refl, cc)
so_some false x y is = absurd cc

-- a test of numbers
pub within : (a b : ℕ) → nat_le a b ≡ true → a ≤ b
within a b is = grind arith

in_range-some : (least most n m : ℕ) → in_range least most n ≡ Some m → (least ≤ m) × (m ≤ most) × (n ≡ m)
unfolding in_range
in_range-some least most n m is =
    let there = so_some (nat_le least n && nat_le n most) n m is in
    let parts = and_parts (nat_le least n) (nat_le n most) there.0 in (
      subst (λ (k : ℕ). least ≤ k) there.1 (within least n parts.0),
      subst (λ (k : ℕ). k ≤ most) there.1 (within n most parts.1),
      there.1,
    )

-- a number that a text writes lies in the range
pub number_in-some : (least most n : ℕ) (text : List ℕ) → number_in least most text ≡ Some n
    → (least ≤ n) × (n ≤ most) × (n < 2 ^ 32)
unfolding number_in
number_in-some least most n text is =
    let read = then_some (in_range least most) (decimal_of text) n is in
    let range = in_range-some least most read.0 n read.2 in
    (range.0, range.1, subst (λ (k : ℕ). k < 2 ^ 32) range.2 (decimal_of-some text read.0 read.1).1)

-- the rest of a text isn't empty
pub rest_of-some : (front text rest : List ℕ) → rest_of front text ≡ Some rest → 0 < length rest
unfolding rest_of
rest_of-some front text rest is =
    let there = so_some _ _ rest is in
    let parts = and_parts _ (nat_lt (length front) (length text)) there.0 in
    let less : length front < length text = ltb-true _ _ parts.1 in
    let long : length (drop (length front) text) ≡ length rest = ap length there.1 in
    omega (arith, less, long, length-drop (length front) text)
