-- Single bytes and marks are read exactly.
use Rattle.std.proofs.Common.{◌≡◌, ℕ, ◌+◌, ◌<◌, ◌≤◌, Bool, true, false, cond, ◌==◌, List, [], ◌∷◌, ◌++◌, length, Option, Some, None, Ok, Err, refl, sym, ap, ◌∙◌, length-append, get_or, arith}
use Rattle.std.proofs.lemmas.Bool.{eqb-true, eq-eqb}
use Rattle.std.proofs.lemmas.Option.{same_Some}
use Rattle.std.specs.Option.{option_map_or}
use Rattle.fm_base.specs.Input.{Input}
use Rattle.nc_model.specs.Format.{IsBytes}
use Rattle.fm_base.proofs.Exact.{input, done, ok_pair}
use Rattle.fm_base.proofs.Local.{fault_is}
use Rattle.fm_base.proofs.Parts.{Example}
use Rattle.dap_client.specs.Reading.{byte_as, mark_at}
use Rattle.dap_client.proofs.Exactly.{ReadsTo, Dies, ExactTo, ExactTo-same}

-- any byte will do
abbrev pub Any : ℕ → Type 0
Any byte = Unit {0}

-- a byte is one
abbrev pub IsByte : ℕ → Type 0
IsByte byte = byte < 256

-- a byte of which this holds, as what it stands for
pub record IsMeant {A : Type 0} (Q : ℕ → Type 0) (meaning : ℕ → Option A) (text : List ℕ) (a : A) : Type 0 where
  pub byte : ℕ
  pub holds : Q byte
  pub meant : meaning byte ≡ Some a
  pub text_is : text ≡ byte ∷ []

-- what a text of one byte begins with is no longer
one_byte : {A : Type 0} (Q : ℕ → Type 0) (meaning : ℕ → Option A) (front more : List ℕ) (a : A)
    → IsMeant Q meaning (front ++ more) a
    → length front ≤ 1
one_byte Q meaning front more a s = omega (arith, ap length s.text_is, length-append front more)

-- a byte that stands for something
meant : {A : Type 0} (Q : ℕ → Type 0) (meaning : ℕ → Option A) (at byte : ℕ) (rest : List ℕ) (o : Option A)
    → meaning byte ≡ o → (a : A)
    (j : Input) → Q byte
    → option_map_or (λ (x : A). done {A = A × Input} {E = ℕ} (x, input (at + 1) rest)) o (Err at) ≡ Ok (a, j)
    → ReadsTo (IsMeant Q meaning) (input at (byte ∷ rest)) a j
meant Q meaning at byte rest None is a j small e = absurd cc
meant {A} Q meaning at byte rest (Some x) is a j small e =
    let k = ok_pair {E = ℕ} x a (input (at + 1) rest) j e in
    record {
      took = record {
        text = byte ∷ [];
        spelled = record { byte = byte; holds = small; meant = is ∙ ap Some k.0; text_is = refl };
        split = ap (λ (i : Input). byte ∷ i.rest) k.1;
        offset = sym (ap (λ (i : Input). i.at) k.1);
      };
      reach = λ front others more b split s. one_byte Q meaning front more b s;
    }

-- a byte that stands for nothing
unmeant : {A : Type 0} (Q : ℕ → Type 0) (meaning : ℕ → Option A) (at byte : ℕ) (rest : List ℕ) (o : Option A)
    → meaning byte ≡ o
    → (k : ℕ) → Example (IsMeant Q meaning)
    → option_map_or (λ (x : A). done {A = A × Input} {E = ℕ} (x, input (at + 1) rest)) o (Err at) ≡ Err k
    → Dies (IsMeant Q meaning) (input at (byte ∷ rest)) k
unmeant Q meaning at byte rest (Some x) is k some e = absurd cc
unmeant {A} Q meaning at byte rest None is k some e = record {
  front = [];
  others = byte ∷ rest;
  more = some.text;
  a = some.a;
  split = refl;
  offset = let same : k ≡ at = fault_is {A = A} k at (sym e) in omega (arith, same);
  spelled = some.spelled;
  reach = none;
}
  where
    none : (front others more : List ℕ) (b : A) → byte ∷ rest ≡ front ++ others → IsMeant Q meaning (front ++ more) b
        → length front ≤ 0
    none [] others more b split s = omega arith
    none (first ∷ front) others more b split s =
        let whole : byte ∷ rest ≡ first ∷ (front ++ others) = split in
        let spelled : first ∷ (front ++ more) ≡ s.byte ∷ [] = s.text_is in
        let same : byte ≡ s.byte =
        ap (λ (l : List ℕ). get_or l 0 0) whole ∙ ap (λ (l : List ℕ). get_or l 0 0) spelled in
        let isnt : None ≡ Some b = sym is ∙ ap meaning same ∙ s.meant in
        absurd cc

-- a byte is read exactly
pub ExactTo-byte_as : {A : Type 0} (n : ℕ) (Q : ℕ → Type 0) (meaning : ℕ → Option A)
    → ((byte : ℕ) → byte < 256 → Q byte) → Example (IsMeant Q meaning)
    → ExactTo n (IsMeant Q meaning) (byte_as meaning)
unfolding byte_as
ExactTo-byte_as {A} n Q meaning bounded some = record {
  some = some;
  takes = λ i a j of fits e. taken i.at i.rest a j of e;
  fails = λ i k of fits e. failed i.at i.rest k of e;
  again = λ at text rest a fits s.
      let whole : text ++ rest ≡ s.byte ∷ rest = ap (λ (l : List ℕ). l ++ rest) s.text_is in
      let one : at + 1 ≡ at + length text = omega (arith, ap length s.text_is) in
      ap (λ (l : List ℕ). byte_as meaning (input at l)) whole
      ∙ ap (λ (o : Option A). option_map_or (λ (x : A). done {A = A × Input} {E = ℕ} (x, input (at + 1) rest)) o
      (Err at)) s.meant
      ∙ ap (λ (k : ℕ). Ok (a, input k rest)) one;
}
  where
    taken : (at : ℕ) (rest : List ℕ) (a : A) (j : Input) → IsBytes rest → byte_as meaning (input at rest) ≡ Ok (a, j)
        → ReadsTo (IsMeant Q meaning) (input at rest) a j
    taken at [] a j of e = absurd cc
    taken at (byte ∷ rest) a j of e = meant Q meaning at byte rest (meaning byte) refl a j (bounded byte (of 0)) e

    failed : (at : ℕ) (rest : List ℕ) (k : ℕ) → IsBytes rest → byte_as meaning (input at rest) ≡ Err k
        → Dies (IsMeant Q meaning) (input at rest) k
    failed at [] k of e = record {
      front = [];
      others = [];
      more = some.text;
      a = some.a;
      split = refl;
      offset = let same : k ≡ at = fault_is {A = A} k at (sym e) in omega (arith, same);
      spelled = some.spelled;
      reach = λ front others more b split s. omega (arith, ap length split, length-append front others);
    }
    failed at (byte ∷ rest) k of e = unmeant Q meaning at byte rest (meaning byte) refl k some e

-- one of two bytes, as whether it is the first
abbrev pub first_of_two : ℕ → ℕ → ℕ → Option Bool
first_of_two first other byte = cond (byte == first) (Some true) (cond (byte == other) (Some false) None)

mark_is : (first other : ℕ) (i : Input) → mark_at first other i ≡ byte_as (first_of_two first other) i
unfolding mark_at byte_as
mark_is first other i = by_rest i.at i.rest
  where
    by_tests : (at : ℕ) (rest : List ℕ) (b c : Bool)
        → cond b (done {A = Bool × Input} {E = ℕ} (true, input (at + 1) rest))
        (cond c (Ok (false, input (at + 1) rest)) (Err at))
        ≡ option_map_or (λ (x : Bool). Ok (x, input (at + 1) rest))
        (cond b (Some true) (cond c (Some false) None)) (Err at)
    by_tests at rest true c = refl
    by_tests at rest false true = refl
    by_tests at rest false false = refl

    by_rest : (at : ℕ) (rest : List ℕ) → mark_at first other (input at rest)
        ≡ byte_as (first_of_two first other) (input at rest)
    by_rest at [] = refl
    by_rest at (byte ∷ rest) = by_tests at rest (byte == first) (byte == other)

-- the text of a mark
abbrev pub IsMark : ℕ → ℕ → List ℕ → Bool → Type 0
IsMark first other text mark = IsMeant Any (first_of_two first other) text mark

first_stands : (first other : ℕ) → first_of_two first other first ≡ Some true
first_stands first other = rw (eq-eqb first first refl) refl

pub example_mark : (first other : ℕ) → Example (IsMark first other)
example_mark first other = record {
  text = first ∷ [];
  a = true;
  spelled = record { byte = first; holds = tt; meant = first_stands first other; text_is = refl };
}

pub ExactTo-mark : (n first other : ℕ) → ExactTo n (IsMark first other) (mark_at first other)
ExactTo-mark n first other =
    ExactTo-same n (IsMark first other) (byte_as (first_of_two first other)) (mark_at first other) (mark_is first other)
    (ExactTo-byte_as n Any (first_of_two first other) (λ byte small. tt) (example_mark first other))

-- the text of a mark by what it says
pub mark_text : (first other : ℕ) (text : List ℕ) (mark : Bool) → IsMark first other text mark
    → text ≡ cond mark first other ∷ []
mark_text first other text mark s =
    s.text_is ∙ ap (λ (b : ℕ). b ∷ []) (by_test (s.byte == first) (s.byte == other) refl refl s.meant)
  where
    by_test : (b c : Bool) → (s.byte == first) ≡ b → (s.byte == other) ≡ c
        → cond b (Some true) (cond c (Some false) None) ≡ Some mark → s.byte ≡ cond mark first other
    by_test true c is also e = eqb-true s.byte first is ∙ ap (λ m. cond m first other) (same_Some true mark e)
    by_test false true is also e = eqb-true s.byte other also ∙ ap (λ m. cond m first other) (same_Some false mark e)
    by_test false false is also e = absurd cc

-- the mark of what it says, where the two bytes differ
pub mark_of : (first other : ℕ) → (other == first) ≡ false → (mark : Bool)
    → IsMark first other (cond mark first other ∷ []) mark
mark_of first other differ true =
    record { byte = first; holds = tt; meant = first_stands first other; text_is = refl }
mark_of first other differ false = record {
  byte = other;
  holds = tt;
  meant = rw (differ, eq-eqb other other refl) refl;
  text_is = refl;
}
