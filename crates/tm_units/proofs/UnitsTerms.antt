-- Runs, bytes and words depend on the bytes that they take and the next one alone.
use Rattle.std.proofs.Common.{◌≡◌, inl, inr, ℕ, suc, ◌+◌, ◌≤◌, Bool, true, false, cond, ◌==◌, List, [], ◌∷◌, ◌++◌, length, take, Ok, Err, refl, sym, ap, subst, ◌∙◌, IsTrue, eq-eqb, arith}
use Rattle.std.proofs.lemmas.Bool.{eqb-true, cases_lt}
use Rattle.std.proofs.lemmas.List.{take-take, length-take}
use Rattle.std.proofs.lemmas.List.Sums.{prefix_len-le-length}
use Rattle.std.specs.Char.{eq_ignore_ascii_case}
use Rattle.std.specs.List.{prefix_len}
use Rattle.fm_base.specs.Input.{Input}
use Rattle.fm_base.specs.Parser.{located, unless}
use Rattle.nc_model.specs.UnitsReading.{UnitsParser as Parser, past, next_passes, byte_at, letter_at, letters_at, many_at, some_at, is_same_word}
use Rattle.fm_base.proofs.Exact.{input, Stops, Anything, done, ok_pair}
use Rattle.fm_base.proofs.ListLemmas.{agree_less, Agree}
use Rattle.fm_base.proofs.Local.{Taken, Failed, Local, Beyond, Local-then}
use Rattle.fm_base.proofs.LocalSteps.{Local-pure}
use Rattle.fm_base.proofs.Parts.{Example, Part-leaf}
use Rattle.tm_units.proofs.Lawful.{offsets, by_exact, Lawful, NoOut, Lawful-plain, Lawful-pure, Lawful-as, Lawful-first}
use Rattle.tm_units.proofs.LawfulChoices.{agree_first, Local-here}
use Rattle.tm_units.proofs.UnitsRuns.{One, one_at, IsByte, IsLetter, AreLetters, Repeats, RepeatsSome, Exact-one, Exact-many, Exact-some, same_letters, letters_same, no_word, no_letters}

-- a fault after `count` bytes, by those and the next one
pub fails_after : {A : Type 0} (p : Parser A) (at : ℕ) (rest : List ℕ) (bad count : ℕ) → bad ≡ at + count
    → count ≤ length rest → ((other : List ℕ) → Agree (suc count) rest other → p (input at other) ≡ Err bad)
    → Failed offsets p at rest bad
fails_after p at rest bad count here within again = record {
  count = count;
  size = 1;
  some = omega arith;
  why = inl (record {
    wide = omega arith;
    within = omega arith;
    stands = here;
    uncut = refl;
    again = λ other same. again other (agree_less (suc count) (count + 1) rest other (omega arith) same);
  });
}

-- a run is as long in each text that begins with it and the same next byte
pub prefix_agree : (test : ℕ → Bool) (xs ys : List ℕ) → Agree (suc (prefix_len test xs)) xs ys
    → prefix_len test ys ≡ prefix_len test xs
prefix_agree test [] [] e = refl
prefix_agree test [] (y ∷ ys) e = absurd cc
prefix_agree test (x ∷ xs) [] e = absurd cc
prefix_agree test (x ∷ xs) (y ∷ ys) e = by_first test x y xs ys (test x) refl e (λ same. prefix_agree test xs ys same)
  where
    by_first : (test : ℕ → Bool) (x y : ℕ) (xs ys : List ℕ) (b : Bool) → test x ≡ b
        → Agree (suc (cond b (1 + prefix_len test xs) 0)) (x ∷ xs) (y ∷ ys)
        → (Agree (suc (prefix_len test xs)) xs ys → prefix_len test ys ≡ prefix_len test xs)
        → prefix_len test (y ∷ ys) ≡ cond b (1 + prefix_len test xs) 0
    by_first test x y xs ys true is e more =
        let longer : 1 + prefix_len test xs ≡ suc (prefix_len test xs) = omega arith in
        let same : Agree (suc (suc (prefix_len test xs))) (x ∷ xs) (y ∷ ys) =
        subst (λ (n : ℕ). Agree (suc n) (x ∷ xs) (y ∷ ys)) longer e in
        let byte : x ≡ y = cc in
        let rest : Agree (suc (prefix_len test xs)) xs ys = cc in
        rw (← byte, is, more rest) refl
    by_first test x y xs ys false is e more = let byte : x ≡ y = cc in rw (← byte, is) refl

pub prefix_agree_within : (test : ℕ → Bool) (most : ℕ) (xs ys : List ℕ)
    → Agree (suc (prefix_len test (take most xs))) xs ys → prefix_len test (take most ys)
    ≡ prefix_len test (take most xs)
prefix_agree_within test most xs ys e =
    prefix_agree test (take most xs) (take most ys) (both most (suc (prefix_len test (take most xs))) xs ys e)
  where
    both : (m n : ℕ) (xs ys : List ℕ) → Agree n xs ys → Agree n (take m xs) (take m ys)
    both m n xs ys e = elim (cases_lt m n) [
      | inl lt ↦
          let same : take m xs ≡ take m ys = agree_less m n xs ys (omega arith) e in
          ap (λ (l : List ℕ). take n l) same
      | inr le ↦ take-take n m xs le ∙ e ∙ sym (take-take n m ys le)
    ]

pub short : (test : ℕ → Bool) (most : ℕ) (xs : List ℕ) → prefix_len test (take most xs) ≤ length xs
short test most xs = let within = prefix_len-le-length test (take most xs) in omega (arith, length-take most xs)

Local-many : (byte : ℕ) → Local offsets (many_at byte)
unfolding many_at
Local-many byte = record {
  takes = λ at rest n j e.
      let count = prefix_len (λ other. other == byte) rest in
      let k = ok_pair count n (past count (input at rest)) j e in
      record {
        count = count;
        input_is = sym k.1;
        within = prefix_len-le-length (λ other. other == byte) rest;
        again = λ other looked.
            let size = prefix_agree (λ other. other == byte) rest other
            (agree_less (suc count) (count + 1) rest other (omega arith) looked) in
            ap (λ (m : ℕ). done {A = ℕ × Input} (m, past m (input at other))) size
            ∙ ap (λ (m : ℕ). done {A = ℕ × Input} (m, past count (input at other))) k.0;
      };
  fails = λ at rest bad e. absurd cc;
  forward = λ at rest. omega arith;
}

pub Lawful-many : (byte : ℕ)
    → Lawful (λ strict. Repeats byte) (λ count. Stops (λ other. other == byte)) NoOut (λ strict. many_at byte)
unfolding many_at
Lawful-many byte = Lawful-plain (by_exact (Exact-many byte)) (record {
  local = Local-many byte;
  takes = λ i n j of e. (Exact-many byte).takes i n j tt e;
  fails = λ at rest bad of e. absurd cc;
  some = record { text = []; a = 0; spelled = refl };
})

pub Lawful-some : (byte : ℕ)
    → Lawful (λ strict. RepeatsSome byte) (λ count. Stops (λ other. other == byte)) NoOut (λ strict. some_at byte)
unfolding some_at many_at
Lawful-some byte = Lawful-plain (by_exact (Exact-some byte))
    (Part-leaf (Local-then (Local-many byte) (λ count. local_unless (count == 0) count))
    (λ i n j of e. (Exact-some byte).takes i n j tt e)
    (record { text = byte ∷ []; a = 1; spelled = (omega arith, refl) }) some_offset)
  where
    local_unless : (bad : Bool) (x : ℕ) → Local offsets (located (λ at. unless bad at x))
    local_unless true x = Local-here
    local_unless false x = Local-pure x

    by_count : (at count bad : ℕ) (i : Input) (b : Bool) → (count == 0) ≡ b
        → cond b (Err (at + count)) (done {A = ℕ × Input} (count, i)) ≡ Err bad → bad ≡ at
    by_count at count bad i true is e = let none = eqb-true count 0 is in let same : at + count ≡ bad = cc in
        omega arith
    by_count at count bad i false is e = absurd cc

    some_offset : (at : ℕ) (rest : List ℕ) (bad : ℕ) → some_at byte (input at rest) ≡ Err bad → bad ≡ at
    some_offset at rest bad e =
        by_count at (prefix_len (λ other. other == byte) rest) bad
        (past (prefix_len (λ other. other == byte) rest) (input at rest))
        (prefix_len (λ other. other == byte) rest == 0) refl e

-- one byte that passes
one_taken : (test : ℕ → Bool) (at : ℕ) (rest : List ℕ) (unit : Unit {0}) (j : Input)
    → one_at test (input at rest) ≡ Ok (unit, j) → Taken offsets (one_at test) at rest unit j
one_taken test at [] unit j e = absurd cc
one_taken test at (x ∷ rest) unit j e = by_test test at x rest unit j (test x) refl e
  where
    by_test : (test : ℕ → Bool) (at x : ℕ) (rest : List ℕ) (unit : Unit {0}) (j : Input) (b : Bool) → test x ≡ b
        → cond b (done {A = Unit {0} × Input} (tt, past 1 (input at (x ∷ rest)))) (Err at) ≡ Ok (unit, j)
        → Taken offsets (one_at test) at (x ∷ rest) unit j
    by_test test at x rest unit j true is e =
        let k = ok_pair tt unit (past 1 (input at (x ∷ rest))) j e in
        record {
          count = 1;
          input_is = sym k.1;
          within = omega arith;
          again = λ other looked.
              let same : Agree 1 (x ∷ rest) other = agree_less 1 (1 + 1) (x ∷ rest) other (omega arith) looked in
              ap (λ (b : Bool). cond b (done {A = Unit {0} × Input} (tt, past 1 (input at other))) (Err at))
              (sym (agree_first test at (x ∷ rest) other same) ∙ is);
        }
    by_test test at x rest unit j false is e = absurd cc

one_offset : (test : ℕ → Bool) (at : ℕ) (rest : List ℕ) (bad : ℕ) (b : Bool)
    → cond b (done {A = Unit {0} × Input} (tt, past 1 (input at rest))) (Err at) ≡ Err bad → (b ≡ false) × (bad ≡ at)
one_offset test at rest bad true e = absurd cc
one_offset test at rest bad false e = (refl, cc)

pub Lawful-one : (test : ℕ → Bool) → Example (One test)
    → Lawful (λ strict. One test) (λ u. Anything) NoOut (λ strict. one_at test)
Lawful-one test some = Lawful-plain (by_exact (Exact-one test))
    (Part-leaf (record {
      takes = one_taken test;
      fails = fails;
      forward = λ at rest. by_test at (next_passes test (input at rest)) rest;
    })
    (λ i unit j of e. (Exact-one test).takes i unit j tt e) some
    (λ at rest bad e. (one_offset test at rest bad (next_passes test (input at rest)) e).1))
  where
    by_test : (at : ℕ) (b : Bool) (rest : List ℕ)
        → Beyond offsets at (cond b (done {A = Unit {0} × Input} (tt, past 1 (input at rest))) (Err at))
    by_test at true rest = omega arith
    by_test at false rest = omega arith

    fails : (at : ℕ) (rest : List ℕ) (bad : ℕ) → one_at test (input at rest) ≡ Err bad
        → Failed offsets (one_at test) at rest bad
    fails at rest bad e =
        let k = one_offset test at rest bad (next_passes test (input at rest)) e in
        fails_after (one_at test) at rest bad 0 (let here = k.1 in omega arith) (omega arith)
        (λ other same. ap (λ (b : Bool). cond b (done {A = Unit {0} × Input} (tt, past 1 (input at other))) (Err at))
        (sym (agree_first test at rest other (agree_less 1 (suc 0) rest other (omega arith) same)) ∙ k.0)
        ∙ ap (λ (n : ℕ). Err n) (sym k.1))

pub Lawful-byte : (byte : ℕ) → Lawful (λ strict. IsByte byte) (λ u. Anything) NoOut (λ strict. byte_at byte)
unfolding byte_at
Lawful-byte byte =
    Lawful-as
    (λ strict text unit s. s.text_is ∙ ap (λ (b : ℕ). b ∷ []) (eqb-true s.byte byte s.passes))
    (λ strict text unit s. record { byte = byte; passes = eq-eqb byte byte refl; text_is = s })
    (Lawful-one (λ other. other == byte)
    (record {
      text = byte ∷ [];
      a = tt;
      spelled = record { byte = byte; passes = eq-eqb byte byte refl; text_is = refl };
    }))

-- a letter of either case is a word
pub letter_word : (letter : ℕ) (text : List ℕ) (unit : Unit {0}) → IsLetter letter text unit
    → IsTrue (is_same_word text (letter ∷ []))
letter_word letter text unit s =
    subst (λ (l : List ℕ). IsTrue (is_same_word l (letter ∷ []))) (sym s.text_is)
    (letters_same letter [] s.byte [] s.passes (no_letters tt))

pub word_letter : (letter : ℕ) (text : List ℕ) (unit : Unit {0}) → IsTrue (is_same_word text (letter ∷ []))
    → IsLetter letter text unit
word_letter letter text unit s =
    let first = same_letters letter [] text s in
    record {
      byte = first.0;
      passes = first.3;
      text_is = first.2 ∙ ap (λ (l : List ℕ). first.0 ∷ l) (no_word first.1 first.4);
    }

pub Lawful-letter : (letter : ℕ)
    → Lawful (λ strict. AreLetters (letter ∷ [])) (λ u. Anything) NoOut (λ strict. letter_at letter)
unfolding letter_at
Lawful-letter letter =
    Lawful-as (λ strict. letter_word letter) (λ strict. word_letter letter)
    (Lawful-one (λ other. eq_ignore_ascii_case other letter)
    (record {
      text = letter ∷ [];
      a = tt;
      spelled = record { byte = letter; passes = eq-eqb _ _ refl; text_is = refl };
    }))

pub Lawful-letters : (word : List ℕ)
    → Lawful (λ strict. AreLetters word) (λ u. Anything) NoOut (λ strict. letters_at word)
unfolding is_same_word
Lawful-letters [] =
    Lawful-as
    (λ strict text unit s. subst (λ (l : List ℕ). IsTrue (is_same_word l [])) (sym s.text_is) refl)
    (λ strict text unit s. record { value = refl; text_is = no_word text s })
    (Lawful-pure tt)
Lawful-letters (letter ∷ word) =
    Lawful-as
    (λ strict text unit s.
    let first = word_letter letter s.front tt s.first in
    subst (λ (l : List ℕ). IsTrue (is_same_word l (letter ∷ word)))
    (sym (s.text_is ∙ ap (λ (l : List ℕ). l ++ s.back) first.text_is))
    (letters_same letter word first.byte s.back first.passes s.second))
    (λ strict text unit s.
    let parts = same_letters letter word text s in
    record {
      a = tt;
      front = parts.0 ∷ [];
      back = parts.1;
      first = letter_word letter (parts.0 ∷ []) tt
          (record { byte = parts.0; passes = parts.3; text_is = refl });
      second = parts.4;
      text_is = parts.2;
    })
    (Lawful-first {T = λ u strict. AreLetters word} {q = λ u strict. letters_at word} (Lawful-letter letter)
    (λ u. Lawful-letters word) (λ strict a b front back rest s t may. tt))
