-- Runs of bytes, single bytes, words and numbers are read exactly.
use Rattle.std.proofs.Common.{◌≡◌, ℕ, zero, suc, ◌+◌, ◌<◌, ◌≤◌, Bool, true, false, cond, ◌==◌, List, [], ◌∷◌, ◌++◌, length, take, replicate, Ok, Err, refl, sym, ap, ap₂, subst, ◌∙◌, take-append-drop, IsTrue, eq-eqb, arith}
use Rattle.std.proofs.lemmas.Bool.{eqb-true, eqb-false, ne_eqb}
use Rattle.std.proofs.lemmas.List.{append-nil, length-replicate}
use Rattle.std.proofs.lemmas.List.Folds.{length-prefix_len}
use Rattle.std.proofs.Math.Seq.{take-length, drop-append_seam}
use Rattle.std.specs.Char.{eq_ignore_ascii_case}
use Rattle.std.specs.List.{prefix_len, list_all}
use Rattle.std.specs.Str.{str_eq_ignore_ascii_case}
use Rattle.fm_base.specs.Input.{Input}
use Rattle.nc_model.specs.UnitsReading.{UnitsParser as Parser, past, next_passes, many_at, some_at, is_same_word}
use Rattle.tm_units.proofs.InstantLemmas.{and_parts}
use Rattle.fm_base.proofs.Exact.{input, Took, Exact, Stops, Anything, Passes, done, ok_pair, Exact-then, Exact-as, Exact-before, Exact-unless, Exact-located}
use Rattle.tm_units.proofs.Lawful.{after_nothing}

-- a run is as long as it can be
pub run_is : (test : ℕ → Bool) (run rest : List ℕ) → list_all test run ≡ true → Stops test rest
    → prefix_len test (run ++ rest) ≡ length run
run_is test [] [] all stops = refl
run_is test [] (x ∷ rest) all stops = rw stops refl
run_is test (x ∷ run) rest all stops =
    let parts = and_parts (test x) (list_all test run) all in
    rw (parts.0, run_is test run rest parts.1 stops) (omega arith)

-- and no longer than it may be
pub run_within : (test : ℕ → Bool) (run rest : List ℕ) (most : ℕ) → list_all test run ≡ true → length run ≤ most
    → Stops test rest → prefix_len test (take most (run ++ rest)) ≡ length run
run_within test [] rest zero all few stops = refl
run_within test [] [] (suc most) all few stops = refl
run_within test [] (x ∷ rest) (suc most) all few stops = rw stops refl
run_within test (x ∷ run) rest zero all few stops = absurd (omega arith)
run_within test (x ∷ run) rest (suc most) all few stops =
    let parts = and_parts (test x) (list_all test run) all in
    rw (parts.0, run_within test run rest most parts.1 (omega arith) stops) (omega arith)

-- and no longer where it is as long as it may be
pub run_full : (test : ℕ → Bool) (run rest : List ℕ) (most : ℕ) → list_all test run ≡ true → length run ≡ most
    → prefix_len test (take most (run ++ rest)) ≡ length run
run_full test [] rest zero all full = refl
run_full test [] rest (suc most) all full = absurd (omega arith)
run_full test (x ∷ run) rest zero all full = absurd (omega arith)
run_full test (x ∷ run) rest (suc most) all full =
    let parts = and_parts (test x) (list_all test run) all in
    rw (parts.0, run_full test run rest most parts.1 (omega arith)) (omega arith)

-- each byte of a run passes
pub run_passes : (test : ℕ → Bool) (xs : List ℕ) (most : ℕ) → list_all test (take (prefix_len test (take most xs)) xs)
    ≡ true
run_passes test xs zero = refl
run_passes test [] (suc most) = refl
run_passes test (x ∷ xs) (suc most) =
    by_first test x xs (prefix_len test (take most xs)) (test x) refl (run_passes test xs most)
  where
    by_first : (test : ℕ → Bool) (x : ℕ) (xs : List ℕ) (k : ℕ) (b : Bool) → test x ≡ b
        → list_all test (take k xs) ≡ true → list_all test (take (cond b (1 + k) 0) (x ∷ xs)) ≡ true
    by_first test x xs k true e all = let longer : 1 + k ≡ suc k = omega arith in rw longer (rw (e, all) refl)
    by_first test x xs k false e all = refl

-- as often as this byte stands there
abbrev pub Repeats : ℕ → List ℕ → ℕ → Type 0
Repeats byte text count = text ≡ replicate count byte

same_byte : (byte : ℕ) (xs : List ℕ) → list_all (λ other. other == byte) xs ≡ true → xs ≡ replicate (length xs) byte
same_byte byte [] all = refl
same_byte byte (x ∷ xs) all =
    let parts = and_parts (x == byte) (list_all (λ other. other == byte) xs) all in
    ap₂ (λ (b : ℕ) (l : List ℕ). b ∷ l) (eqb-true x byte parts.0) (same_byte byte xs parts.1)

repeated_passes : (byte n : ℕ) → list_all (λ other. other == byte) (replicate n byte) ≡ true
repeated_passes byte zero = refl
repeated_passes byte (suc n) = rw (eq-eqb byte byte refl, repeated_passes byte n) refl

pub Exact-many : (byte : ℕ) → Exact (Repeats byte) (Stops (λ other. other == byte)) (many_at byte)
unfolding many_at
Exact-many byte = record {
  takes = λ i n j any e.
      let test : ℕ → Bool = λ other. other == byte in
      let count = prefix_len test i.rest in
      let k = ok_pair count n (past count i) j e in
      let size : length (take count i.rest) ≡ count = length-prefix_len test i.rest in
      let same : take count i.rest ≡ replicate count byte = same_byte byte (take count i.rest) (run_all test i.rest)
      ∙ ap (λ (m : ℕ). replicate m byte) size in
      record {
        text = take count i.rest;
        spelled = subst (λ (m : ℕ). take count i.rest ≡ replicate m byte) k.0 same;
        split = sym (take-append-drop count i.rest) ∙ ap (λ (h : Input). take count i.rest ++ h.rest) k.1;
        offset = let at = ap (λ (h : Input). h.at) k.1 in omega (arith, at, size);
      };
  again = λ at text rest n s may.
      let test : ℕ → Bool = λ other. other == byte in
      let size : length text ≡ n = ap length s ∙ length-replicate n byte in
      let all : list_all test text ≡ true =
      subst (λ (l : List ℕ). list_all test l ≡ true) (sym s) (repeated_passes byte n) in
      let count : prefix_len test (text ++ rest) ≡ length text = run_is test text rest all may in
      let whole : past (length text) (input at (text ++ rest)) ≡ input (at + length text) rest =
      ap (λ (l : List ℕ). input (at + length text) l) (drop-append_seam text rest) in
      ap (λ (m : ℕ). done {A = ℕ × Input} (m, past m (input at (text ++ rest)))) count
      ∙ ap (λ (h : Input). done {A = ℕ × Input} (length text, h)) whole
      ∙ ap (λ (m : ℕ). done {A = ℕ × Input} (m, input (at + length text) rest)) size;
}
  where
    run_all : (test : ℕ → Bool) (xs : List ℕ) → list_all test (take (prefix_len test xs) xs) ≡ true
    run_all test xs = subst (λ (l : List ℕ). list_all test (take (prefix_len test l) xs) ≡ true) (take-length xs)
        (run_passes test xs (length xs))

-- at least once
abbrev pub RepeatsSome : ℕ → List ℕ → ℕ → Type 0
RepeatsSome byte text count = (0 < count) × (text ≡ replicate count byte)

pub Exact-some : (byte : ℕ) → Exact (RepeatsSome byte) (Stops (λ other. other == byte)) (some_at byte)
unfolding some_at
Exact-some byte =
    Exact-as
    (λ text n s. (
      subst (λ (m : ℕ). 0 < m) s.second.value (let some = eqb-false s.a 0 s.second.good in omega (arith, some)),
      s.text_is ∙ ap (λ (l : List ℕ). s.front ++ l) s.second.text_is ∙ append-nil s.front ∙ s.first
          ∙ ap (λ (m : ℕ). replicate m byte) s.second.value,
    ))
    (λ text n s. record {
      a = n;
      front = text;
      back = [];
      first = s.1;
      second = record { good = ne_eqb n 0 (λ e. let some = s.0 in omega arith); value = refl; text_is = refl };
      text_is = sym (append-nil text);
    })
    (Exact-then {T = λ count. Passes (count == 0) count} {Q = Stops (λ other. other == byte)} (Exact-many byte)
    (λ count. Exact-located (λ at. Exact-before (λ rest may. tt) (Exact-unless (count == 0) at count)))
    (λ a b back rest s may. after_nothing (Stops (λ other. other == byte)) back rest s.text_is may))

-- one byte that passes
pub record One (test : ℕ → Bool) (text : List ℕ) (unit : Unit {0}) : Type 0 where
  pub byte : ℕ
  pub passes : test byte ≡ true
  pub text_is : text ≡ byte ∷ []

-- the next byte, where it passes
abbrev pub one_at : (ℕ → Bool) → Parser (Unit {0})
one_at test = λ i. cond (next_passes test i) (Ok (tt, past 1 i)) (Err i.at)

guard : {A : Type 0} (b : Bool) (d : ℕ) (x y : A) → cond b (done x) (Err d) ≡ done y → (b ≡ true) × (x ≡ y)
guard true d x y e = (refl, cc)
guard false d x y e = absurd cc

one_takes : (test : ℕ → Bool) (at : ℕ) (rest : List ℕ) (unit : Unit {0}) (j : Input)
    → one_at test (input at rest) ≡ Ok (unit, j) → Took (One test) (input at rest) unit j
one_takes test at [] unit j e = absurd cc
one_takes test at (x ∷ rest) unit j e =
    let g = guard {A = Unit {0} × Input} (test x) at (tt, input (at + 1) rest) (unit, j) e in
    let same : input (at + 1) rest ≡ j = ap (λ (p : Unit {0} × Input). p.1) g.1 in
    record {
      text = x ∷ [];
      spelled = record { byte = x; passes = g.0; text_is = refl };
      split = ap (λ (h : Input). x ∷ h.rest) same;
      offset = sym (ap (λ (h : Input). h.at) same);
    }

pub Exact-one : (test : ℕ → Bool) → Exact (One test) Anything (one_at test)
Exact-one test = record {
  takes = λ i unit j any e. one_takes test i.at i.rest unit j e;
  again = λ at text rest unit s may.
      subst (λ (l : List ℕ). one_at test (input at (l ++ rest)) ≡ Ok (unit, input (at + length l) rest))
      (sym s.text_is) (rw (s.passes) refl);
}

-- this byte
abbrev pub IsByte : ℕ → List ℕ → Unit {0} → Type 0
IsByte byte text unit = text ≡ byte ∷ []

-- this letter in either case
abbrev pub IsLetter : ℕ → List ℕ → Unit {0} → Type 0
IsLetter letter text unit = One (λ other. eq_ignore_ascii_case other letter) text unit

-- these letters in either case
abbrev pub AreLetters : List ℕ → List ℕ → Unit {0} → Type 0
AreLetters word text unit = IsTrue (is_same_word text word)

pub no_word : (text : List ℕ) → IsTrue (is_same_word text []) → text ≡ []
unfolding is_same_word
no_word [] h = refl
no_word (x ∷ text) h = let e : false ≡ true = h in absurd cc

pub same_letters : (letter : ℕ) (word text : List ℕ) → IsTrue (is_same_word text (letter ∷ word))
    → (first : ℕ) × (others : List ℕ) × (text ≡ first ∷ others) × (eq_ignore_ascii_case first letter ≡ true)
    × IsTrue (is_same_word others word)
unfolding is_same_word
same_letters letter word [] h = let e : false ≡ true = h in absurd cc
same_letters letter word (x ∷ text) h = let parts =
    and_parts (eq_ignore_ascii_case x letter) (str_eq_ignore_ascii_case text word) h in
    (x, text, refl, parts.0, parts.1)

pub letters_same : (letter : ℕ) (word : List ℕ) (x : ℕ) (text : List ℕ) → eq_ignore_ascii_case x letter ≡ true
    → IsTrue (is_same_word text word) → IsTrue (is_same_word (x ∷ text) (letter ∷ word))
unfolding is_same_word
letters_same letter word x text first others = rw first others

-- a word of no letters
pub no_letters : Unit {0} → IsTrue (is_same_word [] [])
unfolding is_same_word
no_letters u = refl
