-- Words of bytes that pass, each with the byte behind it, are read exactly.
use Rattle.std.proofs.Common.{◌≡◌, ◌⊎◌, inl, inr, ℕ, ◌+◌, ◌<◌, ◌≤◌, Bool, true, false, cond, ◌==◌, List, [], ◌∷◌, ◌++◌, length, take, drop, Some, None, Ok, Err, refl, sym, ap, ap₂, subst, ◌∙◌, append_assoc, length-append, take-append-drop, arith}
use Rattle.std.proofs.lemmas.Bool.{cases_lt, eqb-true, eqb-false, ne_eqb}
use Rattle.std.proofs.lemmas.List.{take_at, drop_at, drop-append-le, length-drop, length-take-le}
use Rattle.std.proofs.lemmas.List.Folds.{length-prefix_len}
use Rattle.std.specs.List.{prefix_len}
use Rattle.fm_base.specs.Input.{Input}
use Rattle.fm_base.specs.Parser.{Outcome, and_then, ◌>>=◌, pure}
use Rattle.nc_model.specs.Format.{IsBytes}
use Rattle.nc_model.specs.UnitsReading.{past}
use Rattle.fm_base.proofs.Exact.{input, bind_ok, ok_pair, onto}
use Rattle.fm_base.proofs.Local.{stepped, fault_is}
use Rattle.fm_base.proofs.Parts.{Example}
use Rattle.nc_model.proofs.Steps.{IsBytes-drop}
use Rattle.dap_client.specs.Message.{IsWord}
use Rattle.dap_client.specs.Reading.{mark_at, run_at, word_at}
use Rattle.dap_client.proofs.Exactly.{Reaches, ReadsTo, Dies, ExactTo}
use Rattle.dap_client.proofs.Runs.{run_passes, run_same, word_len}
use Rattle.dap_client.proofs.Leaves.{IsMark, ExactTo-mark, example_mark, first_of_two}

-- a word, and one of two bytes behind it
pub record IsMarked (test : ℕ → Bool) (first other : ℕ) (text : List ℕ) (found : List ℕ × Bool) : Type 0 where
  pub word : IsWord test found.0
  pub back : List ℕ
  pub mark : IsMark first other back found.1
  pub text_is : text ≡ found.0 ++ back

-- neither of two bytes passes
pub record Stop (test : ℕ → Bool) (first other : ℕ) : Type 0 where
  pub at_first : test first ≡ false
  pub at_other : test other ≡ false

-- the byte of a mark doesn't pass
stops : (test : ℕ → Bool) (first other byte : ℕ) (mark : Bool) → Stop test first other
    → first_of_two first other byte ≡ Some mark → test byte ≡ false
stops test first other byte mark both e = by_test (byte == first) (byte == other) refl refl e
  where
    by_test : (b c : Bool) → (byte == first) ≡ b → (byte == other) ≡ c
        → cond b (Some true) (cond c (Some false) None) ≡ Some mark → test byte ≡ false
    by_test true c is also e = ap test (eqb-true byte first is) ∙ both.at_first
    by_test false true is also e = ap test (eqb-true byte other also) ∙ both.at_other
    by_test false false is also e = absurd cc

-- the run in front of a marked word is the word
marked_len : (test : ℕ → Bool) (first other : ℕ) (text : List ℕ) (found : List ℕ × Bool) → Stop test first other
    → IsMarked test first other text found → prefix_len test text ≡ length found.0
marked_len test first other text found both s =
    let stop = stops test first other s.mark.byte found.1 both s.mark.meant in
    ap (λ (l : List ℕ). prefix_len test l) (s.text_is ∙ ap (λ (l : List ℕ). found.0 ++ l) s.mark.text_is)
    ∙ word_len test found.0 s.mark.byte [] s.word.bytes stop

-- the reach of a word whose run is read, by that of the mark
marked_reach : (test : ℕ → Bool) (first other len : ℕ) (rest : List ℕ) → Stop test first other
    → Reaches (IsMark first other) (drop (prefix_len test rest) rest) len
    → Reaches (IsMarked test first other) rest (prefix_len test rest + len)
marked_reach test first other len rest both back = λ front others more found split s.
    let n = prefix_len test rest in
    elim (cases_lt n (length front)) [
      | inl below ↦
          let below_so : prefix_len test (front ++ others) < length front =
          subst (λ (l : List ℕ). prefix_len test l < length front) split below in
          let same : prefix_len test (front ++ more) ≡ n =
          run_same test front others more below_so ∙ ap (λ (l : List ℕ). prefix_len test l) (sym split) in
          let word : length found.0 ≡ n = sym (marked_len test first other (front ++ more) found both s) ∙ same in
          let within : n ≤ length front = omega (arith, below) in
          let left : drop n rest ≡ drop n front ++ others =
          ap (λ (l : List ℕ). drop n l) split ∙ drop-append-le n front others within in
          let text : s.back ≡ drop n front ++ more =
          sym (drop_at found.0 s.back n word) ∙ ap (λ (l : List ℕ). drop n l) (sym s.text_is)
          ∙ drop-append-le n front more within in
          let mark : IsMark first other (drop n front ++ more) found.1 =
          subst (λ (l : List ℕ). IsMark first other l found.1) text s.mark in
          let short : length (drop n front) ≤ len = back (drop n front) others more found.1 left mark in
          let parts = ap length (take-append-drop n front) in
          let front_len = length-append (take n front) (drop n front) in
          let taken = length-take-le n front within in
          omega (arith, short, parts, front_len, taken)
      | inr at_most ↦ omega (arith, at_most)
    ]

-- what is read where a run has `len` bytes
abbrev run_of : ℕ → ℕ → ℕ → Input → Outcome (List ℕ × Bool) ℕ
run_of first other len i = cond (len == 0) (Err i.at)
    (and_then (mark_at first other (past len i)) (λ mark. pure (take len i.rest, mark)))

by_run : (test : ℕ → Bool) (first other : ℕ) (i : Input)
    → word_at test first other i ≡ run_of first other (prefix_len test i.rest) i
unfolding word_at run_at
by_run test first other i = by_test (prefix_len test i.rest) (prefix_len test i.rest == 0)
  where
    by_test : (len : ℕ) (b : Bool)
        → and_then {A = List ℕ} {B = List ℕ × Bool} {E = ℕ} (cond b (Err i.at) (Ok (take len i.rest, past len i)))
        (λ word. mark_at first other >>= λ mark. pure (word, mark))
        ≡ cond b (Err i.at) (and_then {A = Bool} {B = List ℕ × Bool} {E = ℕ} (mark_at first other (past len i))
        (λ mark. pure (take len i.rest, mark)))
    by_test len true = refl
    by_test len false = refl

run_bytes : (test : ℕ → Bool) (rest : List ℕ) → 0 < prefix_len test rest
    → IsWord test (take (prefix_len test rest) rest)
run_bytes test rest some = record {
  some = omega (arith, some, length-prefix_len test rest);
  bytes = run_passes test rest;
}

-- a number that isn't 0
above_0 : (len : ℕ) → (len == 0) ≡ false → 0 < len
above_0 len isnt = elim (cases_lt 0 len) [
  | inl some ↦ some
  | inr none ↦ absurd (eqb-false len 0 isnt (omega (arith, none)))
]

-- what stands behind a run that isn't empty
abbrev behind_run : ℕ → ℕ → ℕ → Input → Outcome (List ℕ × Bool) ℕ
behind_run first other len i = and_then (mark_at first other (past len i)) (λ mark. pure (take len i.rest, mark))

-- a run that was read isn't empty
run_ok : (first other len : ℕ) (i : Input) (y : (List ℕ × Bool) × Input) → run_of first other len i ≡ Ok y
    → (0 < len) × (behind_run first other len i ≡ Ok y)
run_ok first other len i y e = by_test (len == 0) refl e
  where
    by_test : (b : Bool) → (len == 0) ≡ b → cond b (Err i.at) (behind_run first other len i) ≡ Ok y
        → (0 < len) × (behind_run first other len i ≡ Ok y)
    by_test true none f = absurd cc
    by_test false some f = (above_0 len some, f)

-- a run is empty, or what stands behind it fails
run_err : (first other len : ℕ) (i : Input) (at : ℕ) → run_of first other len i ≡ Err at
    → ((len ≡ 0) × (at ≡ i.at)) ⊎ ((0 < len) × (behind_run first other len i ≡ Err at))
run_err first other len i at e = by_test (len == 0) refl e
  where
    by_test : (b : Bool) → (len == 0) ≡ b → cond b (Err i.at) (behind_run first other len i) ≡ Err at
        → ((len ≡ 0) × (at ≡ i.at)) ⊎ ((0 < len) × (behind_run first other len i ≡ Err at))
    by_test true none f = inl (eqb-true len 0 none, fault_is {A = List ℕ × Bool} at i.at (sym f))
    by_test false some f = inr (above_0 len some, f)

word_takes : (n : ℕ) (test : ℕ → Bool) (first other : ℕ) → Stop test first other
    → (i : Input) (found : List ℕ × Bool) (j : Input) → IsBytes i.rest → length i.rest ≤ n
    → word_at test first other i ≡ Ok (found, j) → ReadsTo (IsMarked test first other) i found j
word_takes n test first other both i found j of fits e =
    let rest = i.rest in
    let len = prefix_len test rest in
    let run = run_ok first other len i (found, j) (sym (by_run test first other i) ∙ e) in
    let x = bind_ok (mark_at first other (past len i)) (λ mark. pure (take len rest, mark)) (found, j) run.1 in
    let pair = ok_pair {E = ℕ} (take len rest, x.0.0) found x.0.1 j x.2 in
    let few : length (drop len rest) ≤ n = omega (arith, fits, length-drop len rest) in
    let mark = (ExactTo-mark n first other).takes (past len i) x.0.0 x.0.1 (IsBytes-drop len rest of) few x.1 in
    let text = take len rest ++ mark.took.text in
    let size = length-prefix_len test rest in
    record {
      took = record {
        text = text;
        spelled = subst (λ (f : List ℕ × Bool). IsMarked test first other text f) pair.0 (record {
          word = run_bytes test rest run.0;
          back = mark.took.text;
          mark = mark.took.spelled;
          text_is = refl;
        });
        split = sym (take-append-drop len rest) ∙ onto (take len rest) mark.took.split
            ∙ sym (append_assoc (take len rest) mark.took.text x.0.1.rest)
            ∙ ap (λ (k : Input). text ++ k.rest) pair.1;
        offset = omega (
          arith,
          ap (λ (k : Input). k.at) pair.1,
          mark.took.offset,
          size,
          length-append (take len rest) mark.took.text,
        );
      };
      reach = λ front others more b split s.
          let short = marked_reach test first other (length mark.took.text) rest both mark.reach front others more b
          split s in
          omega (arith, short, size, length-append (take len rest) mark.took.text);
    }

word_empty : (test : ℕ → Bool) (first other : ℕ) → Stop test first other → Example (IsMarked test first other)
    → (i : Input) (at : ℕ) → prefix_len test i.rest ≡ 0 → at ≡ i.at → Dies (IsMarked test first other) i at
word_empty test first other both some i at none here = record {
  front = [];
  others = i.rest;
  more = some.text;
  a = some.a;
  split = refl;
  offset = omega (arith, here);
  spelled = some.spelled;
  reach = λ front others more found split s. elim (cases_lt 0 (length front)) [
    | inl below ↦
        let whole : prefix_len test (front ++ others) ≡ 0 =
        ap (λ (l : List ℕ). prefix_len test l) (sym split) ∙ none in
        let below_so : prefix_len test (front ++ others) < length front = omega (arith, below, whole) in
        let same = run_same test front others more below_so in
        let word = marked_len test first other (front ++ more) found both s in
        absurd (omega (arith, whole, same, word, s.word.some))
    | inr at_most ↦ at_most
  ];
}

word_bad_mark : (n : ℕ) (test : ℕ → Bool) (first other : ℕ) → Stop test first other
    → (i : Input) (at : ℕ) → IsBytes i.rest → length i.rest ≤ n → 0 < prefix_len test i.rest
    → mark_at first other (past (prefix_len test i.rest) i) ≡ Err at → Dies (IsMarked test first other) i at
word_bad_mark n test first other both i at of fits some e =
    let rest = i.rest in
    let len = prefix_len test rest in
    let few : length (drop len rest) ≤ n = omega (arith, fits, length-drop len rest) in
    let dead = (ExactTo-mark n first other).fails (past len i) at (IsBytes-drop len rest of) few e in
    let size = length-prefix_len test rest in
    record {
      front = take len rest ++ dead.front;
      others = dead.others;
      more = dead.more;
      a = (take len rest, dead.a);
      split = sym (take-append-drop len rest) ∙ onto (take len rest) dead.split
          ∙ sym (append_assoc (take len rest) dead.front dead.others);
      offset = omega (arith, dead.offset, size, length-append (take len rest) dead.front);
      spelled = record {
        word = run_bytes test rest some;
        back = dead.front ++ dead.more;
        mark = dead.spelled;
        text_is = append_assoc (take len rest) dead.front dead.more;
      };
      reach = λ front others more b split s.
          let short = marked_reach test first other (length dead.front) rest both dead.reach front others more b
          split s in
          omega (arith, short, size, length-append (take len rest) dead.front);
    }

word_fails : (n : ℕ) (test : ℕ → Bool) (first other : ℕ) → Stop test first other
    → Example (IsMarked test first other)
    → (i : Input) (at : ℕ) → IsBytes i.rest → length i.rest ≤ n
    → word_at test first other i ≡ Err at → Dies (IsMarked test first other) i at
word_fails n test first other both some i at of fits e =
    let len = prefix_len test i.rest in
    elim (run_err first other len i at (sym (by_run test first other i) ∙ e)) [
      | inl none ↦ word_empty test first other both some i at none.0 none.1
      | inr run ↦ elim (stepped {A = Bool} {B = List ℕ × Bool} (mark_at first other (past len i))
          (λ mark. pure (take len i.rest, mark)) (Err at) run.1) [
            | inl f ↦
                let same : at ≡ f.0 = fault_is {A = List ℕ × Bool} at f.0 f.2 in
                word_bad_mark n test first other both i at of fits run.0
                (f.1 ∙ ap (λ (k : ℕ). Err k) (sym same))
            | inr s ↦ let isnt = s.second in absurd cc
          ]
    ]

word_again : (n : ℕ) (test : ℕ → Bool) (first other : ℕ) → Stop test first other
    → (at : ℕ) (text rest : List ℕ) (found : List ℕ × Bool) → length (text ++ rest) ≤ n
    → IsMarked test first other text found
    → word_at test first other (input at (text ++ rest)) ≡ Ok (found, input (at + length text) rest)
word_again n test first other both at text rest found fits s =
    let word = found.0 in
    let tail = s.back ++ rest in
    let whole : text ++ rest ≡ word ++ tail = ap (λ (l : List ℕ). l ++ rest) s.text_is
    ∙ append_assoc word s.back rest in
    let stop = stops test first other s.mark.byte found.1 both s.mark.meant in
    let run : prefix_len test (word ++ tail) ≡ length word =
    ap (λ (l : List ℕ). prefix_len test (word ++ (l ++ rest))) s.mark.text_is
    ∙ word_len test word s.mark.byte rest s.word.bytes stop in
    let some : (length word == 0) ≡ false = ne_eqb (length word) 0
    (λ none. absurd (omega (arith, s.word.some, none))) in
    let few : length tail ≤ n = omega (arith, ap length whole, length-append word tail, fits) in
    let mark = (ExactTo-mark n first other).again (at + length word) s.back rest found.1 few s.mark in
    let len : at + length word + length s.back ≡ at + length text =
    omega (arith, ap length s.text_is, length-append word s.back) in
    ap (λ (l : List ℕ). word_at test first other (input at l)) whole
    ∙ by_run test first other (input at (word ++ tail))
    ∙ ap (λ (k : ℕ). run_of first other k (input at (word ++ tail))) run
    ∙ ap (λ (b : Bool). cond b (Err at) (and_then (mark_at first other (past (length word) (input at (word ++ tail))))
    (λ mark. pure (take (length word) (word ++ tail), mark)))) some
    ∙ ap₂ (λ (w d : List ℕ). and_then (mark_at first other (input (at + length word) d)) (λ mark. pure (w, mark)))
    (take_at word tail (length word) refl) (drop_at word tail (length word) refl)
    ∙ ap (λ (r : Outcome Bool ℕ). and_then r (λ mark. pure (word, mark))) mark
    ∙ ap (λ (k : ℕ). Ok (found, input k rest)) len

-- a word and the byte behind it are read exactly
pub ExactTo-word : (n : ℕ) (test : ℕ → Bool) (first other letter : ℕ) → Stop test first other
    → test letter ≡ true → ExactTo n (IsMarked test first other) (word_at test first other)
ExactTo-word n test first other letter both passes =
    let mark = example_mark first other in
    let some : Example (IsMarked test first other) = record {
      text = letter ∷ mark.text;
      a = (letter ∷ [], mark.a);
      spelled = record {
        word = record { some = omega arith; bytes = rw passes refl };
        back = mark.text;
        mark = mark.spelled;
        text_is = refl;
      };
    } in
    record {
      some = some;
      takes = word_takes n test first other both;
      fails = word_fails n test first other both some;
      again = word_again n test first other both;
    }
