-- The words of units are read exactly, and what holds of them.
use Rattle.std.proofs.Common.{◌≡◌, ◌⊎◌, inl, inr, ℕ, suc, ◌+◌, ◌<◌, ◌≤◌, Bool, true, false, cond, List, [], ◌∷◌, ◌++◌, length, take, drop, codes, Option, Some, None, Ok, Err, refl, sym, ap, subst, ◌∙◌, length-append, length-take, take-append-drop, arith}
use Rattle.std.specs.Prelude.{unwrap_or}
use Rattle.std.proofs.lemmas.List.{append-nil}
use Rattle.std.proofs.lemmas.List.Sums.{prefix_len-le-length}
use Rattle.std.proofs.Math.Seq.{take-length, drop-length, drop-append_seam, take-append_seam}
use Rattle.std.specs.Char.{is_ascii_alphabetic}
use Rattle.std.specs.List.{prefix_len, list_all}
use Rattle.fm_base.specs.Input.{Input}
use Rattle.fm_base.specs.Parser.{◌>>=◌, pure, known}
use Rattle.nc_model.specs.UnitsRanges.{IsWrong, SpellsLetters}
use Rattle.nc_model.specs.UnitsReading.{UnitsParser as Parser, past, next_passes, run_at, unit_at, unit_of, seconds_per, is_second, is_minute, is_hour, is_day, is_same_word}
use Rattle.nc_model.specs.UnitsSpelling.{SpellsUnit}
use Rattle.fm_base.proofs.Exact.{input, Took, ExactOn, Exact, Stops, Anything, Finds, done, ok_pair, bind_ok, took_then, Exact-known}
use Rattle.fm_base.proofs.ListLemmas.{agree_less, Agree}
use Rattle.fm_base.proofs.Local.{Local, Local-then, fault_is}
use Rattle.fm_base.proofs.LocalSteps.{Local-pure, Local-cond, Local-same}
use Rattle.fm_base.proofs.Parts.{Example, Part, begun_here}
use Rattle.tm_units.proofs.Lawful.{offsets, by_exact, Lawful, NoOut, Seq, Lawful-plain, Lawful-as, Lawful-before, Lawful-outs}
use Rattle.tm_units.proofs.LawfulChoices.{agree_first, Local-here}
use Rattle.tm_units.proofs.LawfulFound.{found_at, Lawful-found}
use Rattle.tm_units.proofs.UnitsForms.{full_or_ends}
use Rattle.tm_units.proofs.UnitsRuns.{run_within, run_passes}
use Rattle.tm_units.proofs.UnitsTerms.{prefix_agree}

-- a run of at most `most` bytes that pass
pub record Run (test : ℕ → Bool) (most : ℕ) (text run : List ℕ) : Type 0 where
  pub text_is : text ≡ run
  pub all : list_all test run ≡ true
  pub few : length run ≤ most

run_takes : (test : ℕ → Bool) (most at : ℕ) (rest run : List ℕ) (j : Input) → run_at test most (input at rest)
    ≡ Ok (run, j) → Took (Run test most) (input at rest) run j
run_takes test most at rest run j e =
    let count = prefix_len test (take most rest) in
    let k = ok_pair (take count rest) run (past count (input at rest)) j e in
    let short : count ≤ length (take most rest) = prefix_len-le-length test (take most rest) in
    let within : count ≤ length rest = omega (arith, length-take most rest) in
    let size : length (take count rest) ≡ count = omega (arith, length-take count rest) in
    record {
      text = take count rest;
      spelled = record {
        text_is = k.0;
        all = subst (λ (l : List ℕ). list_all test l ≡ true) k.0 (run_passes test rest most);
        few = subst (λ (l : List ℕ). length l ≤ most) k.0 (omega (arith, length-take most rest));
      };
      split = sym (take-append-drop count rest) ∙ ap (λ (h : Input). take count rest ++ h.rest) k.1;
      offset = let here = ap (λ (h : Input). h.at) k.1 in omega (arith, here, size);
    }

run_again : (test : ℕ → Bool) (most at : ℕ) (text rest run : List ℕ) → Run test most text run → Stops test rest
    → run_at test most (input at (text ++ rest)) ≡ Ok (run, input (at + length text) rest)
run_again test most at text rest run s may =
    let few : length text ≤ most = subst (λ (l : List ℕ). length l ≤ most) (sym s.text_is) s.few in
    let all : list_all test text ≡ true = subst (λ (l : List ℕ). list_all test l ≡ true) (sym s.text_is) s.all in
    let count : prefix_len test (take most (text ++ rest)) ≡ length text = run_within test text rest most all few may in
    let front : take (length text) (text ++ rest) ≡ run = take-append_seam text rest ∙ s.text_is in
    ap (λ (m : ℕ). done {A = List ℕ × Input} (take m (text ++ rest), past m (input at (text ++ rest)))) count
    ∙ ap (λ (l : List ℕ). done {A = List ℕ × Input} (l, past (length text) (input at (text ++ rest)))) front
    ∙ ap (λ (l : List ℕ). done {A = List ℕ × Input} (run, input (at + length text) l)) (drop-append_seam text rest)

-- a run of bytes that pass
pub record Whole (test : ℕ → Bool) (text run : List ℕ) : Type 0 where
  pub text_is : text ≡ run
  pub all : list_all test run ≡ true

pub Exact-whole : (test : ℕ → Bool) → Exact (Whole test) (Stops test) (λ i. run_at test (length i.rest) i)
Exact-whole test = record {
  takes = λ i run j any e.
      let t = run_takes test (length i.rest) i.at i.rest run j e in
      record {
        text = t.text;
        spelled = record { text_is = t.spelled.text_is; all = t.spelled.all };
        split =
            t.split;
        offset = t.offset;
      };
  again = λ at text rest run s may.
      let few : length run ≤ length (text ++ rest) = omega (arith, length-append text rest, ap length s.text_is) in
      run_again test (length (text ++ rest)) at text rest run (record {
        text_is = s.text_is;
        all = s.all;
        few =
            few;
      }) may;
}

-- the longest run of letters
abbrev pub word_at : Parser (List ℕ)
word_at = λ i. run_at is_ascii_alphabetic (length i.rest) i

-- the letters in front
abbrev letters_of : List ℕ → ℕ
letters_of rest = prefix_len is_ascii_alphabetic rest

all_of : (rest : List ℕ) → prefix_len is_ascii_alphabetic (take (length rest) rest) ≡ letters_of rest
all_of rest = ap (λ (l : List ℕ). prefix_len is_ascii_alphabetic l) (take-length rest)

-- each text that begins with the same letters and the same next byte has that word
word_again : (at : ℕ) (rest other : List ℕ) → Agree (suc (letters_of rest)) rest other
    → word_at (input at other) ≡ Ok (take (letters_of rest) rest, past (letters_of rest) (input at other))
word_again at rest other same =
    let count = letters_of rest in
    let front : Agree count rest other = agree_less count (suc count) rest other (omega arith) same in
    ap (λ (n : ℕ). done {A = List ℕ × Input} (take n other, past n (input at other))) (all_of other
    ∙ prefix_agree is_ascii_alphabetic rest other same)
    ∙ ap (λ (l : List ℕ). done {A = List ℕ × Input} (l, past count (input at other))) (sym front)

Local-word : Local offsets word_at
Local-word = record {
  takes = λ at rest word j e.
      let count = letters_of rest in
      let k = ok_pair (take count rest) word (past count (input at rest)) j (sym (word_again at rest rest refl) ∙ e) in
      record {
        count = count;
        input_is = sym k.1;
        within = prefix_len-le-length is_ascii_alphabetic rest;
        again = λ other looked.
            word_again at rest other (agree_less (suc count) (count + 1) rest other (omega arith) looked)
            ∙ ap (λ (l : List ℕ). done {A = List ℕ × Input} (l, past count (input at other))) k.0;
      };
  fails = λ at rest bad e. absurd cc;
  forward = λ at rest. omega arith;
}

Lawful-word : Lawful (λ strict. Whole is_ascii_alphabetic) (λ word. Stops is_ascii_alphabetic) NoOut (λ strict. word_at)
Lawful-word = Lawful-plain (by_exact (Exact-whole is_ascii_alphabetic)) (record {
  local = Local-word;
  takes = λ i word j of e. (Exact-whole is_ascii_alphabetic).takes i word j tt e;
  fails = λ at rest bad of e. absurd cc;
  some = record { text = []; a = []; spelled = record { text_is = refl; all = refl } };
})

-- the letters in front end
letters_end : (at : ℕ) (rest word : List ℕ) (j : Input) → word_at (input at rest) ≡ Ok (word, j)
    → Stops is_ascii_alphabetic j.rest
letters_end at rest word j e =
    let n = prefix_len is_ascii_alphabetic (take (length rest) rest) in
    let k = ok_pair (take n rest) word (past n (input at rest)) j e in
    subst (λ (i : Input). Stops is_ascii_alphabetic i.rest) k.1
    (elim (full_or_ends is_ascii_alphabetic (length rest) rest) [
      | inl full ↦
          subst (λ (l : List ℕ). Stops is_ascii_alphabetic l)
          (sym (ap (λ (m : ℕ). drop m rest) full ∙ drop-length rest)) refl
      | inr ends ↦ ends
    ])

-- the empty word is no unit
pub no_unit : (per : ℕ) → ¬ (seconds_per [] ≡ Some per)
unfolding seconds_per is_second is_minute is_hour is_day is_same_word
no_unit per h = absurd cc

unit_same : (word : List ℕ) (per : ℕ) → unit_of true word ≡ Some per → unit_of false word ≡ Some per
unit_same [] per e = absurd (no_unit per e)
unit_same (x ∷ word) per e = ap (λ (o : Option ℕ). Some (unwrap_or o 0)) e

-- a word of a letter or more that is no unit
abbrev IsNoUnit : List ℕ → Type 0
IsNoUnit word = (0 < length word) × (seconds_per word ≡ None)

unit_wrong : (word : List ℕ) → unit_of true word ≡ None → (unit_of false word ≡ None) ⊎ IsNoUnit word
unit_wrong [] none = inl refl
unit_wrong (x ∷ word) none = inr (omega arith, none)

-- a word of the form of a unit
abbrev TheUnit : Bool → List ℕ → ℕ → Type 0
TheUnit = Seq (λ strict. Whole is_ascii_alphabetic) (λ word strict. Finds (unit_of strict word))

to_unit : (strict : Bool) (text : List ℕ) (seconds : ℕ) → TheUnit strict text seconds → SpellsUnit strict text seconds
to_unit strict text seconds s =
    let whole : text ≡ s.a = s.text_is ∙ ap (λ (l : List ℕ). s.front ++ l) s.second.text_is ∙ append-nil s.front
    ∙ s.first.text_is in
    record {
      letters = subst (λ (l : List ℕ). list_all is_ascii_alphabetic l ≡ true) (sym whole) s.first.all;
      unit = ap (unit_of strict) whole ∙ s.second.found_is;
    }

from_unit : (strict : Bool) (text : List ℕ) (seconds : ℕ) → SpellsUnit strict text seconds
    → TheUnit strict text seconds
from_unit strict text seconds s = record {
  a = text;
  front = text;
  back = [];
  first = record { text_is = refl; all = s.letters };
  second = record { found_is = s.unit; text_is = refl };
  text_is = sym (append-nil text);
}

a_unit : (u : Unit {0}) → Example (TheUnit false)
unfolding seconds_per is_second is_same_word
a_unit u = record {
  text = codes "s";
  a = 1;
  spelled = from_unit false (codes "s") 1 (record { letters = refl; unit = refl });
}

-- the form of a unit, by whether a letter stands there
abbrev chosen : Parser ℕ
chosen = λ i. cond (next_passes is_ascii_alphabetic i)
    ((word_at >>= λ word. pure (unwrap_or (seconds_per word) 0)) i) (Err i.at)

-- a word of letters isn't empty
word_first : (x n : ℕ) (rest : List ℕ) → is_ascii_alphabetic x ≡ true
    → take (cond (is_ascii_alphabetic x) (1 + n) 0) (x ∷ rest) ≡ x ∷ take n rest
word_first x n rest is = let longer : 1 + n ≡ suc n = omega arith in rw (is, longer) refl

chosen_is : (at : ℕ) (rest : List ℕ) → chosen (input at rest) ≡ found_at word_at (unit_of false) (input at rest)
chosen_is at [] = refl
chosen_is at (x ∷ rest) = by_letter (is_ascii_alphabetic x) refl
  where
    n : ℕ
    n = prefix_len is_ascii_alphabetic (take (length rest) rest)

    j : Input
    j = past (prefix_len is_ascii_alphabetic (take (length (x ∷ rest)) (x ∷ rest))) (input at (x ∷ rest))

    by_letter : (b : Bool) → is_ascii_alphabetic x ≡ b
        → chosen (input at (x ∷ rest)) ≡ found_at word_at (unit_of false) (input at (x ∷ rest))
    by_letter true is =
        let word = word_first x n rest is in
        ap (λ (b : Bool). cond b
        ((word_at >>= λ word. pure (unwrap_or (seconds_per word) 0)) (input at (x ∷ rest))) (Err at)) is
        ∙ ap (λ (w : List ℕ). done {A = ℕ × Input} (unwrap_or (seconds_per w) 0, j)) word
        ∙ sym (ap (λ (w : List ℕ). known at (unit_of false w) j) word)
    by_letter false is = rw is refl

form_unit : Part offsets Anything (TheUnit false) (found_at word_at (unit_of false))
form_unit = record {
  local = Local-same chosen_is (Local-cond (next_passes is_ascii_alphabetic) (agree_first is_ascii_alphabetic)
      (Local-then Local-word (λ word. Local-pure (unwrap_or (seconds_per word) 0))) Local-here);
  takes = λ i per j of e.
      let x = bind_ok (word_at i) (λ word. known i.at (unit_of false word)) (per, j) e in
      let found : ExactOn Anything (Finds (unit_of false x.0.0)) Anything (known {E = ℕ} i.at (unit_of false x.0.0)) =
      Exact-known i.at (unit_of false x.0.0) in
      took_then {T = λ word. Finds (unit_of false word)} ((Exact-whole is_ascii_alphabetic).takes i x.0.0 x.0.1 tt x.1)
      (found.takes x.0.1 per j tt x.2);
  fails = λ at rest bad of e.
      begun_here at rest bad (a_unit tt)
      (by_letter at rest bad (next_passes is_ascii_alphabetic (input at rest)) (chosen_is at rest ∙ e));
  some = a_unit tt;
}
  where
    by_letter : (at : ℕ) (rest : List ℕ) (bad : ℕ) (b : Bool)
        → cond b ((word_at >>= λ word. pure (unwrap_or (seconds_per word) 0)) (input at rest)) (Err at) ≡ Err bad
        → bad ≡ at
    by_letter at rest bad true e = absurd cc
    by_letter at rest bad false e = sym (fault_is {A = ℕ} at bad e)

pub Lawful-unit : Lawful SpellsUnit (λ per. Stops is_ascii_alphabetic)
    (IsWrong SpellsLetters (λ word. Stops is_ascii_alphabetic) (λ word. seconds_per word ≡ None)) unit_at
unfolding unit_at
Lawful-unit =
    Lawful-as to_unit from_unit
    (Lawful-before (λ per rest stops word. stops)
    (Lawful-outs
    (λ offset text o. elim o [
      | inl none ↦ absurd none
      | inr w ↦ record {
        value = w.value;
        front = w.front;
        more = w.more;
        here = w.here;
        spelled = record { same = w.spelled.text_is; all = w.spelled.all; some = w.wrong.0 };
        ends = w.ends;
        wrong = w.wrong.1;
        text_is = w.text_is;
      }
    ])
    (λ offset text w. inr (record {
      value = w.value;
      front = w.front;
      more = w.more;
      here = w.here;
      spelled = record { text_is = w.spelled.same; all = w.spelled.all };
      ends = w.ends;
      wrong = (w.spelled.some, w.wrong);
      text_is = w.text_is;
    }))
    (Lawful-found unit_of IsNoUnit Lawful-word (record {
      same = unit_same;
      none = λ word w. w.1;
      wrong = unit_wrong;
      here = λ offset text none. absurd none;
      ends = letters_end;
    }) form_unit)))
