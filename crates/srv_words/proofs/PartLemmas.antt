-- A word describes a collection exactly where it is a name and two paths with `=` between them.
use Rattle.std.proofs.Common.{◌≡◌, ◌+◌, ◌<◌, ℕ, Bool, true, false, not, ◌&&◌, ◌||◌, ◌==◌, List, [], ◌∷◌, ◌++◌, length, take, drop, get_or, Option, Some, None, cond, refl, sym, ap, subst, ◌∙◌, inl, inr, arith, length-append}
use Rattle.std.specs.Prelude.{nat_eq, nat_le, nat_lt, option_map}
use Rattle.std.specs.List.{after_first, before_first, list_all, list_any, position, position_or_len}
use Rattle.std.proofs.lemmas.Bool.{and_parts, cases_Bool, eqb-true, lt-ltb, ltb-true}
use Rattle.std.proofs.lemmas.List.Sums.{passes_at_first, split_at_first}
use Rattle.std.proofs.lemmas.Option.{same_Some}
use Rattle.std.proofs.Math.Seq.{take-append_seam, drop-append-add}
use Rattle.fm_base.proofs.OptionLemmas.{mapped_some}
use Rattle.fm_base.specs.Name.{is_name_byte}
use Rattle.fm_model.specs.Prototype.{is_plain_name}
use Rattle.srv_words.specs.Collections.{cut_of, is_path, parts_of}
use Rattle.srv_words.specs.Reads.{◌>>=◌, if_so}
use Rattle.srv_words.specs.Values.{is_collection_name}
use Rattle.srv_words.proofs.SomeLemmas.{so_some, step_some}

-- whether a byte is `=`
abbrev is_equals : ℕ → Bool
is_equals byte = nat_eq byte 61

neither : (a b : Bool) → (a || b) ≡ false → (a ≡ false) × (b ≡ false)
neither true b is = absurd cc
neither false b is = (refl, is)

-- the first `=` stands behind a front that has none
first_at : (front rest : List ℕ) → list_any is_equals front ≡ false
    → position_or_len is_equals (front ++ 61 ∷ rest) ≡ length front
first_at [] rest none = refl
first_at (x ∷ front) rest none =
    let parts = neither (is_equals x) (list_any is_equals front) none in
    let others : position_or_len is_equals (front ++ 61 ∷ rest) ≡ length front = first_at front rest parts.1 in
    rw parts.0 (rw others (omega arith))

cut_at : (front rest : List ℕ) → list_any is_equals front ≡ false → cut_of (front ++ 61 ∷ rest) ≡ Some (front, rest)
unfolding cut_of
cut_at front rest none =
    let text = front ++ 61 ∷ rest in
    let at = first_at front rest none in
    let within : length front < length text = omega (arith, length-append front (61 ∷ rest)) in
    ap (λ (n : ℕ). option_map (λ at. (take at text, drop (at + 1) text)) (cond (nat_lt n (length text)) (Some n) None))
    at
    ∙ ap (λ (b : Bool). option_map (λ at. (take at text, drop (at + 1) text)) (cond b (Some (length front)) None))
    (lt-ltb (length front) (length text) within)
    ∙ ap (λ (f : List ℕ). Some (f, drop (length front + 1) text)) (take-append_seam front (61 ∷ rest))
    ∙ ap (λ (r : List ℕ). Some (front, r)) (drop-append-add front (61 ∷ rest) 1)

-- a name has no `=`
plain_byte : (x : ℕ) → is_name_byte x ≡ true → is_equals x ≡ false
unfolding is_name_byte
plain_byte x is =
    elim (cases_Bool (is_equals x)) [
      | inl same ↦
          let at : x ≡ 61 = eqb-true x 61 same in absurd (never (ap is_name_byte (sym at) ∙ is))
      | inr other ↦ other
    ]
  where
    never : is_name_byte 61 ≡ true → ⊥
    never is = absurd cc

plain_name : (name : List ℕ) → list_all is_name_byte name ≡ true → list_any is_equals name ≡ false
plain_name [] is = refl
plain_name (x ∷ name) is =
    let parts = and_parts (is_name_byte x) (list_all is_name_byte name) is in
    rw (plain_byte x parts.0) (plain_name name parts.1)

name_without : (name : List ℕ) → is_collection_name name ≡ true → list_any is_equals name ≡ false
unfolding is_collection_name is_plain_name
name_without name is =
    plain_name name (and_parts (nat_le 1 (length name) && nat_le (length name) 64) (list_all is_name_byte name) is).1

negated : (b : Bool) → not b ≡ true → b ≡ false
negated true is = absurd cc
negated false is = refl

path_without : (path : List ℕ) → is_path path ≡ true → list_any is_equals path ≡ false
unfolding is_path
path_without path is =
    negated (list_any is_equals path) (and_parts (nat_lt 0 (length path)) (not (list_any is_equals path)) is).1

all_pass : (a b c : Bool) {A : Type 0} (x : A) → a ≡ true → b ≡ true → c ≡ true → if_so (a && b && c) x ≡ Some x
all_pass true true true x first second third = refl
all_pass a b c x first second third = absurd cc

-- these parts, where they have their forms
abbrev parts_if : List ℕ → List ℕ → List ℕ → Option (List ℕ × List ℕ × List ℕ)
parts_if name proto inbox =
    if_so (is_collection_name name && is_path proto && is_path inbox) (name, proto, inbox)

-- a name and two paths with `=` between them are the parts of a word
pub parts_spelled : (name proto inbox : List ℕ) → is_collection_name name ≡ true → is_path proto ≡ true
    → is_path inbox ≡ true → parts_of (name ++ 61 ∷ (proto ++ 61 ∷ inbox)) ≡ Some (name, proto, inbox)
unfolding parts_of
parts_spelled name proto inbox named first second =
    ap (λ (o : Option (List ℕ × List ℕ)). o >>= λ (f : List ℕ × List ℕ). cut_of f.1 >>= λ (s : List ℕ × List ℕ).
    parts_if f.0 s.0 s.1) (cut_at name (proto ++ 61 ∷ inbox) (name_without name named))
    ∙ ap (λ (o : Option (List ℕ × List ℕ)). o >>= λ (s : List ℕ × List ℕ). parts_if name s.0 s.1)
    (cut_at proto inbox (path_without proto first))
    ∙ all_pass (is_collection_name name) (is_path proto) (is_path inbox) (name, proto, inbox) named first second

-- a text that is cut has the `=` between its halves
cut_is : (text : List ℕ) (cut : List ℕ × List ℕ) → cut_of text ≡ Some cut → text ≡ cut.0 ++ 61 ∷ cut.1
unfolding cut_of
cut_is text cut is =
    let read = mapped_some (λ at. (take at text, drop (at + 1) text)) (position is_equals text) cut is in
    let first = position_or_len is_equals text in
    let there = found (nat_lt first (length text)) first read.0 read.1 in
    let within = ltb-true first (length text) there.0 in
    let here = eqb-true (get_or text first 0) 61 (passes_at_first is_equals text 0 within) in
    let halves : (before_first is_equals text, after_first is_equals text) ≡ cut =
    ap (λ (n : ℕ). (take n text, drop (n + 1) text)) there.1 ∙ read.2 in
    split_at_first is_equals text 0 within
    ∙ ap (λ (x : ℕ). before_first is_equals text ++ x ∷ after_first is_equals text) here
    ∙ ap (λ (p : List ℕ × List ℕ). p.0 ++ 61 ∷ p.1) halves
  where
    found : (b : Bool) (n m : ℕ) → cond b (Some n) None ≡ Some m → (b ≡ true) × (n ≡ m)
    found true n m is = (refl, same_Some n m is)
    found false n m is = absurd cc

-- the parts of a word spell it
pub parts_are : (word name proto inbox : List ℕ) → parts_of word ≡ Some (name, proto, inbox)
    → word ≡ name ++ 61 ∷ (proto ++ 61 ∷ inbox)
unfolding parts_of
parts_are word name proto inbox is =
    let first = step_some (cut_of word) _ (name, proto, inbox) is in
    let second = step_some (cut_of first.0.1) _ (name, proto, inbox) first.2 in
    let there = so_some _ _ (name, proto, inbox) second.2 in
    cut_is word first.0 first.1
    ∙ ap (λ (r : List ℕ). first.0.0 ++ 61 ∷ r) (cut_is first.0.1 second.0 second.1)
    ∙ ap (λ (p : List ℕ × List ℕ × List ℕ). p.0 ++ 61 ∷ (p.1 ++ 61 ∷ p.2)) there.1

pub ruleset parts = (parts_spelled, parts_are)
