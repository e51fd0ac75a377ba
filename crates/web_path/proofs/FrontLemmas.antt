-- What follows a front in a text: the rest, where the text is the front and a rest, and else nothing.
use Rattle.std.proofs.Common.{◌≡◌, ℕ, true, false, List, ◌++◌, length, take, drop, Option, Some, None, sym, ap, ◌∙◌, ◌⊎◌, inl, inr, append_assoc}
use Rattle.std.proofs.lemmas.List.{take-append-drop}
use Rattle.std.proofs.Math.Seq.{take-append_seam, drop-append_seam}
use Rattle.std.proofs.lemmas.Bool.{cond-true, cond-false, cases_Bool, true≢false}
use Rattle.std.proofs.lemmas.Option.{same_Some}
use Rattle.std.specs.Option.{option_and_then}
use Rattle.std.specs.Str.{bytes_eq}
use Rattle.fm_base.proofs.ListLemmas.{same_bytes, bytes_same}
use Rattle.fm_base.proofs.OptionLemmas.{chosen}
use Rattle.web_path.specs.Reading.{after}

begins : (front text : List ℕ) → bytes_eq (take (length front) text) front ≡ true
    → text ≡ front ++ drop (length front) text
begins front text is =
    sym (take-append-drop (length front) text)
    ∙ ap (λ (l : List ℕ). l ++ drop (length front) text) (bytes_same (take (length front) text) front is)

pub after-some : (front text rest : List ℕ) → after front text ≡ Some rest → text ≡ front ++ rest
after-some front text rest is =
    let there = chosen (bytes_eq (take (length front) text) front) (Some (drop (length front) text)) rest is in
    begins front text there.0 ∙ ap (λ (l : List ℕ). front ++ l) (same_Some _ _ there.1)

pub after-append : (front rest text : List ℕ) → text ≡ front ++ rest → after front text ≡ Some rest
after-append front rest text is =
    let same =
    same_bytes (take (length front) text) front (ap (take (length front)) is ∙ take-append_seam front rest) in
    cond-true _ _ _ same ∙ ap Some (ap (drop (length front)) is ∙ drop-append_seam front rest)

pub after-none : (front text : List ℕ) → ((rest : List ℕ) → text ≡ front ++ rest → ⊥) → after front text ≡ None
after-none front text none =
    elim (cases_Bool (bytes_eq (take (length front) text) front)) [
      | inl is ↦ absurd (none (drop (length front) text) (begins front text is))
      | inr is ↦ cond-false _ _ _ is
    ]

cases_after : (front text : List ℕ) → (after front text ≡ None) ⊎ ((rest : List ℕ) × (after front text ≡ Some rest))
cases_after front text =
    elim (cases_Bool (bytes_eq (take (length front) text) front)) [
      | inl is ↦ inr (drop (length front) text, cond-true _ _ _ is)
      | inr is ↦ inl (cond-false _ _ _ is)
    ]

none_some : {A P : Type 0} (o : Option A) (x : A) → o ≡ None → o ≡ Some x → P
none_some o x none some = absurd cc

-- what follows two fronts in a row
pub after-pair : (first second text : List ℕ)
    → after (first ++ second) text ≡ option_and_then (after second) (after first text)
after-pair first second text =
    elim (cases_after first text) [
      | inl none ↦
          after-none (first ++ second) text (λ rest is. none_some (after first text) (second ++ rest) none
          (after-append first (second ++ rest) text (is ∙ append_assoc first second rest)))
          ∙ sym (ap (option_and_then (after second)) none)
      | inr some ↦
          in_rest some.0 some.1 ∙ sym (ap (option_and_then (after second)) some.1)
    ]
  where
    in_rest : (others : List ℕ) → after first text ≡ Some others → after (first ++ second) text ≡ after second others
    in_rest others is =
        elim (cases_after second others) [
          | inl none ↦
              after-none (first ++ second) text (λ rest whole.
              let there = after-append first (second ++ rest) text (whole ∙ append_assoc first second rest) in
              let same : others ≡ second ++ rest = same_Some _ _ (sym is ∙ there) in
              none_some (after second others) rest none (after-append second rest others same))
              ∙ sym none
          | inr some ↦
              after-append (first ++ second) some.0 text
              (after-some first text others is
              ∙ ap (λ (l : List ℕ). first ++ l) (after-some second others some.0 some.1)
              ∙ sym (append_assoc first second some.0))
              ∙ sym some.1
        ]

-- what follows three fronts in a row, or which of them is not there
pub after-three : (first second third text one two rest : List ℕ) → after first text ≡ Some one
    → after second one ≡ Some two → after third two ≡ Some rest → after (first ++ second ++ third) text ≡ Some rest
after-three first second third text one two rest a b c =
    after-pair (first ++ second) third text
    ∙ ap (option_and_then (after third)) (after-pair first second text ∙ ap (option_and_then (after second)) a ∙ b)
    ∙ c

pub after-no_first : (first second third text : List ℕ) → after first text ≡ None
    → after (first ++ second ++ third) text ≡ None
after-no_first first second third text a =
    after-pair (first ++ second) third text
    ∙ ap (option_and_then (after third)) (after-pair first second text ∙ ap (option_and_then (after second)) a)

pub after-no_second : (first second third text one : List ℕ) → after first text ≡ Some one → after second one ≡ None
    → after (first ++ second ++ third) text ≡ None
after-no_second first second third text one a b =
    after-pair (first ++ second) third text
    ∙ ap (option_and_then (after third)) (after-pair first second text ∙ ap (option_and_then (after second)) a ∙ b)

pub after-no_third : (first second third text one two : List ℕ) → after first text ≡ Some one
    → after second one ≡ Some two → after third two ≡ None → after (first ++ second ++ third) text ≡ None
after-no_third first second third text one two a b c =
    after-pair (first ++ second) third text
    ∙ ap (option_and_then (after third)) (after-pair first second text ∙ ap (option_and_then (after second)) a ∙ b)
    ∙ c

pub ruleset fronts = (after-three, after-no_first, after-no_second, after-no_third)

-- a text is a front and an end exactly where what follows the front is the end
pub same_rest : (front last text rest : List ℕ) → after front text ≡ Some rest
    → bytes_eq rest last ≡ bytes_eq text (front ++ last)
same_rest front last text rest is =
    elim (cases_Bool (bytes_eq rest last)) [
      | inl same ↦
          let whole = after-some front text rest is ∙ ap (λ (l : List ℕ). front ++ l) (bytes_same rest last same) in
          same ∙ sym (same_bytes text (front ++ last) whole)
      | inr other ↦ other ∙ sym (no_pair other)
    ]
  where
    no_pair : bytes_eq rest last ≡ false → bytes_eq text (front ++ last) ≡ false
    no_pair other =
        elim (cases_Bool (bytes_eq text (front ++ last))) [
          | inl whole ↦
              let there = after-append front last text (bytes_same text (front ++ last) whole) in
              let same = same_bytes rest last (same_Some _ _ (sym is ∙ there)) in
              absurd (true≢false (sym same ∙ other))
          | inr is ↦ is
        ]

pub no_rest : (front last text : List ℕ) → after front text ≡ None → false ≡ bytes_eq text (front ++ last)
no_rest front last text none =
    elim (cases_Bool (bytes_eq text (front ++ last))) [
      | inl whole ↦
          none_some (after front text) last none
          (after-append front last text (bytes_same text (front ++ last) whole))
      | inr is ↦ sym is
    ]

pub ruleset rests = (same_rest, no_rest)
