-- Whether words are UTF-8, one word at a time.
use Rattle.std.proofs.Common.{◌≡◌, ◌<◌, ◌+◌, ℕ, suc, false, ◌&&◌, List, [], ◌∷◌, ◌++◌, length, map, take, drop, get_or, Bor, sym, ap, ◌∙◌, inl, inr, arith}
use Rattle.std.proofs.Math.Seq.{drop-cons, take-suc}
use Rattle.std.proofs.lemmas.List.{map-append}
use Rattle.std.proofs.lemmas.Bool.{cases_Bool}
use Rattle.std.proofs.lemmas.Str.{IsUtf8-from_is_utf8, is_utf8-from_IsUtf8}
use Rattle.std.specs.List.{list_all}
use Rattle.std.specs.Str.{IsUtf8, is_utf8}

one : (i : ℕ) → suc i ≡ i + 1
one i = omega arith

next : (words : List (List ℕ)) (i : ℕ) (word : List ℕ) → i < length words → word ≡ get_or words i word
    → drop i words ≡ word ∷ drop (i + 1) words
next words i word there is =
    drop-cons words i word there ∙ ap (λ (x : List ℕ). x ∷ drop (suc i) words) (sym is)
    ∙ ap (λ (k : ℕ). word ∷ drop k words) (one i)

pub utf8_more : (words : List (List ℕ)) (i : ℕ) (word : List ℕ) → i < length words → word ≡ get_or words i word
    → IsUtf8 word → list_all is_utf8 (drop i words) ≡ list_all is_utf8 (drop (i + 1) words)
utf8_more words i word there is utf8 =
    ap (list_all is_utf8) (next words i word there is)
    ∙ ap (λ b. b && list_all is_utf8 (drop (i + 1) words)) (is_utf8-from_IsUtf8 word utf8)

not_utf8 : (word : List ℕ) → ¬ IsUtf8 word → is_utf8 word ≡ false
not_utf8 word other =
    elim (cases_Bool (is_utf8 word)) [
      | inl is ↦ absurd (other (IsUtf8-from_is_utf8 word is))
      | inr is ↦ is
    ]

pub utf8_none : (words : List (List ℕ)) (i : ℕ) (word : List ℕ) → i < length words → word ≡ get_or words i word
    → ¬ IsUtf8 word → list_all is_utf8 (drop i words) ≡ false
utf8_none words i word there is other =
    ap (list_all is_utf8) (next words i word there is)
    ∙ ap (λ b. b && list_all is_utf8 (drop (i + 1) words)) (not_utf8 word other)

pub texts_more : (texts : List (Bor (List ℕ))) (text : Bor (List ℕ)) (words : List (List ℕ)) (i : ℕ) (word : List ℕ)
    → i < length words → word ≡ get_or words i word → text.now ≡ word
    → map (λ (t : Bor (List ℕ)). t.now) texts ≡ take i words
    → map (λ (t : Bor (List ℕ)). t.now) (texts ++ text ∷ []) ≡ take (i + 1) words
texts_more texts text words i word there is same before =
    map-append (λ (t : Bor (List ℕ)). t.now) texts (text ∷ [])
    ∙ ap (λ (l : List (List ℕ)). l ++ text.now ∷ []) before
    ∙ ap (λ (x : List ℕ). take i words ++ x ∷ []) (same ∙ is)
    ∙ sym (take-suc words i word there)
    ∙ ap (λ (k : ℕ). take k words) (one i)
