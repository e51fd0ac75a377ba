-- One byte further in a search for a byte or a bad escape.
use Rattle.std.proofs.Common.{◌≡◌, ℕ, suc, ◌+◌, ◌-◌, ◌<◌, ◌≤◌, Bool, true, false, ◌&&◌, ◌==◌, not, List, [], ◌∷◌, drop, get_or, length, take, Option, Some, None, option_map, refl, sym, ap, ◌∙◌, arith}
use Rattle.std.proofs.lemmas.Bool.{cond-true, cond-false, eqb-true}
use Rattle.std.proofs.lemmas.List.{take_all}
use Rattle.web_path.specs.Escape.{bad_escape, begins_with_two_digits, percent}

later : (at : ℕ) (offset : Option ℕ)
    → option_map (λ i. at + i) (option_map suc offset) ≡ option_map (λ i. at + 1 + i) offset
later at None = refl
later at (Some i) = ap Some (omega arith)

escape_later : (at byte : ℕ) (rest : List ℕ) → (byte == percent && not (begins_with_two_digits rest)) ≡ false
    → option_map (λ i. at + i) (bad_escape (byte ∷ rest)) ≡ option_map (λ i. at + 1 + i) (bad_escape rest)
escape_later at byte rest is =
    ap (option_map (λ i. at + i)) (cond-false _ _ _ is) ∙ later at (bad_escape rest)

escape_here : (at byte : ℕ) (rest : List ℕ) → (byte == percent && not (begins_with_two_digits rest)) ≡ true
    → option_map (λ i. at + i) (bad_escape (byte ∷ rest)) ≡ Some at
escape_here at byte rest is = ap (option_map (λ i. at + i)) (cond-true _ _ _ is) ∙ ap Some (omega arith)

-- the first byte, and the others
first_byte : (left : List ℕ) → 1 ≤ length left → left ≡ get_or left 0 0 ∷ take (length left - 1) (drop 1 left)
first_byte [] some = absurd (omega (arith, some))
first_byte (byte ∷ rest) some =
    ap (λ (l : List ℕ). byte ∷ l) (sym (take_all (length (byte ∷ rest) - 1) rest (omega arith)))

-- the search begins with all bytes
pub escape_first : (bytes : List ℕ) → option_map (λ i. 0 + i) (bad_escape bytes) ≡ bad_escape bytes
escape_first bytes = by_offset (bad_escape bytes)
  where
    by_offset : (offset : Option ℕ) → option_map (λ i. 0 + i) offset ≡ offset
    by_offset None = refl
    by_offset (Some i) = ap Some (omega arith)

-- another byte than `%` is no bad escape, nor is one with two digits after it
pub no_percent : (byte : ℕ) (digits : Bool) → (byte ≡ percent → ⊥) → (byte == percent && not digits) ≡ false
no_percent byte digits other = by_test (byte == percent) refl
  where
    by_test : (b : Bool) → (byte == percent) ≡ b → (b && not digits) ≡ false
    by_test true is = absurd (other (eqb-true byte percent is))
    by_test false is = refl

pub with_digits : (byte : ℕ) (digits : Bool) → digits ≡ true → (byte == percent && not digits) ≡ false
with_digits byte digits is = rw is (by_test (byte == percent))
  where
    by_test : (b : Bool) → (b && not true) ≡ false
    by_test true = refl
    by_test false = refl

-- the search goes on after a byte that is no bad escape
pub escape_next : (at : ℕ) (left bytes : List ℕ) → 1 ≤ length left
    → (get_or left 0 0 == percent && not (begins_with_two_digits (take (length left - 1) (drop 1 left)))) ≡ false
    → (option_map (λ i. at + i) (bad_escape left) ≡ bad_escape bytes) × (at + length left ≡ length bytes)
    → (option_map (λ i. at + 1 + i) (bad_escape (take (length left - 1) (drop 1 left))) ≡ bad_escape bytes)
    × (at + 1 + length (take (length left - 1) (drop 1 left)) ≡ length bytes)
escape_next at left bytes some test now =
    let whole = first_byte left some in
    let later = ap (λ (l : List ℕ). option_map (λ i. at + i) (bad_escape l)) whole
    ∙ escape_later at (get_or left 0 0) (take (length left - 1) (drop 1 left)) test in
    let size = ap length whole in
    let all = now.1 in
    (sym later ∙ now.0, omega (arith, size, all))

-- it ends at one
pub escape_found : (at : ℕ) (left bytes : List ℕ) → 1 ≤ length left → get_or left 0 0 ≡ percent
    → begins_with_two_digits (take (length left - 1) (drop 1 left)) ≡ false
    → option_map (λ i. at + i) (bad_escape left) ≡ bad_escape bytes → Some at ≡ bad_escape bytes
escape_found at left bytes some is none now =
    sym (ap (λ (l : List ℕ). option_map (λ i. at + i) (bad_escape l)) (first_byte left some)
    ∙ escape_here at (get_or left 0 0) (take (length left - 1) (drop 1 left)) (rw (is, none) refl)) ∙ now

-- and with the last byte
pub escape_none : (at : ℕ) (left bytes : List ℕ) → length left < 1
    → option_map (λ i. at + i) (bad_escape left) ≡ bad_escape bytes → None ≡ bad_escape bytes
escape_none at [] bytes none now = now
escape_none at (byte ∷ rest) bytes none now = absurd (omega (arith, none))
