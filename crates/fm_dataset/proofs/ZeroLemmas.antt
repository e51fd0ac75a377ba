-- Eight zero bytes at the end of a text are lost with the others.
use Rattle.std.proofs.Common.{◌≡◌, ℕ, ◌+◌, ◌-◌, ◌≤◌, List, [], ◌∷◌, ◌++◌, length, take, drop, replicate, sym, ap, ap₂, ◌∙◌, arith}
use Rattle.std.specs.Prelude.{◌==◌, if◌then◌else◌, Some, None}
use Rattle.std.specs.Int.{w64, from_be_bytes}
use Rattle.std.specs.List.{prefix_len, suffix_len}
use Rattle.std.proofs.lemmas.Bool.{le-ltb}
use Rattle.std.proofs.lemmas.List.{length-append, length-drop, reverse-append, take-append-drop, take-append-le, take_all}
use Rattle.std.proofs.lemmas.Option.{same_Some}
use Rattle.fm_base.specs.Field.{field_at}
use Rattle.fm_model.specs.Attribute.{trimmed}

-- how many zeros stand at the end
abbrev zeros : List ℕ → ℕ
zeros bytes = suffix_len (λ byte. byte == 0) bytes

zeros-more : (front : List ℕ) → zeros (front ++ replicate 8 0) ≡ 8 + zeros front
zeros-more front =
    let all : zeros (front ++ replicate 8 0) ≡ 1 + (1 + (1 + (1 + (1 + (1 + (1 + (1 + zeros front))))))) =
    ap (prefix_len (λ byte. byte == 0)) (reverse-append front (replicate 8 0)) in omega (arith, all)

pub trimmed-more : (front : List ℕ) → trimmed (front ++ replicate 8 0) ≡ trimmed front
unfolding trimmed
trimmed-more front =
    let kept : length (front ++ replicate 8 0) - zeros (front ++ replicate 8 0) ≡ length front - zeros front =
    omega (arith, length-append front (replicate 8 0), zeros-more front) in
    ap (λ n. take n (front ++ replicate 8 0)) kept
    ∙ take-append-le (length front - zeros front) front (replicate 8 0) (omega arith)

-- eight bytes of a number that is zero
zeros_of_number : (bytes : List ℕ) → length bytes ≡ 8 → from_be_bytes w64 bytes ≡ 0 → bytes ≡ replicate 8 0
zeros_of_number [] long none = absurd (omega arith)
zeros_of_number (a ∷ []) long none = absurd (omega arith)
zeros_of_number (a ∷ b ∷ []) long none = absurd (omega arith)
zeros_of_number (a ∷ b ∷ c ∷ []) long none = absurd (omega arith)
zeros_of_number (a ∷ b ∷ c ∷ d ∷ []) long none = absurd (omega arith)
zeros_of_number (a ∷ b ∷ c ∷ d ∷ e ∷ []) long none = absurd (omega arith)
zeros_of_number (a ∷ b ∷ c ∷ d ∷ e ∷ f ∷ []) long none = absurd (omega arith)
zeros_of_number (a ∷ b ∷ c ∷ d ∷ e ∷ f ∷ g ∷ []) long none = absurd (omega arith)
zeros_of_number (a ∷ b ∷ c ∷ d ∷ e ∷ f ∷ g ∷ h ∷ []) long none =
    let a_is : a ≡ 0 = omega arith in
    let b_is : b ≡ 0 = omega arith in
    let c_is : c ≡ 0 = omega arith in
    let d_is : d ≡ 0 = omega arith in
    let e_is : e ≡ 0 = omega arith in
    let f_is : f ≡ 0 = omega arith in
    let g_is : g ≡ 0 = omega arith in
    let h_is : h ≡ 0 = omega arith in
    ap₂ (λ x xs. x ∷ xs) a_is
    (ap₂ (λ x xs. x ∷ xs) b_is
    (ap₂ (λ x xs. x ∷ xs) c_is
    (ap₂ (λ x xs. x ∷ xs) d_is
    (ap₂ (λ x xs. x ∷ xs) e_is
    (ap₂ (λ x xs. x ∷ xs) f_is
    (ap₂ (λ x xs. x ∷ xs) g_is
    (ap (λ x. x ∷ []) h_is)))))))
zeros_of_number (a ∷ b ∷ c ∷ d ∷ e ∷ f ∷ g ∷ h ∷ i ∷ more) long none = absurd (omega arith)

-- the front before eight bytes whose number is zero
pub before_zeros : (bytes : List ℕ) → 8 ≤ length bytes → field_at w64 bytes (length bytes - 8) ≡ Some 0
    → bytes ≡ take (length bytes - 8) bytes ++ replicate 8 0
before_zeros bytes long e =
    let at : ℕ = length bytes - 8 in
    let last : List ℕ = drop at bytes in
    let count : length last ≡ 8 = omega (arith, length-drop at bytes) in
    let number : ℕ = from_be_bytes w64 (take 8 last) in
    let there : field_at w64 bytes at ≡ Some number =
    ap (λ b. if b then None else Some number) (le-ltb (length bytes) (at + 8) (omega arith)) in
    let none : number ≡ 0 = same_Some number 0 (sym there ∙ e) in
    let all : take 8 last ≡ last = take_all 8 last (omega arith) in
    sym (take-append-drop at bytes)
    ∙ ap (λ (l : List ℕ). take at bytes ++ l) (zeros_of_number last count (ap (from_be_bytes w64) (sym all) ∙ none))
