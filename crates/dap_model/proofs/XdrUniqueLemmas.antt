-- No two arrays of a kind have the same bytes.
use Rattle.std.proofs.Common.{◌≡◌, ℕ, ◌+◌, ◌*◌, ◌^◌, ◌<◌, List, length, get_or, take, refl, sym, ap, subst, ◌∙◌, arith}
use Rattle.std.specs.Int.{w16, w32, w64, to_be_bytes, from_be_bytes, cast_signed, cast_unsigned}
use Rattle.std.specs.List.{All}
use Rattle.std.proofs.Math.Facts.{sfits_to_z, sfits_widen, Fits-of_z}
use Rattle.std.proofs.lemmas.Grind.{same_number_lists}
use Rattle.std.proofs.lemmas.Int.{of_z-to_z, to_z-of_z}
use Rattle.std.proofs.lemmas.Nat.{from_be_bytes-to_be_bytes_4, from_be_bytes-to_be_bytes_8}
use Rattle.dap_model.specs.declared.declaration.DapKind.{DapKind}
use Rattle.dap_model.specs.declared.declaration.DapKind.TheVariants.{Byte, Int16, Int32, Float32, Float64, Text}
use Rattle.dap_model.specs.Xdr.{number_bytes, count_twice, array_bytes, element_bytes, element_len, bits_in, AreBitsOf}
use Rattle.dap_model.proofs.XdrLemmas.{length-element_bytes, get_or-array_bytes}

same_word : (m n : ℕ) → m < 2 ^ 32 → n < 2 ^ 32 → to_be_bytes w32 m ≡ to_be_bytes w32 n → m ≡ n
same_word m n p q e = sym (from_be_bytes-to_be_bytes_4 m p) ∙ ap (from_be_bytes w32) e ∙ from_be_bytes-to_be_bytes_4 n q

same_double : (m n : ℕ) → m < 2 ^ 64 → n < 2 ^ 64 → to_be_bytes w64 m ≡ to_be_bytes w64 n → m ≡ n
same_double m n p q e =
    sym (from_be_bytes-to_be_bytes_8 m p) ∙ ap (from_be_bytes w64) e ∙ from_be_bytes-to_be_bytes_8 n q

-- two bytes with their sign in four
widened : (n : ℕ) → n < 2 ^ 16
    → (cast_unsigned w32 (cast_signed w16 n) < 2 ^ 32)
    × (cast_unsigned w16 (cast_signed w32 (cast_unsigned w32 (cast_signed w16 n))) ≡ n)
widened n p =
    let fits = sfits_widen {w = w16} {w' = w32} tt (sfits_to_z {w = w16} {n = n} (record { fits = p })) in
    ((Fits-of_z fits).fits, ap (cast_unsigned w16) (to_z-of_z w32 (cast_signed w16 n) fits) ∙ of_z-to_z w16 n p)

same_short : (m n : ℕ) → m < 2 ^ 16 → n < 2 ^ 16
    → to_be_bytes w32 (cast_unsigned w32 (cast_signed w16 m)) ≡ to_be_bytes w32 (cast_unsigned w32 (cast_signed w16 n))
    → m ≡ n
same_short m n p q e =
    let first = widened m p in
    let second = widened n q in
    sym first.1 ∙ ap (λ (k : ℕ). cast_unsigned w16 (cast_signed w32 k)) (same_word _ _ first.0 second.0 e) ∙ second.1

-- no two elements of a kind have the same bytes
pub same_element : (kind : DapKind) (m n : ℕ) → AreBitsOf kind m → AreBitsOf kind n
    → element_bytes kind m ≡ element_bytes kind n → m ≡ n
unfolding element_bytes number_bytes bits_in
same_element Byte m n p q e = cc
same_element Int16 m n p q e = same_short m n p q e
same_element Int32 m n p q e = same_word m n p q e
same_element Float32 m n p q e = same_word m n p q e
same_element Float64 m n p q e = same_double m n p q e
same_element Text m n p q e = omega arith

-- the first count of an array
count_of : (kind : DapKind) (numbers : List ℕ) → take 4 (array_bytes kind numbers) ≡ to_be_bytes w32 (length numbers)
unfolding array_bytes count_twice
count_of kind numbers = refl

-- no two arrays of a kind have the same bytes
pub bytes_determine_array : (kind : DapKind) (first second : List ℕ) → length first < 2 ^ 32 → length second < 2 ^ 32
    → All (AreBitsOf kind) first → All (AreBitsOf kind) second
    → array_bytes kind first ≡ array_bytes kind second → first ≡ second
bytes_determine_array kind first second few less p q e =
    let counts : to_be_bytes w32 (length first) ≡ to_be_bytes w32 (length second) = sym (count_of kind first)
    ∙ ap (take 4) e ∙ count_of kind second in
    let same = same_word (length first) (length second) few less counts in
    same_number_lists first second same
    (λ index within.
    let inside : index < length second = subst (λ (n : ℕ). index < n) same within in
    let elements : element_bytes kind (get_or first index 0) ≡ element_bytes kind (get_or second index 0) =
    same_number_lists _ _
    (length-element_bytes kind (get_or first index 0) ∙ sym (length-element_bytes kind (get_or second index 0)))
    (λ offset below.
    let short : offset < element_len kind =
    subst (λ (n : ℕ). offset < n) (length-element_bytes kind (get_or first index 0)) below in
    sym (get_or-array_bytes kind first index offset within short)
    ∙ ap (λ (l : List ℕ). get_or l (8 + (index * element_len kind + offset)) 0) e
    ∙ get_or-array_bytes kind second index offset inside short) in
    same_element kind (get_or first index 0) (get_or second index 0) (p index 0 within) (q index 0 inside) elements)
