-- Texts lose only their last zeros.
use Rattle.std.proofs.Common.{◌≡◌, ◌≢◌, ℕ, ◌+◌, ◌-◌, ◌<◌, ◌≤◌, List, [], ◌∷◌, ◌++◌, length, get_or, take, drop, replicate, reverse, refl, sym, ap, ◌∙◌, arith}
use Rattle.std.specs.Prelude.{◌==◌}
use Rattle.std.specs.List.{suffix_len}
use Rattle.std.proofs.lemmas.Bool.{eqb-false, eqb-true}
use Rattle.std.proofs.lemmas.List.{get_or-drop, get_or-replicate, get_or-reverse, get_or-take, get_or_push, length-append, length-drop, length-replicate, length-reverse, length-take-le, same_lists, take-append-drop}
use Rattle.std.proofs.lemmas.List.Sums.{prefix_len_passes, prefix_len_stops, suffix_len-le-length}
use Rattle.fm_model.specs.Attribute.{trimmed}

-- how many zeros stand at the end
abbrev zeros : List ℕ → ℕ
zeros bytes = suffix_len (λ byte. byte == 0) bytes

-- how many bytes are left
abbrev kept : List ℕ → ℕ
kept bytes = length bytes - zeros bytes

-- each byte after those that are left is a zero
zero_after : (bytes : List ℕ) (k : ℕ) (d : ℕ) → k < zeros bytes → get_or (drop (kept bytes) bytes) k d ≡ 0
zero_after bytes k d lt =
    let most : zeros bytes ≤ length bytes = suffix_len-le-length (λ byte. byte == 0) bytes in
    let index : length bytes - 1 - (length bytes - 1 - (kept bytes + k)) ≡ kept bytes + k = omega arith in
    let there : get_or (reverse bytes) (length bytes - 1 - (kept bytes + k)) d ≡ get_or bytes
    (length bytes - 1 - (length bytes - 1 - (kept bytes + k))) d = get_or-reverse bytes
    (length bytes - 1 - (kept bytes + k)) d (omega arith) in
    let zero : get_or (reverse bytes) (length bytes - 1 - (kept bytes + k)) d ≡ 0 = eqb-true _ 0
    (prefix_len_passes (λ byte. byte == 0) (reverse bytes) (length bytes - 1 - (kept bytes + k)) d (omega arith)) in
    get_or-drop (kept bytes) bytes k d ∙ ap (λ n. get_or bytes n d) (sym index) ∙ sym there ∙ zero

pub trimmed-zeros : (bytes : List ℕ) → bytes ≡ trimmed bytes ++ replicate (length bytes - length (trimmed bytes)) 0
unfolding trimmed
trimmed-zeros bytes =
    let most : zeros bytes ≤ length bytes = suffix_len-le-length (λ byte. byte == 0) bytes in
    let lost : length bytes - length (take (kept bytes) bytes) ≡ zeros bytes = omega
    (arith, length-take-le (kept bytes) bytes (omega arith)) in
    let end_is : drop (kept bytes) bytes ≡ replicate (zeros bytes) 0 = same_lists (drop (kept bytes) bytes)
    (replicate (zeros bytes) 0)
    (length-drop (kept bytes) bytes ∙
    (let e : length bytes - kept bytes ≡ zeros bytes = omega arith in e) ∙ sym (length-replicate (zeros bytes) 0))
    (λ k d lt. let within : k < zeros bytes = omega
    (arith, length-drop (kept bytes) bytes) in zero_after bytes k d within
    ∙ sym (get_or-replicate (zeros bytes) k 0 d within)) in
    sym (take-append-drop (kept bytes) bytes)
    ∙ ap (λ (l : List ℕ). take (kept bytes) bytes ++ l) (end_is ∙ ap (λ n. replicate n 0) (sym lost))

pub trimmed-last : (bytes front : List ℕ) (last : ℕ) → trimmed bytes ≡ front ++ last ∷ [] → last ≢ 0
unfolding trimmed
trimmed-last bytes front last e same =
    let most : zeros bytes ≤ length bytes = suffix_len-le-length (λ byte. byte == 0) bytes in
    let count : kept bytes ≡ length front + 1 = sym (length-take-le (kept bytes) bytes (omega arith)) ∙ ap length e
    ∙ length-append front (last ∷ []) in
    let at_last : get_or (take (kept bytes) bytes) (length front) 1
    ≡ last = ap (λ (l : List ℕ). get_or l (length front) 1) e ∙ get_or_push front last 1 (length front) refl in
    let within : get_or (take (kept bytes) bytes) (length front) 1 ≡ get_or bytes (length front) 1 = get_or-take
    (kept bytes) bytes (length front) 1 (omega arith) in
    let index : length bytes - 1 - zeros bytes ≡ length front = omega arith in
    let there : get_or (reverse bytes) (zeros bytes) 1 ≡ get_or bytes
    (length bytes - 1 - zeros bytes) 1 = get_or-reverse bytes (zeros bytes) 1 (omega arith) in
    let stops = prefix_len_stops (λ byte. byte == 0) (reverse bytes) 1 (omega (arith, length-reverse bytes)) in
    eqb-false (get_or (reverse bytes) (zeros bytes) 1) 0 stops
    (there ∙ ap (λ n. get_or bytes n 1) index ∙ sym within ∙ at_last ∙ same)
