-- Numbers of two bytes, one after the other, in four bytes each.
use Rattle.std.proofs.Common.{◌≡◌, ℕ, zero, suc, ◌+◌, ◌*◌, ◌<◌, ◌≤◌, List, [], ◌∷◌, ◌++◌, length, get_or, take, drop, refl, sym, ap, ap₂, ◌∙◌, arith}
use Rattle.std.specs.Int.{w16, from_be_bytes}
use Rattle.std.proofs.Math.Seq.{drop-append-add, take-append-add, take-append_seam}
use Rattle.std.proofs.lemmas.List.{append-nil, append_assoc, length-append, drop-drop}
use Rattle.dap_model.proofs.XdrLemmas.{length-number_bytes}
use Rattle.dap_model.specs.Xdr.{number_bytes, number_len}
use Rattle.dap_model.specs.declared.declaration.DapKind.TheVariants.{Int16}
use Rattle.dap_number.specs.Front.{widened_bytes}

-- a pair of bytes as a number in four
abbrev pair_at : List ℕ → ℕ → List ℕ
pair_at bytes at = number_bytes Int16 (from_be_bytes w16 (get_or bytes at 0 ∷ get_or bytes (suc at) 0 ∷ []))

-- one number more
pub widened-more : (number at : ℕ) (bytes : List ℕ) → at ≡ 2 * number → suc at < length bytes
    → widened_bytes (take (suc (suc at)) bytes) ≡ widened_bytes (take at bytes) ++ pair_at bytes at
unfolding widened_bytes
widened-more number at [] even within = absurd (omega arith)
widened-more number at (high ∷ []) even within = absurd (omega arith)
widened-more number zero (high ∷ low ∷ bytes) even within = append-nil (pair_at (high ∷ low ∷ bytes) 0)
widened-more number (suc zero) (high ∷ low ∷ bytes) even within = absurd (omega arith)
widened-more zero (suc (suc at)) (high ∷ low ∷ bytes) even within = absurd (omega arith)
widened-more (suc number) (suc (suc at)) (high ∷ low ∷ bytes) even within =
    ap (λ (l : List ℕ). number_bytes Int16 (from_be_bytes w16 (high ∷ low ∷ [])) ++ l)
    (widened-more number at bytes (omega arith) (omega arith))
    ∙ sym (append_assoc _ (widened_bytes (take at bytes)) (pair_at bytes at))

-- each takes four bytes
pub length-widened : (number at : ℕ) (bytes : List ℕ) → at ≡ 2 * number → at ≤ length bytes
    → length (widened_bytes (take at bytes)) ≡ 2 * at
unfolding widened_bytes number_len
length-widened number zero bytes even within = refl
length-widened number (suc zero) bytes even within = absurd (omega arith)
length-widened number (suc (suc at)) [] even within = absurd (omega arith)
length-widened number (suc (suc at)) (high ∷ []) even within = absurd (omega arith)
length-widened zero (suc (suc at)) (high ∷ low ∷ bytes) even within = absurd (omega arith)
length-widened (suc number) (suc (suc at)) (high ∷ low ∷ bytes) even within =
    let one : length (number_bytes Int16 (from_be_bytes w16 (high ∷ low ∷ []))) ≡ 4 =
    length-number_bytes Int16 (from_be_bytes w16 (high ∷ low ∷ [])) in
    let rest = length-widened number at bytes (omega arith) (omega arith) in
    length-append (number_bytes Int16 (from_be_bytes w16 (high ∷ low ∷ []))) _ ∙ omega (arith, one, rest)

-- one number more stands over the front of the buffer
pub widen-turn : (number : ℕ) (stored old out four : List ℕ) → 2 * number + 1 < length stored
    → out ≡ widened_bytes (take (2 * number) stored) ++ drop (4 * number) old
    → four ≡ number_bytes Int16 (from_be_bytes w16
    (get_or stored (2 * number) 0 ∷ get_or stored (2 * number + 1) 0 ∷ []))
    → take (4 * number) out ++ (four ++ drop (4 * number + 4) out)
    ≡ widened_bytes (take (2 * (number + 1)) stored) ++ drop (4 * (number + 1)) old
widen-turn number stored old out four within same is =
    let front = widened_bytes (take (2 * number) stored) in
    let long : 4 * number ≡ length front =
    sym (length-widened number (2 * number) stored refl (omega arith) ∙ omega arith) in
    let head : take (4 * number) out ≡ front =
    ap₂ take long same ∙ take-append_seam front (drop (4 * number) old) in
    let tail : drop (4 * number + 4) out ≡ drop (4 * (number + 1)) old =
    ap₂ (λ (n : ℕ) (l : List ℕ). drop (n + 4) l) long same
    ∙ drop-append-add front (drop (4 * number) old) 4
    ∙ drop-drop 4 (4 * number) old
    ∙ ap (λ (n : ℕ). drop n old) (omega arith) in
    let low : 2 * number + 1 ≡ suc (2 * number) = omega arith in
    let pair : four ≡ pair_at stored (2 * number) =
    is ∙ ap (λ (n : ℕ). number_bytes Int16 (from_be_bytes w16
    (get_or stored (2 * number) 0 ∷ get_or stored n 0 ∷ []))) low in
    let two : 2 * (number + 1) ≡ suc (suc (2 * number)) = omega arith in
    let next : widened_bytes (take (2 * (number + 1)) stored) ≡ front ++ four =
    ap (λ (n : ℕ). widened_bytes (take n stored)) two
    ∙ widened-more number (2 * number) stored refl (omega arith)
    ∙ ap (λ (l : List ℕ). front ++ l) (sym pair) in
    ap₂ (λ (l r : List ℕ). l ++ (four ++ r)) head tail
    ∙ sym (append_assoc front four (drop (4 * (number + 1)) old))
    ∙ ap (λ (l : List ℕ). l ++ drop (4 * (number + 1)) old) (sym next)

-- the first numbers widened are the front of all widened
pub widened-take : (number at : ℕ) (bytes : List ℕ) → at ≡ 2 * number → at ≤ length bytes
    → widened_bytes (take at bytes) ≡ take (2 * at) (widened_bytes bytes)
unfolding widened_bytes number_len
widened-take number zero bytes even within = refl
widened-take number (suc zero) bytes even within = absurd (omega arith)
widened-take number (suc (suc at)) [] even within = absurd (omega arith)
widened-take number (suc (suc at)) (high ∷ []) even within = absurd (omega arith)
widened-take zero (suc (suc at)) (high ∷ low ∷ bytes) even within = absurd (omega arith)
widened-take (suc number) (suc (suc at)) (high ∷ low ∷ bytes) even within =
    let four = number_bytes Int16 (from_be_bytes w16 (high ∷ low ∷ [])) in
    let one : length four ≡ 4 = length-number_bytes Int16 (from_be_bytes w16 (high ∷ low ∷ [])) in
    let long : 2 * suc (suc at) ≡ length four + 2 * at = omega (arith, one) in
    ap (λ (l : List ℕ). four ++ l) (widened-take number at bytes (omega arith) (omega arith))
    ∙ sym (ap (λ (n : ℕ). take n (four ++ widened_bytes bytes)) long
    ∙ take-append-add four (widened_bytes bytes) (2 * at))
