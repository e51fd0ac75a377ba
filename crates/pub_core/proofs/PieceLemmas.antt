-- A piece that is written over as many bytes as it has.
use Rattle.std.proofs.Common.{◌≡◌, ◌≤◌, ℕ, ◌+◌, ◌-◌, List, ◌++◌, length, take, drop, ap, ◌∙◌, arith, append-nil, length-take, length-drop}
use Rattle.std.proofs.lemmas.List.{drop_all, take_all, take-append-le}
use Rattle.dap_number.specs.Overlay.{overlay}

overlay-whole : (bytes old : List ℕ) → length old ≤ length bytes → overlay bytes old ≡ take (length old) bytes
unfolding overlay
overlay-whole bytes old fits =
    ap (λ (l : List ℕ). take (length old) bytes ++ l) (drop_all (length bytes) old fits)
    ∙ append-nil (take (length old) bytes)

pub piece-whole : (bytes old new items : List ℕ) (len from count : ℕ) → new ≡ overlay (drop from bytes) old
    → length old ≡ len → len ≡ count → from + count ≤ length bytes
    → take len (new ++ drop (length new) items) ≡ take count (drop from bytes)
piece-whole bytes old new items len from count is long same fits =
    let rest : length (drop from bytes) ≡ length bytes - from = length-drop from bytes in
    let whole : new ≡ take (length old) (drop from bytes) =
    is ∙ overlay-whole (drop from bytes) old (omega (arith, rest, long, same, fits)) in
    let all : new ≡ take count (drop from bytes) =
    whole ∙ ap (λ (n : ℕ). take n (drop from bytes)) (long ∙ same) in
    let size : len ≡ length new =
    omega (arith, ap length all, length-take count (drop from bytes), rest, same, fits) in
    take-append-le len new (drop (length new) items) (omega (arith, size))
    ∙ take_all len new (omega (arith, size)) ∙ all

-- a list whose items were all written over
pub written-back : {A : Type 0} (old new items : List A) (len : ℕ) → length old ≡ len → length new ≡ length old
    → take len (new ++ drop (length new) items) ≡ new
written-back old new items len long same =
    take-append-le len new (drop (length new) items) (omega (arith, long, same))
    ∙ take_all len new (omega (arith, long, same))
