-- What stands in a file is a front of what is sent.
use Rattle.std.proofs.Common.{◌≡◌, ◌≢◌, ℕ, ◌+◌, ◌-◌, ◌*◌, ◌/◌, ◌%◌, ◌≤◌, List, [], ◌++◌, length, map, min, take, drop, inl, inr, sym, subst, zero-add, ap, ap₂, ◌∙◌, arith}
use Rattle.std.specs.List.{flat_map}
use Rattle.std.proofs.Math.Seq.{drop-append-add, take-append_seam}
use Rattle.std.proofs.lemmas.Bool.{cases_lt}
use Rattle.std.proofs.lemmas.Option.{same_Some}
use Rattle.std.proofs.lemmas.List.{drop_all, drop-append-le, length-take, take-append-le}
use Rattle.std.proofs.lemmas.Nat.{div-add-mod'}
use Rattle.dap_model.specs.Box.{box_len, box_of}
use Rattle.dap_model.specs.Xdr.{count_twice, element_bytes, element_len, zeros_after}
use Rattle.dap_model.specs.declared.declaration.Array.{Array}
use Rattle.dap_model.specs.declared.declaration.DapKind.TheVariants.{Int16}
use Rattle.dap_xdr.specs.Datasets.{IsStretchOf}
use Rattle.dap_xdr.specs.Portion.{array_of, bits_in, body_of, numbers_from, IsPortion, Portion}
use Rattle.dap_xdr.specs.Stretch.{ArePicked}
use Rattle.dap_xdr.proofs.ElementLemmas.{array-body, from-later, from-split}
use Rattle.dap_number.proofs.FrontLemmas.{drop-both}
use Rattle.dap_xdr.proofs.StoredLemmas.{all-same}

-- what is left of the first of two texts is a front of what is left of both
pub left-front : (xs ys : List ℕ) (skip passed : ℕ) → passed ≡ min skip (length xs)
    → take (length (drop passed xs)) (drop skip (xs ++ ys)) ≡ drop passed xs
left-front xs ys skip passed is = elim (cases_lt (length xs) skip) [
  | inl past ↦
      let all : drop passed xs ≡ [] = drop_all passed xs (omega (arith, is, past)) in
      ap (λ (l : List ℕ). take (length l) (drop skip (xs ++ ys))) all ∙ sym all
  | inr within ↦
      let same : passed ≡ skip = omega (arith, is, within) in
      ap₂ (λ (m : ℕ) (l : List ℕ). take (length (drop m xs)) l) same (drop-append-le skip xs ys within)
      ∙ take-append_seam (drop skip xs) ys
      ∙ ap (λ (m : ℕ). drop m xs) (sym same)
]

-- a front of a text is one of the text with others behind
pub front-behind : (xs ys front : List ℕ) → take (length front) xs ≡ front → take (length front) (xs ++ ys) ≡ front
front-behind xs ys front is =
    let within : length front ≤ length xs =
    omega (arith, ap length is, length-take (length front) xs) in
    take-append-le (length front) xs ys within ∙ is

-- what is left of stored numbers is a front of what is left of all
pub stored-front : (n : Portion) (from element most passed : ℕ) (stored : List ℕ)
    → n.array.kind ≢ Int16 → element ≡ from / element_len n.array.kind
    → ArePicked n.array.kind (bits_in n) n.sent.slabs element most stored
    → passed ≡ min (from % element_len n.array.kind) (length stored)
    → take (length (drop passed stored)) (drop from (numbers_from n 0)) ≡ drop passed stored
stored-front n from element most passed stored other is picked few =
    let w = element_len n.array.kind in
    let numbers = map (bits_in n) (take picked.count (drop element (box_of n.sent.slabs))) in
    let same : stored ≡ flat_map (element_bytes n.array.kind) numbers =
    picked.bytes_are.bytes_are ∙ all-same n.array.kind numbers other in
    let spread : from ≡ element * w + from % w =
    sym (div-add-mod' from w) ∙ ap (λ (m : ℕ). m * w + from % w) (sym is) in
    let left : drop from (numbers_from n 0) ≡ drop (from % w) (numbers_from n element) =
    ap (λ (m : ℕ). drop m (numbers_from n 0)) spread ∙ from-later n 0 element (from % w)
    ∙ ap (λ (m : ℕ). drop (from % w) (numbers_from n m)) (zero-add element) in
    let all = from-split n element picked.count in
    ap (take (length (drop passed stored)))
    (left ∙ ap (drop (from % w)) (all ∙ ap (λ (l : List ℕ). l ++ flat_map (element_bytes n.array.kind)
    (map (bits_in n) (drop picked.count (drop element (box_of n.sent.slabs))))) (sym same)))
    ∙ left-front stored _ (from % w) passed few

-- a front of what is left of the numbers is one of what is left of the array
pub numbers-front : (n : Portion) (from : ℕ) (front : List ℕ) → 8 ≤ from
    → take (length front) (drop (from - 8) (numbers_from n 0)) ≡ front
    → take (length front) (drop from (array_of n)) ≡ front
unfolding body_of count_twice
numbers-front n from front behind is =
    let far : from ≡ length (count_twice (box_len n.sent.slabs)) + (from - 8) = omega (arith, behind) in
    let zeros = zeros_after (box_len n.sent.slabs * element_len n.array.kind) in
    ap (λ (l : List ℕ). take (length front) (drop from l)) (array-body n)
    ∙ ap (λ (m : ℕ). take (length front) (drop m (count_twice (box_len n.sent.slabs) ++ body_of n))) far
    ∙ ap (take (length front)) (drop-append-add (count_twice (box_len n.sent.slabs)) (body_of n) (from - 8)
    ∙ drop-both (numbers_from n 0) zeros (from - 8))
    ∙ front-behind (drop (from - 8) (numbers_from n 0)) _ front is

-- what is picked of a portion is a stretch of what is sent
pub stretch-of : (n : Portion) (element : ℕ) (bytes : List ℕ) → IsPortion n
    → ArePicked n.array.kind (bits_in n) n.sent.slabs element 18_446_744_073_709_551_615 bytes
    → IsStretchOf n.shown n.sent element bytes
stretch-of n element bytes portion picked = λ array is.
    subst (λ (a : Array). ArePicked a.kind (bits_in n) n.sent.slabs element 18_446_744_073_709_551_615 bytes)
    (same_Some n.array array (sym portion.part_is ∙ is)) picked
