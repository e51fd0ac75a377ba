-- The index lists of a box, and of two boxes together.
use Rattle.std.proofs.Common.{◌≡◌, ℕ, ◌+◌, ◌-◌, ◌*◌, ◌/◌, ◌%◌, ◌<◌, List, [], ◌∷◌, ◌++◌, sym, ap, subst, ◌∙◌, inl, inr, arith}
use Rattle.std.specs.List.{All}
use Rattle.std.proofs.lemmas.List.Elements.{All-tail}
use Rattle.std.proofs.lemmas.Nat.{mul-add-lt}
use Rattle.std.proofs.Math.Nat.{mul-le-mul_right, mul_comm}
use Rattle.nc_model.specs.Layout.{product}
use Rattle.dap_model.specs.declared.projection.Slab.{Slab}
use Rattle.dap_model.specs.Box.{slab_count, slab_index, box_len, index_at}
use Rattle.dap_model.proofs.BoxLemmas.{index_at-cons, split_of}
use Rattle.dap_model.proofs.SlabLemmas.{count_cases}
use Rattle.dap_slab.specs.Walking.{HasIndex}

-- a slab with an index has a count
pub count_of_index : (slab : Slab) → HasIndex slab → slab_count slab ≡ (slab.stop - slab.start) / slab.stride + 1
count_of_index slab has = elim (count_cases slab) [
  | inl t ↦ t.1
  | inr f ↦ absurd (omega (arith, f.0, has.ordered))
]

-- slabs with an index pick something
pub box_len-pos : (slabs : List Slab) → All HasIndex slabs → 0 < box_len slabs
unfolding box_len product
box_len-pos [] each = omega arith
box_len-pos (slab ∷ slabs) each =
    let count = count_of_index slab (each 0 slab (omega arith)) in
    let some : 0 < slab_count slab = omega arith in
    let others = box_len-pos slabs (All-tail HasIndex slab slabs each) in
    let least = mul-le-mul_right (box_len slabs) some in
    omega arith

pub box_len-append : (front back : List Slab) → box_len (front ++ back) ≡ box_len front * box_len back
unfolding box_len product
box_len-append [] back = omega arith
box_len-append (slab ∷ front) back = ap (λ (n : ℕ). slab_count slab * n) (box_len-append front back) ∙ grind arith

-- the index list of an element of two boxes together
pub index_at-append : (front back : List Slab) (element rest : ℕ) → element < box_len front → rest < box_len back
    → index_at (front ++ back) (element * box_len back + rest) ≡ index_at front element ++ index_at back rest
unfolding box_len product index_at
index_at-append [] back element rest within below =
    let none : element ≡ 0 = omega arith in
    ap (λ (n : ℕ). index_at back (n * box_len back + rest)) none ∙ ap (index_at back) (omega arith)
index_at-append (slab ∷ front) back element rest within below =
    let width = box_len front in
    let more = box_len back in
    let split = split_of (slab_count slab) width element within in
    let first = element / width in
    let second = element % width in
    let inner : second * more + rest < box_len (front ++ back) =
    subst (λ (n : ℕ). second * more + rest < n) (mul_comm more width ∙ sym (box_len-append front back))
    (mul-add-lt second more rest width split.second below) in
    let apart : (first * width + second) * more + rest ≡ first * (width * more) +
    (second * more + rest) = grind arith in
    let element_is : element * more + rest ≡ first * box_len (front ++ back) + (second * more + rest) =
    ap (λ (n : ℕ). n * more + rest) (sym split.whole)
    ∙ apart
    ∙ ap (λ (n : ℕ). first * n + (second * more + rest)) (sym (box_len-append front back)) in
    ap (index_at (slab ∷ (front ++ back))) element_is
    ∙ index_at-cons slab (front ++ back) first (second * more + rest) inner
    ∙ ap (λ (l : List ℕ). slab_index slab first ∷ l) (index_at-append front back second rest split.second below)
