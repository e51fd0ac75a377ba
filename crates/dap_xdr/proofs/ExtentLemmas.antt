-- The extent of slabs, one dimension more at a time.
use Rattle.std.proofs.Common.{◌≡◌, ℕ, zero, suc, ◌-◌, ◌*◌, ◌/◌, ◌<◌, ◌≤◌, List, [], ◌∷◌, length, get_or, map, drop, inl, inr, refl, ap, ap₂, subst, arith}
use Rattle.std.specs.List.{All, AllZip}
use Rattle.std.proofs.Math.Nat.{div-mul-le_self, le-mul_of_pos_right, mul_comm, mul-le-mul_left, mul-le-mul_right}
use Rattle.std.proofs.lemmas.Nat.{mul-le}
use Rattle.std.proofs.Math.Seq.{drop-cons}
use Rattle.std.proofs.lemmas.List.Elements.{All-cons, All-nil, All-tail}
use Rattle.nc_model.specs.Layout.{product}
use Rattle.nc_model.specs.declared.header.Dim.{Dim}
use Rattle.dap_model.specs.declared.projection.Slab.{Slab}
use Rattle.dap_model.specs.Box.{box_len, slab_count, HasStride}
use Rattle.dap_model.specs.ProjectionFacts.{FitsDim}
use Rattle.dap_model.proofs.SlabLemmas.{count_cases}
use Rattle.dap_slab.specs.Walking.{HasIndex}
use Rattle.dap_xdr.specs.Stretch.{extent_before, extent_of, no_extent}
use Rattle.dap_xdr.proofs.FitLemmas.{as_many}

-- each slab fits its dimension
pub fits-at : (dims : List Dim) (slabs : List Slab) (at : ℕ) (d : Dim) (s : Slab) → AllZip FitsDim dims slabs
    → at < length slabs → FitsDim (get_or dims at d) (get_or slabs at s)
fits-at [] [] at d s fits within = absurd (omega arith)
fits-at [] (slab ∷ slabs) at d s fits within = absurd fits
fits-at (dim ∷ dims) [] at d s fits within = absurd fits
fits-at (dim ∷ dims) (slab ∷ slabs) zero d s fits within = fits.0
fits-at (dim ∷ dims) (slab ∷ slabs) (suc at) d s fits within = fits-at dims slabs at d s fits.1 (omega arith)

-- slabs that fit dimensions have strides
pub have_strides : (dims : List Dim) (slabs : List Slab) → AllZip FitsDim dims slabs → All HasStride slabs
have_strides dims slabs fits = λ at slab within.
    (fits-at dims slabs at (record { name = []; size = 0 }) slab fits within).stride

-- slabs that pick something each have an index
pub have-indices : (slabs : List Slab) → All HasStride slabs → 0 < box_len slabs → All HasIndex slabs
unfolding box_len product
have-indices [] strides some = All-nil HasIndex
have-indices (slab ∷ slabs) strides some =
    let first : 0 < slab_count slab = factor (slab_count slab) (box_len slabs) some in
    let others : 0 < box_len slabs =
    factor (box_len slabs) (slab_count slab)
    (subst (λ (n : ℕ). 0 < n) (mul_comm (slab_count slab) (box_len slabs)) some) in
    let ordered : slab.start ≤ slab.stop = elim (count_cases slab) [
      | inl t ↦ t.0
      | inr f ↦ absurd (omega (arith, first, f.1))
    ] in
    All-cons HasIndex slab slabs
    (record { stride = strides 0 slab (omega arith); ordered = ordered })
    (have-indices slabs (All-tail HasStride slab slabs strides) others)
  where
    factor : (a b : ℕ) → 0 < a * b → 0 < a
    factor zero b some = absurd (omega (arith, some))
    factor (suc a) b some = omega arith

-- the extent of no slab
pub extent_of-past : (dims : List Dim) (slabs : List Slab) (at : ℕ) → AllZip FitsDim dims slabs → length slabs ≤ at
    → extent_of (drop at dims) (drop at slabs) ≡ no_extent
unfolding extent_of
extent_of-past [] [] zero fits past = refl
extent_of-past [] [] (suc at) fits past = refl
extent_of-past [] (slab ∷ slabs) at fits past = absurd fits
extent_of-past (dim ∷ dims) [] at fits past = absurd fits
extent_of-past (dim ∷ dims) (slab ∷ slabs) zero fits past = absurd (omega arith)
extent_of-past (dim ∷ dims) (slab ∷ slabs) (suc at) fits past = extent_of-past dims slabs at fits.1 (omega arith)

-- the extent from one dimension before, by that from a dimension on
pub extent_of-before : (dims : List Dim) (slabs : List Slab) (at : ℕ) (d : Dim) (s : Slab) → AllZip FitsDim dims slabs
    → 0 < at → at ≤ length slabs
    → extent_of (drop (at - 1) dims) (drop (at - 1) slabs)
    ≡ extent_before (get_or dims (at - 1) d).size (get_or slabs (at - 1) s) (extent_of (drop at dims) (drop at slabs))
unfolding extent_of
extent_of-before dims slabs zero d s fits some within = absurd (omega arith)
extent_of-before dims slabs (suc at) d s fits some within =
    let long : at < length dims = subst (λ (n : ℕ). at < n) (as_many dims slabs fits) within in
    let same : at ≡ suc at - 1 = omega arith in
    subst (λ (n : ℕ). extent_of (drop n dims) (drop n slabs)
    ≡ extent_before (get_or dims n d).size (get_or slabs n s) (extent_of (drop (suc at) dims) (drop (suc at) slabs)))
    same (ap₂ extent_of (drop-cons dims at d long) (drop-cons slabs at s within))

abbrev pub sizes_of : List Dim → List ℕ
sizes_of dims = map (λ (dim : Dim). dim.size) dims

-- no dimension is empty
abbrev pub HaveSizes : List Dim → Type 0
HaveSizes dims = All (λ (dim : Dim). 1 ≤ dim.size) dims

pub fits-drop : (dims : List Dim) (slabs : List Slab) (at : ℕ) → AllZip FitsDim dims slabs
    → AllZip FitsDim (drop at dims) (drop at slabs)
fits-drop dims slabs zero fits = fits
fits-drop [] [] (suc at) fits = tt
fits-drop [] (slab ∷ slabs) (suc at) fits = absurd fits
fits-drop (dim ∷ dims) [] (suc at) fits = absurd fits
fits-drop (dim ∷ dims) (slab ∷ slabs) (suc at) fits = fits-drop dims slabs at fits.1

-- a slab picks at most as many indices as a dimension has within which it lies
pub count_within : (size : ℕ) (slab : Slab) → HasStride slab → (slab.start ≤ slab.stop → slab.stop < size)
    → slab_count slab ≤ size
count_within size slab stride within = elim (count_cases slab) [
  | inl t ↦
      let least = le-mul_of_pos_right ((slab.stop - slab.start) / slab.stride) stride in
      let split = div-mul-le_self (slab.stop - slab.start) slab.stride in
      let last = within t.0 in
      omega (arith, t.1)
  | inr f ↦ omega (arith, f.1)
]

-- the slabs from a dimension on pick at most as many index lists as the dimensions have from there on
pub count-most : (dims : List Dim) (slabs : List Slab) → AllZip FitsDim dims slabs
    → (extent_of dims slabs).count ≤ product (sizes_of dims)
unfolding extent_of product slab_count
count-most [] slabs fits = omega arith
count-most (dim ∷ dims) [] fits = absurd fits
count-most (dim ∷ dims) (slab ∷ slabs) fits =
    mul-le _ _ _ _ (count_within dim.size slab fits.0.stride fits.0.within) (count-most dims slabs fits.1)

-- what is left of the dimensions has at most as many index lists as all
pub product-drop : (dims : List Dim) (at : ℕ) → HaveSizes dims
    → product (sizes_of (drop at dims)) ≤ product (sizes_of dims)
unfolding product
product-drop dims zero sizes = omega arith
product-drop [] (suc at) sizes = omega arith
product-drop (dim ∷ dims) (suc at) sizes =
    let tail = All-tail (λ (d : Dim). 1 ≤ d.size) dim dims sizes in
    let rest = product-drop dims at tail in
    let least = mul-le-mul_right (product (sizes_of dims)) (sizes 0 dim (omega arith)) in
    omega (arith, rest, least)

-- a dimension times what the slabs after it pick is no more than all dimensions have
pub extent-fits : (dims : List Dim) (slabs : List Slab) (at : ℕ) (d : Dim) → AllZip FitsDim dims slabs
    → HaveSizes dims → 0 < at → at ≤ length slabs
    → (get_or dims (at - 1) d).size * (extent_of (drop at dims) (drop at slabs)).count ≤ product (sizes_of dims)
unfolding product
extent-fits dims slabs zero d fits sizes some within = absurd (omega arith)
extent-fits dims slabs (suc at) d fits sizes some within =
    let long : at < length dims = subst (λ (n : ℕ). at < n) (as_many dims slabs fits) within in
    let most = count-most (drop (suc at) dims) (drop (suc at) slabs) (fits-drop dims slabs (suc at) fits) in
    let whole : product (sizes_of (drop at dims))
    ≡ (get_or dims at d).size * product (sizes_of (drop (suc at) dims)) =
    ap (λ (ds : List Dim). product (sizes_of ds)) (drop-cons dims at d long) in
    let all = product-drop dims at sizes in
    let bound = mul-le-mul_left (get_or dims at d).size most in
    let same : at ≡ suc at - 1 = omega arith in
    subst (λ (n : ℕ). (get_or dims n d).size * (extent_of (drop (suc at) dims) (drop (suc at) slabs)).count
    ≤ product (sizes_of dims)) same (omega (arith, whole, all, bound))

-- the size of an extent is how many elements the dimensions have
pub extent-size : (dims : List Dim) (slabs : List Slab) → AllZip FitsDim dims slabs
    → (extent_of dims slabs).size ≡ product (sizes_of dims)
unfolding extent_of product
extent-size [] [] fits = refl
extent-size [] (slab ∷ slabs) fits = absurd fits
extent-size (dim ∷ dims) [] fits = absurd fits
extent-size (dim ∷ dims) (slab ∷ slabs) fits = ap (λ (n : ℕ). dim.size * n) (extent-size dims slabs fits.1)

-- a dimension times what those after it have is no more than all dimensions have
pub size-fits : (dims : List Dim) (slabs : List Slab) (at : ℕ) (d : Dim) → AllZip FitsDim dims slabs
    → HaveSizes dims → 0 < at → at ≤ length slabs
    → (get_or dims (at - 1) d).size * (extent_of (drop at dims) (drop at slabs)).size ≤ product (sizes_of dims)
unfolding product
size-fits dims slabs zero d fits sizes some within = absurd (omega arith)
size-fits dims slabs (suc at) d fits sizes some within =
    let long : at < length dims = subst (λ (n : ℕ). at < n) (as_many dims slabs fits) within in
    let size = extent-size (drop (suc at) dims) (drop (suc at) slabs) (fits-drop dims slabs (suc at) fits) in
    let whole : product (sizes_of (drop at dims))
    ≡ (get_or dims at d).size * product (sizes_of (drop (suc at) dims)) =
    ap (λ (ds : List Dim). product (sizes_of ds)) (drop-cons dims at d long) in
    let all = product-drop dims at sizes in
    let same : at ≡ suc at - 1 = omega arith in
    subst (λ (n : ℕ). (get_or dims n d).size * (extent_of (drop (suc at) dims) (drop (suc at) slabs)).size
    ≤ product (sizes_of dims)) same
    (omega (arith, whole, all, ap (λ (n : ℕ). (get_or dims at d).size * n) size))

-- a slab that picks more than one index of a dimension has a stride below its size
pub stride_within : (size : ℕ) (slab : Slab) → HasStride slab → (slab.start ≤ slab.stop → slab.stop < size)
    → 1 < slab_count slab → slab.stride ≤ size
stride_within size slab stride within many = elim (count_cases slab) [
  | inl t ↦
      let one : 1 ≤ (slab.stop - slab.start) / slab.stride = omega (arith, many, t.1) in
      let least : 1 * slab.stride ≤ (slab.stop - slab.start) / slab.stride * slab.stride =
      mul-le-mul_right slab.stride one in
      let split = div-mul-le_self (slab.stop - slab.start) slab.stride in
      let last = within t.0 in
      omega (arith, least, split, last)
  | inr f ↦ absurd (omega (arith, many, f.1))
]

pub ruleset extents = (as_many, fits-at, extent_of-past, extent_of-before, extent-fits, size-fits)
