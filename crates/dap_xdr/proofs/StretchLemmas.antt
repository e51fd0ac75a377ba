-- Numbers that slabs pick one after the other and that the array has one after the other.
use Rattle.std.proofs.Common.{◌≡◌, ℕ, suc, ◌+◌, ◌-◌, ◌*◌, ◌/◌, ◌%◌, ◌<◌, ◌≤◌, List, [], ◌∷◌, Bool, true, false, ◌==◌, ◌&&◌, inl, inr, refl, sym, ap, ap₂, subst, ◌∙◌, arith}
use Rattle.std.specs.List.{AllZip}
use Rattle.std.proofs.Math.Nat.{div-lt_iff_lt-mul, div-one, mul-add-mod_self_right, mul-le-mul_right, mul_assoc}
use Rattle.std.proofs.lemmas.Bool.{and_parts, cond-true, cond-false, eqb-true}
use Rattle.std.proofs.lemmas.Nat.{div-add-mod'}
use Rattle.nc_model.specs.Layout.{product, rank_in}
use Rattle.nc_model.specs.declared.header.Dim.{Dim}
use Rattle.dap_model.specs.declared.projection.Slab.{Slab}
use Rattle.dap_model.specs.Box.{box_len, index_at, slab_count, slab_index}
use Rattle.dap_model.specs.ProjectionFacts.{FitsDim}
use Rattle.dap_model.proofs.BoxLemmas.{index_at-cons, split_of}
use Rattle.dap_model.proofs.SlabLemmas.{count_cases}
use Rattle.dap_xdr.specs.Stretch.{extent_of, is_whole}
use Rattle.dap_xdr.proofs.ExtentLemmas.{sizes_of}

-- the count of an extent is that of the box
pub extent-count : (dims : List Dim) (slabs : List Slab) → AllZip FitsDim dims slabs
    → (extent_of dims slabs).count ≡ box_len slabs
unfolding extent_of box_len product
extent-count [] [] fits = refl
extent-count [] (slab ∷ slabs) fits = absurd fits
extent-count (dim ∷ dims) [] fits = absurd fits
extent-count (dim ∷ dims) (slab ∷ slabs) fits = ap (λ (n : ℕ). slab_count slab * n) (extent-count dims slabs fits.1)

-- a whole slab has each index of its dimension, as many strides past its start
record Whole (size : ℕ) (slab : Slab) : Type 0 where
  count_is : slab_count slab ≡ size
  index_is : (strides : ℕ) → slab_index slab strides ≡ strides

whole_of : (size : ℕ) (slab : Slab) → is_whole size slab ≡ true → Whole size slab
unfolding is_whole
whole_of size slab whole =
    let first = and_parts (slab.start == 0 && slab.stride == 1) (slab.stop + 1 == size) whole in
    let both = and_parts (slab.start == 0) (slab.stride == 1) first.0 in
    let start = eqb-true slab.start 0 both.0 in
    let stride = eqb-true slab.stride 1 both.1 in
    let stop = eqb-true (slab.stop + 1) size first.1 in
    let one : (slab.stop - slab.start) / slab.stride ≡ slab.stop =
    ap₂ (λ (m n : ℕ). (slab.stop - m) / n) start stride
    ∙ ap (λ (m : ℕ). m / 1) (omega arith) ∙ div-one slab.stop in
    record {
      count_is = elim (count_cases slab) [
        | inl t ↦ omega (arith, t.1, one, stop)
        | inr f ↦ absurd (omega (arith, f.0, start))
      ];
      index_is = λ strides. ap₂ (λ (m n : ℕ). m + strides * n) start stride ∙ omega arith;
    }

-- whole slabs pick as many index lists as the dimensions have, in the same order
record AllWhole (dims : List Dim) (slabs : List Slab) : Type 0 where
  count_is : box_len slabs ≡ product (sizes_of dims)
  rank_is : (element : ℕ) → element < box_len slabs → rank_in (sizes_of dims) (index_at slabs element) ≡ element

all_whole : (dims : List Dim) (slabs : List Slab) → AllZip FitsDim dims slabs → (extent_of dims slabs).whole ≡ true
    → AllWhole dims slabs
unfolding extent_of box_len product rank_in index_at
all_whole [] [] fits whole = record {
  count_is = refl;
  rank_is = λ element within. omega (arith, within);
}
all_whole [] (slab ∷ slabs) fits whole = absurd fits
all_whole (dim ∷ dims) [] fits whole = absurd fits
all_whole (dim ∷ dims) (slab ∷ slabs) fits whole =
    let both = and_parts (is_whole dim.size slab) (extent_of dims slabs).whole whole in
    let one = whole_of dim.size slab both.0 in
    let others = all_whole dims slabs fits.1 both.1 in
    record {
      count_is = ap₂ (λ (m n : ℕ). m * n) one.count_is others.count_is;
      rank_is = λ element within.
          let width = box_len slabs in
          let split = split_of (slab_count slab) width element within in
          ap₂ (λ (m n : ℕ). m * n + rank_in (sizes_of dims) (index_at slabs (element % width)))
          (one.index_is (element / width)) (sym others.count_is)
          ∙ ap (λ (n : ℕ). element / width * width + n) (others.rank_is (element % width) split.second)
          ∙ split.whole;
    }

-- in each turn of `unit` elements the array has the numbers one after the other
pub record Stretch (unit : ℕ) (dims : List Dim) (slabs : List Slab) : Type 0 where
  pub times : ℕ
  pub turns : box_len slabs ≡ times * unit
  pub follows : (element more : ℕ) → element < box_len slabs → more < unit - element % unit
      → rank_in (sizes_of dims) (index_at slabs (element + more))
      ≡ rank_in (sizes_of dims) (index_at slabs element) + more

-- what is left of a turn stays within the turns
pub within_turns : (times unit element more : ℕ) → element < times * unit → more < unit - element % unit
    → element + more < times * unit
within_turns times unit element more below short =
    let some : 0 < unit = omega (arith, short) in
    let split = div-add-mod' element unit in
    let turn : element / unit < times = (div-lt_iff_lt-mul {k = unit} {x = element} {y = times} some).1 below in
    let least : suc (element / unit) * unit ≤ times * unit = mul-le-mul_right unit turn in
    omega (arith, split, least)

-- a slab with stride 1 before whole ones
together : (dim : Dim) (dims : List Dim) (slab : Slab) (slabs : List Slab) → slab.stride ≡ 1 → AllWhole dims slabs
    → (element : ℕ) → element < box_len (slab ∷ slabs)
    → rank_in (sizes_of (dim ∷ dims)) (index_at (slab ∷ slabs) element) ≡ slab.start * box_len slabs + element
unfolding box_len product rank_in index_at
together dim dims slab slabs one whole element within =
    let width = box_len slabs in
    let split = split_of (slab_count slab) width element within in
    ap₂ (λ (m n : ℕ).
    (slab.start + element / width * m) * n + rank_in (sizes_of dims) (index_at slabs (element % width)))
    one (sym whole.count_is)
    ∙ ap (λ (n : ℕ). (slab.start + element / width * 1) * width + n) (whole.rank_is (element % width) split.second)
    ∙ grind (arith, split.whole)

stretch_together : (dim : Dim) (dims : List Dim) (slab : Slab) (slabs : List Slab) → slab.stride ≡ 1
    → AllWhole dims slabs → Stretch (box_len (slab ∷ slabs)) (dim ∷ dims) (slab ∷ slabs)
stretch_together dim dims slab slabs one whole = record {
  times = 1;
  turns = omega arith;
  follows = λ element more within short.
      let all = box_len (slab ∷ slabs) in
      let far = within_turns 1 all element more (omega (arith, within)) short in
      let first = together dim dims slab slabs one whole element within in
      let last = together dim dims slab slabs one whole (element + more) (omega (arith, far)) in
      omega (arith, first, last);
}

stretch_apart : (unit : ℕ) (dim : Dim) (dims : List Dim) (slab : Slab) (slabs : List Slab) → Stretch unit dims slabs
    → Stretch unit (dim ∷ dims) (slab ∷ slabs)
unfolding box_len product rank_in index_at
stretch_apart unit dim dims slab slabs others = record {
  times = slab_count slab * others.times;
  turns = ap (λ (n : ℕ). slab_count slab * n) others.turns ∙ sym (mul_assoc (slab_count slab) others.times unit);
  follows = λ element more within short.
      let width = box_len slabs in
      let split = split_of (slab_count slab) width element within in
      let q = element / width in
      let r = element % width in
      let spread : element ≡ q * others.times * unit + r =
      sym split.whole ∙ ap (λ (n : ℕ). q * n + r) others.turns
      ∙ ap (λ (n : ℕ). n + r) (sym (mul_assoc q others.times unit)) in
      let same : element % unit ≡ r % unit =
      ap (λ (n : ℕ). n % unit) spread ∙ mul-add-mod_self_right (q * others.times) unit r in
      let close : more < unit - r % unit = subst (λ (n : ℕ). more < unit - n) same short in
      let far : r + more < width = subst (λ (n : ℕ). r + more < n) (sym others.turns)
      (within_turns others.times unit r more (subst (λ (n : ℕ). r < n) others.turns split.second) close) in
      let to : element + more ≡ q * width + (r + more) = omega (arith, split.whole) in
      ap (λ (n : ℕ). rank_in (sizes_of (dim ∷ dims)) (index_at (slab ∷ slabs) n)) to
      ∙ ap (rank_in (sizes_of (dim ∷ dims))) (index_at-cons slab slabs q (r + more) far)
      ∙ ap (λ (n : ℕ). slab_index slab q * product (sizes_of dims) + n) (others.follows r more split.second close)
      ∙ omega arith;
}

pub stretch_of : (dims : List Dim) (slabs : List Slab) → AllZip FitsDim dims slabs
    → Stretch (extent_of dims slabs).unit dims slabs
unfolding extent_of box_len product rank_in index_at
stretch_of [] [] fits = record {
  times = 1;
  turns = refl;
  follows = λ element more within short. omega (arith, short);
}
stretch_of [] (slab ∷ slabs) fits = absurd fits
stretch_of (dim ∷ dims) [] fits = absurd fits
stretch_of (dim ∷ dims) (slab ∷ slabs) fits = by_case (slab.stride == 1 && (extent_of dims slabs).whole) refl
    (stretch_of dims slabs fits.1)
  where
    by_case : (b : Bool) → (slab.stride == 1 && (extent_of dims slabs).whole) ≡ b → Stretch (extent_of dims
        slabs).unit dims slabs
        → Stretch (extent_of (dim ∷ dims) (slab ∷ slabs)).unit (dim ∷ dims) (slab ∷ slabs)
    by_case true is others =
        let both = and_parts (slab.stride == 1) (extent_of dims slabs).whole is in
        let unit : box_len (slab ∷ slabs) ≡ (extent_of (dim ∷ dims) (slab ∷ slabs)).unit =
        ap (λ (n : ℕ). slab_count slab * n) (sym (extent-count dims slabs fits.1)) ∙ sym (cond-true _ _ _ is) in
        subst (λ (n : ℕ). Stretch n (dim ∷ dims) (slab ∷ slabs)) unit
        (stretch_together dim dims slab slabs (eqb-true slab.stride 1 both.0) (all_whole dims slabs fits.1 both.1))
    by_case false is others =
        subst (λ (n : ℕ). Stretch n (dim ∷ dims) (slab ∷ slabs)) (sym (cond-false _ _ _ is))
        (stretch_apart (extent_of dims slabs).unit dim dims slab slabs others)
