-- What a source has one after the other is what slabs pick one after the other, as long as they stay together.
use Rattle.std.proofs.Common.{◌≡◌, ◌≢◌, ℕ, zero, suc, ◌+◌, ◌-◌, ◌%◌, ◌<◌, ◌≤◌, List, [], ◌∷◌, length, map, take, drop, slice_get, min, IsSomeAnd, Option, Some, refl, sym, ap, subst, ◌∙◌, arith}
use Rattle.std.specs.List.{AllZip}
use Rattle.std.proofs.Math.Path.{subst₂}
use Rattle.std.proofs.Math.Seq.{drop-cons}
use Rattle.std.proofs.lemmas.List.Elements.{All-nil}
use Rattle.std.proofs.lemmas.Option.{get_or_from_slice_get, slice_get_within}
use Rattle.nc_model.specs.Layout.{IsIndex, indices_of, rank_in}
use Rattle.nc_model.specs.declared.header.Dim.{Dim}
use Rattle.nc_layout.proofs.OrderLemmas.{slice_get-indices_of}
use Rattle.dap_model.specs.declared.projection.Slab.{Slab}
use Rattle.dap_model.specs.declared.declaration.Array.{Array}
use Rattle.dap_model.specs.declared.declaration.DapKind.{DapKind}
use Rattle.dap_model.specs.declared.declaration.DapKind.TheVariants.{Text}
use Rattle.dap_model.specs.Box.{box_len, box_of, index_at}
use Rattle.dap_model.specs.Xdr.{AreBitsOf}
use Rattle.dap_model.specs.ProjectionFacts.{FitsDim}
use Rattle.dap_model.proofs.BoxLemmas.{EachPicks-index_at, get_or-box_of, length-box_of, split_of}
use Rattle.dap_model.proofs.ProjectionFitLemmas.{picked_within}
use Rattle.fm_dataset.specs.Values.{HasNumberAt, HasTextAt}
use Rattle.dap_xdr.specs.Content.{array_in}
use Rattle.dap_xdr.specs.Datasets.{content_of}
use Rattle.dap_xdr.specs.Portion.{IsPortion, Portion}
use Rattle.dap_xdr.specs.declared.slabs.Extent.{Extent}
use Rattle.dap_xdr.specs.Stretch.{extent_of, left_at, AreBytesOf, AreStored, ArePicked}
use Rattle.dap_xdr.proofs.ExtentLemmas.{have_strides, sizes_of}
use Rattle.dap_xdr.proofs.StretchLemmas.{stretch_of, within_turns}

sized-index : (dims : List Dim) (index : List ℕ) → AllZip (λ (dim : Dim) (i : ℕ). i < dim.size) dims index
    → IsIndex (sizes_of dims) index
sized-index [] [] is = tt
sized-index [] (i ∷ index) is = absurd is
sized-index (dim ∷ dims) [] is = absurd is
sized-index (dim ∷ dims) (i ∷ index) is = (is.0, sized-index dims index is.1)

-- each index list that fitting slabs pick lies within the dimensions
pub index_at-within : (dims : List Dim) (slabs : List Slab) (element : ℕ) → AllZip FitsDim dims slabs
    → element < box_len slabs → IsIndex (sizes_of dims) (index_at slabs element)
index_at-within dims slabs element fits within =
    sized-index dims (index_at slabs element) (picked_within dims slabs (index_at slabs element) fits
    (EachPicks-index_at slabs element (have_strides dims slabs fits) within))

-- the list of all index lists, from the number of one of them on
drop-rank : (shape index : List ℕ) (rank : ℕ) → IsIndex shape index → rank_in shape index ≡ rank
    → drop rank (indices_of shape) ≡ index ∷ drop (suc rank) (indices_of shape)
drop-rank shape index rank is same =
    let at = subst (λ (n : ℕ). slice_get (indices_of shape) n ≡ Some index) same (slice_get-indices_of shape index is)
    in
    drop-cons (indices_of shape) rank [] (slice_get_within (indices_of shape) rank index at)
    ∙ ap (λ (i : List ℕ). i ∷ drop (suc rank) (indices_of shape))
    (get_or_from_slice_get (indices_of shape) rank index [] at)

-- the box, from an element on
pub drop-element : (slabs : List Slab) (element : ℕ) → element < box_len slabs
    → drop element (box_of slabs) ≡ index_at slabs element ∷ drop (suc element) (box_of slabs)
drop-element slabs element within =
    let long : element < length (box_of slabs) = subst (λ (n : ℕ). element < n) (sym (length-box_of slabs)) within in
    drop-cons (box_of slabs) element [] long
    ∙ ap (λ (i : List ℕ). i ∷ drop (suc element) (box_of slabs)) (get_or-box_of slabs element [] within)

-- the index list of an element has this number among all
pub record Stands (dims : List Dim) (slabs : List Slab) (element rank : ℕ) : Type 0 where
  pub within : element < box_len slabs
  pub rank_is : rank_in (sizes_of dims) (index_at slabs element) ≡ rank

pub follow : (count : ℕ) (dims : List Dim) (slabs : List Slab) (element rank : ℕ) → AllZip FitsDim dims slabs
    → ((more : ℕ) → more < count → Stands dims slabs (element + more) (rank + more))
    → take count (drop rank (indices_of (sizes_of dims))) ≡ take count (drop element (box_of slabs))
follow zero dims slabs element rank fits each = refl
follow (suc count) dims slabs element rank fits each =
    let now = each 0 (omega arith) in
    let here : element + 0 ≡ element = omega arith in
    let number : rank + 0 ≡ rank = omega arith in
    let within : element < box_len slabs = subst (λ (n : ℕ). n < box_len slabs) here now.within in
    let is : rank_in (sizes_of dims) (index_at slabs element) ≡ rank =
    ap (λ (n : ℕ). rank_in (sizes_of dims) (index_at slabs n)) (sym here) ∙ now.rank_is ∙ number in
    ap (take (suc count)) (drop-rank (sizes_of dims) (index_at slabs element) rank
    (index_at-within dims slabs element fits within) is)
    ∙ ap (λ (l : List (List ℕ)). index_at slabs element ∷ l) (follow count dims slabs (suc element) (suc rank) fits
    (λ more short. subst₂ (Stands dims slabs) (omega arith) (omega arith) (each (suc more) (omega (arith, short)))))
    ∙ ap (take (suc count)) (sym (drop-element slabs element within))

-- as many as are left of a turn follow each other in the array
pub stored-picked : (array : Array) (slabs : List Slab) (bits : List ℕ → ℕ) (element most : ℕ) (bytes : List ℕ)
    → AllZip FitsDim array.dims slabs → element < box_len slabs → most ≤ left_at array.dims slabs element
    → AreStored array bits (index_at slabs element) most bytes
    → ArePicked array.kind bits slabs element most bytes
stored-picked array slabs bits element most bytes fits within short stored =
    let unit = (extent_of array.dims slabs).unit in
    let stretch = stretch_of array.dims slabs fits in
    let rank = rank_in (sizes_of array.dims) (index_at slabs element) in
    let stands : (more : ℕ) → more < stored.count → Stands array.dims slabs (element + more) (rank + more) =
    λ more below. (
    let close : more < unit - element % unit = omega (arith, below, stored.few, short) in
    record {
      within = subst (λ (n : ℕ). element + more < n) (sym stretch.turns)
          (within_turns stretch.times unit element more (subst (λ (n : ℕ). element < n) stretch.turns within) close);
      rank_is = stretch.follows element more within close;
    }) in
    record {
      count = stored.count;
      few = stored.few;
      bytes_are = subst (λ (l : List (List ℕ)). AreBytesOf array.kind (map bits l) bytes)
          (follow stored.count array.dims slabs element rank fits stands) stored.bytes_are;
    }

-- some are left of a turn
pub record Left (unit element : ℕ) : Type 0 where
  pub some : 0 < unit
  pub below : element % unit < unit

pub left_of : (n : Portion) (extent : Extent) (element : ℕ) → IsPortion n
    → extent ≡ extent_of n.array.dims n.sent.slabs → element < box_len n.sent.slabs → Left extent.unit element
left_of n extent element numbered same within =
    let stretch = stretch_of n.array.dims n.sent.slabs numbered.fits in
    let split = split_of stretch.times (extent_of n.array.dims n.sent.slabs).unit element
    (subst (λ (m : ℕ). element < m) stretch.turns within) in
    subst (λ (e : Extent). Left e.unit element) (sym same)
    (record { some = omega (arith, split.second); below = split.second })

-- an element of an array that is sent, which is a number
pub has-number : (n : Portion) (element : ℕ) (index : List ℕ) → IsPortion n → n.array.kind ≢ Text
    → element < box_len n.sent.slabs → index ≡ index_at n.sent.slabs element
    → IsSomeAnd (array_in (content_of n.shown).decls n.sent.decl n.sent.part) (HasNumberAt index)
has-number n element index numbered number within same =
    subst (λ (found : Option Array). IsSomeAnd found (HasNumberAt index)) (sym numbered.part_is) (record {
      number = number;
      index_is = subst (IsIndex (sizes_of n.array.dims)) (sym same)
          (index_at-within n.array.dims n.sent.slabs element numbered.fits within);
    })

-- numbers of an array that is sent, no more than are left and than are asked for
pub raw-picked : (n : Portion) (bits : List ℕ → ℕ) (element least most : ℕ) (index bytes : List ℕ) → IsPortion n
    → element < box_len n.sent.slabs → index ≡ index_at n.sent.slabs element
    → least ≡ min most (left_at n.array.dims n.sent.slabs element)
    → AreStored n.array bits index least bytes
    → ArePicked n.array.kind bits n.sent.slabs element most bytes
raw-picked n bits element least most index bytes numbered within same short stored =
    let picked = stored-picked n.array n.sent.slabs bits element least bytes numbered.fits within (omega (arith, short))
    (subst (λ (i : List ℕ). AreStored n.array bits i least bytes) same stored) in
    record { count = picked.count; few = omega (arith, short, picked.few); bytes_are = picked.bytes_are }

-- an element of an array that is sent, which is a text
pub has-text : (n : Portion) (element : ℕ) (index : List ℕ) → IsPortion n → n.array.kind ≡ Text
    → element < box_len n.sent.slabs → index ≡ index_at n.sent.slabs element
    → IsSomeAnd (array_in (content_of n.shown).decls n.sent.decl n.sent.part) (HasTextAt index)
has-text n element index portion text within same =
    subst (λ (found : Option Array). IsSomeAnd found (HasTextAt index)) (sym portion.part_is) (record {
      text = text;
      index_is = subst (IsIndex (sizes_of n.array.dims)) (sym same)
          (index_at-within n.array.dims n.sent.slabs element portion.fits within);
    })

-- no bytes are those of no number
pub picked-none : {kind : DapKind} {bits : List ℕ → ℕ} {slabs : List Slab} {element most : ℕ}
    → ArePicked kind bits slabs element most []
picked-none {kind} =
    record { count = 0; few = omega arith; bytes_are = record { fit = All-nil (AreBitsOf kind); bytes_are = refl } }

pub ruleset none = (picked-none)
