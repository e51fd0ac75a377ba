-- The slabs of what is sent can be cut from the dimensions of its array.
use Rattle.std.proofs.Common.{◌≡◌, ℕ, zero, suc, ◌^◌, ◌<◌, ◌≤◌, List, [], ◌∷◌, map, slice_get, All, Some, inl, subst, arith}
use Rattle.std.specs.List.{AllZip}
use Rattle.std.proofs.Math.Nat.{mul-le-mul_left, mul-le-mul_right}
use Rattle.std.proofs.lemmas.List.Elements.{All-tail}
use Rattle.std.proofs.lemmas.Nat.{mul-le}
use Rattle.std.proofs.lemmas.Option.{none-some, same_Some}
use Rattle.nc_model.specs.declared.header.Dim.{Dim}
use Rattle.nc_model.specs.Layout.{product}
use Rattle.dap_model.specs.declared.declaration.Array.{Array}
use Rattle.dap_model.specs.declared.projection.Sent.{Sent}
use Rattle.dap_model.specs.declared.projection.Slab.{Slab}
use Rattle.dap_model.specs.ProjectionFacts.{FitsDim}
use Rattle.dap_project.specs.Checks.{AreCuts, IsCountable, IsCut}
use Rattle.dap_slab.specs.Walking.{HasIndex}
use Rattle.fm_dataset.specs.Values.{Shown}
use Rattle.dap_xdr.proofs.ExtentLemmas.{HaveSizes}
use Rattle.nc_writer.specs.Facts.{IsSentPart}

-- how many elements dimensions have
abbrev elements : List Dim → ℕ
elements dims = product (map (λ (dim : Dim). dim.size) dims)

some-elements : (dims : List Dim) → HaveSizes dims → 1 ≤ elements dims
unfolding product
some-elements [] sizes = omega arith
some-elements (dim ∷ dims) sizes =
    let first : 1 ≤ dim.size = sizes 0 dim (omega arith) in
    let rest = some-elements dims (All-tail (λ (d : Dim). 1 ≤ d.size) dim dims sizes) in
    omega (arith, mul-le 1 1 dim.size (elements dims) first rest)

-- a slab that can be cut, and others
cut-first : (first : Dim) (dims : List Dim) (slab : Slab) (slabs : List Slab) → IsCountable slab → AreCuts dims slabs
    → (index : ℕ) (dim : Dim) (other : Slab) → slice_get (first ∷ dims) index ≡ Some dim
    → slice_get (slab ∷ slabs) index ≡ Some other → IsCut dim.size other
cut-first first dims slab slabs countable more zero dim other dim_is slab_is =
    inl (subst IsCountable (same_Some slab other slab_is) countable)
cut-first first dims slab slabs countable more (suc index) dim other dim_is slab_is =
    more index dim other dim_is slab_is

cuts-of : (dims : List Dim) (slabs : List Slab) → AllZip FitsDim dims slabs → All HasIndex slabs → HaveSizes dims
    → elements dims < 2 ^ 64 → AreCuts dims slabs
unfolding product
cuts-of [] slabs fits some sizes few = λ index dim slab dim_is slab_is. absurd (none-some dim dim_is)
cuts-of (first ∷ dims) [] fits some sizes few = absurd fits
cuts-of (first ∷ dims) (slab ∷ slabs) fits some sizes few =
    let others = All-tail (λ (d : Dim). 1 ≤ d.size) first dims sizes in
    let first_some : 1 ≤ first.size = sizes 0 first (omega arith) in
    let within = fits.0.within (some 0 slab (omega arith)).ordered in
    let least = mul-le-mul_left first.size (some-elements dims others) in
    let most = mul-le-mul_right (elements dims) first_some in
    cut-first first dims slab slabs
    (record { stride = fits.0.stride; few = omega (arith, within, least, few) })
    (cuts-of dims slabs fits.1 (All-tail HasIndex slab slabs some) others (omega (arith, most, few)))

pub part-cuts : (shown : Shown) (sent : Sent) (array : Array) → IsSentPart shown sent array
    → AreCuts array.dims sent.slabs
part-cuts shown sent array part =
    cuts-of array.dims sent.slabs part.portion.fits part.some part.portion.small.sizes part.portion.small.few

pub ruleset cuts = (part-cuts)
