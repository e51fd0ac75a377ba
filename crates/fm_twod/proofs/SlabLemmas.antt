-- How many index lists slabs pick, one dimension more at a time.
use Rattle.std.proofs.Common.{◌≡◌, ℕ, zero, suc, ◌-◌, ◌*◌, ◌<◌, ◌≤◌, List, length, get_or, drop, ap, subst, arith}
use Rattle.std.specs.List.{AllZip}
use Rattle.std.proofs.Math.Seq.{drop-cons}
use Rattle.std.proofs.lemmas.List.{drop_all}
use Rattle.nc_model.specs.Layout.{product}
use Rattle.nc_model.specs.declared.header.Dim.{Dim}
use Rattle.dap_model.specs.declared.projection.Slab.{Slab}
use Rattle.dap_model.specs.Box.{box_len, slab_count}
use Rattle.dap_model.specs.ProjectionFacts.{FitsDim}
use Rattle.dap_xdr.proofs.ExtentLemmas.{extent-fits, fits-at, fits-drop, sizes_of, HaveSizes}
use Rattle.dap_xdr.proofs.FitLemmas.{as_many}
use Rattle.dap_xdr.proofs.StretchLemmas.{extent-count}

-- no slab picks one index list
pub box-past : (slabs : List Slab) (at : ℕ) → length slabs ≤ at → box_len (drop at slabs) ≡ 1
unfolding box_len product
box-past slabs at past = ap box_len (drop_all at slabs past)

-- one slab more
pub box-before : (slabs : List Slab) (at : ℕ) (s : Slab) → 0 < at → at ≤ length slabs
    → box_len (drop (at - 1) slabs) ≡ slab_count (get_or slabs (at - 1) s) * box_len (drop at slabs)
unfolding box_len product
box-before slabs zero s some within = absurd (omega (arith, some))
box-before slabs (suc at) s some within =
    let same : at ≡ suc at - 1 = omega arith in
    subst (λ (n : ℕ). box_len (drop n slabs) ≡ slab_count (get_or slabs n s) * box_len (drop (suc at) slabs)) same
    (ap box_len (drop-cons slabs at s within))

-- a dimension times what the slabs after it pick is no more than all dimensions have
pub box-fits : (dims : List Dim) (slabs : List Slab) (at : ℕ) (d : Dim) → AllZip FitsDim dims slabs
    → HaveSizes dims → 0 < at → at ≤ length slabs
    → (get_or dims (at - 1) d).size * box_len (drop at slabs) ≤ product (sizes_of dims)
box-fits dims slabs at d fits sizes some within =
    subst (λ (n : ℕ). (get_or dims (at - 1) d).size * n ≤ product (sizes_of dims))
    (extent-count (drop at dims) (drop at slabs) (fits-drop dims slabs at fits))
    (extent-fits dims slabs at d fits sizes some within)

pub ruleset counts = (as_many, fits-at, box-past, box-before, box-fits)
