-- Slabs beside those of whole dimensions.
use Rattle.std.proofs.Common.{◌≡◌, ◌≢◌, ℕ, ◌+◌, ◌<◌, ◌≤◌, ◌&&◌, Bool, true, false, List, length, map, drop, get_or, sym, ap, ap₂, ◌∙◌}
use Rattle.std.proofs.lemmas.List.{drop_all, drop_more, length-map}
use Rattle.std.specs.Cmp.Lexicographic.{pointwise, unequal}
use Rattle.nc_model.specs.declared.header.Dim.{Dim}
use Rattle.dap_model.specs.Box.{whole_slab}
use Rattle.dap_model.specs.ClauseFaults.{is_same_slab}
use Rattle.dap_model.specs.Picking.{whole_slabs}
use Rattle.dap_model.specs.declared.projection.Slab.{Slab}
use Rattle.dap_project.proofs.StepLemmas.{left}

-- a test beside the slab of a whole dimension
pub same_whole : (slab : Slab) (dim other : Dim) (whole : Slab) (test : Bool) → whole ≡ whole_slab other.size
    → dim ≡ other → test ≡ is_same_slab slab whole → is_same_slab slab (whole_slab dim.size) ≡ test
same_whole slab dim other whole test is same tested =
    ap (λ (d : Dim). is_same_slab slab (whole_slab d.size)) same ∙ ap (is_same_slab slab) (sym is) ∙ sym tested

here : (dims : List Dim) (slabs : List Slab) (at : ℕ) (dim : Dim) (d : Slab) → at < length dims → at < length slabs
    → dim ≡ get_or dims at dim
    → pointwise is_same_slab (drop at slabs) (whole_slabs (drop at dims))
    ≡ (is_same_slab (get_or slabs at d) (whole_slab dim.size)
    && pointwise is_same_slab (drop (at + 1) slabs) (whole_slabs (drop (at + 1) dims)))
unfolding whole_slabs
here dims slabs at dim d within there is_dim =
    ap₂ (λ (s : List Slab) (l : List Dim). pointwise is_same_slab s (whole_slabs l)) (drop_more slabs at d there)
    (left dims at dim within is_dim)

-- a slab of a whole dimension leaves those after it
pub whole_here : (dims : List Dim) (slabs : List Slab) (at : ℕ) (dim : Dim) (d : Slab) → at < length dims
    → at < length slabs → dim ≡ get_or dims at dim
    → is_same_slab (get_or slabs at d) (whole_slab dim.size) ≡ true
    → pointwise is_same_slab (drop (at + 1) slabs) (whole_slabs (drop (at + 1) dims))
    ≡ pointwise is_same_slab (drop at slabs) (whole_slabs (drop at dims))
whole_here dims slabs at dim d within there is_dim same =
    let rest = pointwise is_same_slab (drop (at + 1) slabs) (whole_slabs (drop (at + 1) dims)) in
    sym (here dims slabs at dim d within there is_dim ∙ ap (λ (b : Bool). b && rest) same)

-- another slab decides
pub other_here : (dims : List Dim) (slabs : List Slab) (at : ℕ) (dim : Dim) (d : Slab) → at < length dims
    → at < length slabs → dim ≡ get_or dims at dim
    → is_same_slab (get_or slabs at d) (whole_slab dim.size) ≡ false
    → false ≡ pointwise is_same_slab (drop at slabs) (whole_slabs (drop at dims))
other_here dims slabs at dim d within there is_dim other =
    let rest = pointwise is_same_slab (drop (at + 1) slabs) (whole_slabs (drop (at + 1) dims)) in
    sym (here dims slabs at dim d within there is_dim ∙ ap (λ (b : Bool). b && rest) other)

pub whole_end : (dims : List Dim) (slabs : List Slab) (at : ℕ) → length dims ≤ at → length slabs ≤ at
    → true ≡ pointwise is_same_slab (drop at slabs) (whole_slabs (drop at dims))
unfolding whole_slabs
whole_end dims slabs at past behind =
    sym (ap₂ (λ (s : List Slab) (d : List Dim). pointwise is_same_slab s (whole_slabs d)) (drop_all at slabs behind)
    (drop_all at dims past))

-- slabs of another number are not those of whole dimensions
pub other_count : (dims : List Dim) (slabs : List Slab) → length slabs ≢ length dims
    → false ≡ pointwise is_same_slab slabs (whole_slabs dims)
unfolding whole_slabs
other_count dims slabs differ = sym (unequal is_same_slab slabs (map (λ (d : Dim). whole_slab d.size) dims)
    (λ same. differ (same ∙ length-map dims (λ (d : Dim). whole_slab d.size))))
