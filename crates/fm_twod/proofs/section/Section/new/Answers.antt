-- The slabs that fit the array pick as many values as are counted.
use Rattle.std.proofs.Common.{◌≤◌, ◌<◌, ◌^◌, ◌∙◌, List, All, map, sym, ap, subst}
use Rattle.std.proofs.Math.Path.{subst₂}
use Rattle.std.specs.List.{AllZip}
use Rattle.nc_model.specs.declared.header.Dim.{Dim}
use Rattle.nc_model.specs.Layout.{product}
use Rattle.dap_model.specs.declared.projection.Slab.{Slab}
use Rattle.dap_model.specs.Box.{box_len}
use Rattle.dap_model.specs.ProjectionFacts.{FitsDim}
use Rattle.fm_twod.proofs.ChosenLemmas.{data-of}
use Rattle.fm_twod.proofs.section.Section.new.Goals as goal

pub count_of-count-requires-clause-fits : goal.count_of-count-requires-clause-fits
count_of-count-requires-clause-fits c =
    subst₂ (λ (dims : List Dim) (slabs : List Slab). AllZip FitsDim dims slabs) (sym c.as_slice.ensures)
    (sym c.slabs.ensures) c.array_of-array.ensures.fits

pub count_of-count-requires-clause-sizes : goal.count_of-count-requires-clause-sizes
count_of-count-requires-clause-sizes c =
    subst (λ (dims : List Dim). All (λ (dim : Dim). 1 ≤ dim.size) dims) (sym c.as_slice.ensures)
    c.array_of-array.ensures.small.sizes

pub count_of-count-requires-clause-few : goal.count_of-count-requires-clause-few
count_of-count-requires-clause-few c =
    subst (λ (dims : List Dim). product (map (λ (dim : Dim). dim.size) dims) < 2 ^ 64) (sym c.as_slice.ensures)
    c.array_of-array.ensures.small.few

pub invariant_of-result : goal.invariant_of-result
invariant_of-result c =
    (c.array_of-array.ensures, c.count_of-count.ensures ∙ ap box_len c.slabs.ensures)

pub returns-clause-chosen : goal.returns-clause-chosen
returns-clause-chosen c = c.array_of-array.ensures

pub returns-clause-data : goal.returns-clause-data
returns-clause-data c = data-of _ c.array_of-array.ensures
