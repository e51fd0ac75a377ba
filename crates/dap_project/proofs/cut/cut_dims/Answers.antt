-- A dimension more is cut; after the last slab or the last dimension nothing is left.
use Rattle.std.proofs.Common.{◌+◌, ◌++◌, ◌∷◌, [], List, ap, arith, drop, map, sym, ◌∙◌}
use Rattle.std.specs.List.{zip}
use Rattle.nc_model.specs.declared.header.Dim.{Dim}
use Rattle.dap_model.specs.Projection.{cut_dim}
use Rattle.dap_project.proofs.StepLemmas.{zip_no_dims, zip_no_slabs, zip_step}
use Rattle.dap_project.proofs.cut.cut_dims.Goals as goal
use Rattle.dap_project.proofs.cut.cut_dims.Goals.{then-loop-at-test+else-at-slabs, else-loop-at-test}

pub returns : goal.returns
returns c = elim c.loop-at-test.branch [
  | then-loop-at-test+else-at-slabs w ↦
      zip_no_slabs _ _ c.args.dims.now c.args.slabs.now c.loop-at.at (omega (arith, w.if-at-slabs.false))
      c.loop-at.invariant.0
  | else-loop-at-test w ↦
      zip_no_dims _ _ c.args.dims.now c.args.slabs.now c.loop-at.at (omega (arith, w.loop-at-test.false))
      c.loop-at.invariant.0
]

pub loop-at-preserved : goal.loop-at-preserved
loop-at-preserved c =
    let at = c.loop-at.at in
    let dims = c.args.dims.now in
    let slabs = c.args.slabs.now in (
      ap (λ (l : List Dim). l ++ map cut_dim (zip (drop (at + 1) dims) (drop (at + 1) slabs)))
          (c.in_ok-push.ensures.ok ∙ ap (λ (d : Dim). c.loop-at.cut ++ d ∷ []) c.in_ok-cut_dim.ensures)
          ∙ sym (zip_step c.loop-at.cut dims slabs at c.index-dims-at.result _ c.loop-at-test.true c.if-at-slabs.true
          c.index-dims-at.is)
          ∙ c.loop-at.invariant.0,
      omega (arith, c.loop-at-test.true),
    )
