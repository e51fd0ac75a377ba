-- A dimension more is written; after the last slab or the last dimension nothing is left.
use Rattle.std.proofs.Common.{List, ℕ, ◌+◌, ◌++◌, ap, ap₂, arith, drop, map, sym, ◌∙◌}
use Rattle.std.specs.List.{zip}
use Rattle.dap_model.specs.Projection.{cut_dim}
use Rattle.dap_model.specs.StructureText.{dim_text, dims_text}
use Rattle.dap_project.proofs.TextLemmas.{dims_end, dims_past, dims_step}
use Rattle.dap_project.proofs.text.put_cut_dims.Goals as goal

pub loop-at-preserved : goal.loop-at-preserved
loop-at-preserved c =
    let at = c.loop-at.at in
    let dims = c.args.dims.now in
    let slabs = c.args.slabs.now in (
      ap (λ (l : List ℕ). l ++ dims_text (map cut_dim (zip (drop (at + 1) dims) (drop (at + 1) slabs))))
          (c.in_ok-put_dim.ensures.ok
          ∙ ap₂ (λ (name : List ℕ) (size : ℕ). c.loop-at.out ++ dim_text (record { name = name; size = size }))
          c.as_slice.ensures c.cut_size.ensures)
          ∙ sym (dims_step c.loop-at.out dims slabs at c.index-dims-at.result _ c.loop-at-test.true c.if-at-slabs.true
          c.index-dims-at.is)
          ∙ c.loop-at.invariant.0,
      omega (arith, c.loop-at-test.true),
    )

pub returns-else-at-slabs : goal.returns-else-at-slabs
returns-else-at-slabs c =
    dims_end c.loop-at.out _ c.args.dims.now c.args.slabs.now c.loop-at.at c.if-at-slabs.false c.loop-at.invariant.0

pub returns-after-loop-at : goal.returns-after-loop-at
returns-after-loop-at c =
    dims_past c.loop-at.out _ c.args.dims.now c.args.slabs.now c.loop-at.at c.loop-at-test.false
    c.loop-at.invariant.0
