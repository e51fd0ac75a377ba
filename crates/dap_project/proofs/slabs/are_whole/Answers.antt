-- A slab more is that of its whole dimension.
use Rattle.std.proofs.Common.{arith, get_or, ◌∙◌}
use Rattle.dap_model.specs.declared.projection.Slab.{Slab}
use Rattle.dap_project.proofs.WholeLemmas.{other_count, other_here, same_whole, whole_end, whole_here}
use Rattle.dap_project.proofs.slabs.are_whole.Goals as goal

pub returns-then-slabs-dims : goal.returns-then-slabs-dims
returns-then-slabs-dims c =
    other_count c.args.dims.now c.args.slabs.now (λ same. omega (arith, same, c.if-slabs-dims.true))

-- a slab that isn't there
abbrev no_slab : Slab
no_slab = record { start = 0; stride = 0; stop = 0 }

pub returns-then-not-is_same : goal.returns-then-not-is_same
returns-then-not-is_same c =
    other_here c.args.dims.now c.args.slabs.now c.loop-at.at c.index-dims-at.result no_slab
    (omega (arith, c.loop-at-test.true)) (omega (arith, c.loop-at-test.true, c.if-slabs-dims.false)) c.index-dims-at.is
    (same_whole (get_or c.args.slabs.now c.loop-at.at no_slab) c.index-dims-at.result _ c.whole_slab.result
    c.is_same.result c.whole_slab.ensures c.index-dims-at.is c.is_same.ensures ∙ c.if-not-is_same.true)
    ∙ c.loop-at.invariant

pub loop-at-preserved : goal.loop-at-preserved
loop-at-preserved c =
    whole_here c.args.dims.now c.args.slabs.now c.loop-at.at c.index-dims-at.result no_slab
    (omega (arith, c.loop-at-test.true)) (omega (arith, c.loop-at-test.true, c.if-slabs-dims.false)) c.index-dims-at.is
    (same_whole (get_or c.args.slabs.now c.loop-at.at no_slab) c.index-dims-at.result _ c.whole_slab.result
    c.is_same.result c.whole_slab.ensures c.index-dims-at.is c.is_same.ensures ∙ c.if-not-is_same.false)
    ∙ c.loop-at.invariant

pub returns : goal.returns
returns c =
    whole_end c.args.dims.now c.args.slabs.now c.loop-at.at (omega (arith, c.loop-at-test.false))
    (omega (arith, c.loop-at-test.false, c.if-slabs-dims.false))
    ∙ c.loop-at.invariant
