use Rattle.std.proofs.Common.{◌*◌, ◌+◌, ◌^◌, ◌≤◌, ◌∙◌, Some, ap, subst}
use Rattle.std.proofs.lemmas.Bool.{cond_above, cond_below}
use Rattle.nc_model.specs.Layout.{size_at, vsize}
use Rattle.nc_layout.proofs.ProductLemmas.{product_all, product_more, product_over}
use Rattle.nc_layout.proofs.vsizes.checked_vsize.Goals as goal

pub returns-then-vsize-gt-MOST : goal.returns-then-vsize-gt-MOST
returns-then-vsize-gt-MOST c =
    let size = size_at c.args.header.now in
    let n = c.from-vsize-in-loop-id.result in
    let ids = c.fixed_dims-id-items.result.now in
    let whole = vsize c.args.header.now c.args.var.now in
    let more = product_more size c.loop-id.vsize n whole ids c.loop-id.id-index c.loop-id-test.true
    (c.from-vsize-in-loop-id.ensures ∙ c.size_at.ensures) c.loop-id.invariant.1 in
    let lengths = rw (← c.fixed_dims-id-items.ensures) at c.requires in
    cond_below _ _ _ _
    (product_over size (2 ^ 40) (c.loop-id.vsize * n) whole ids
    (c.loop-id.id-index + 1) lengths c.if-vsize-gt-MOST.true more)

pub loop-id-preserved : goal.loop-id-preserved
loop-id-preserved c =
    let n = c.from-vsize-in-loop-id.result in
    let more = product_more (size_at c.args.header.now) c.loop-id.vsize n (vsize c.args.header.now c.args.var.now)
    c.fixed_dims-id-items.result.now c.loop-id.id-index c.loop-id-test.true
    (c.from-vsize-in-loop-id.ensures ∙ c.size_at.ensures) c.loop-id.invariant.1 in
    (c.if-vsize-gt-MOST.false, more)

pub returns : goal.returns
returns c =
    let all = product_all (size_at c.args.header.now) c.loop-id.vsize (vsize c.args.header.now c.args.var.now)
    c.fixed_dims-id-items.result.now c.loop-id.id-index c.loop-id-test.false c.loop-id.invariant.1 in
    cond_above (2 ^ 40) (vsize c.args.header.now c.args.var.now) _ _ _
    (subst (λ n. n ≤ 2 ^ 40) all c.loop-id.invariant.0) (ap Some all)
