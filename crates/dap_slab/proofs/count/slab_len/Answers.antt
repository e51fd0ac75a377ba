-- The count grows by each slab, and is never more than that of all.
use Rattle.std.proofs.Common.{◌*◌, ◌≡◌, ap, drop, arith}
use Rattle.std.proofs.lemmas.List.{drop_all}
use Rattle.nc_model.specs.Layout.{product}
use Rattle.dap_model.specs.Box.{box_len}
use Rattle.dap_slab.proofs.CountLemmas.{one_more}
use Rattle.dap_slab.proofs.count.slab_len.Goals as goal

pub overflow_mul-len : goal.overflow_mul-len
overflow_mul-len c =
    let more = one_more c.args.slabs.now c.loop-slab.len c.loop-slab.slab-index c.count-len.result c.requires.index
    c.loop-slab-test.true c.loop-slab.invariant c.count-len.ensures in
    omega (arith, more.most, c.requires.few)

pub loop-slab-preserved : goal.loop-slab-preserved
loop-slab-preserved c =
    (one_more c.args.slabs.now c.loop-slab.len c.loop-slab.slab-index c.count-len.result c.requires.index
    c.loop-slab-test.true c.loop-slab.invariant c.count-len.ensures).whole

pub returns : goal.returns
unfolding box_len product
returns c =
    let none = drop_all c.loop-slab.slab-index c.args.slabs.now c.loop-slab-test.false in
    let one : c.loop-slab.len * box_len (drop c.loop-slab.slab-index c.args.slabs.now) ≡ c.loop-slab.len * 1 =
    ap (λ l. c.loop-slab.len * box_len l) none in
    omega (arith, one, c.loop-slab.invariant)
