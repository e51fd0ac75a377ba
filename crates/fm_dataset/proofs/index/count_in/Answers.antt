use Rattle.std.proofs.Common.{arith}
use Rattle.fm_dataset.specs.Kept.{length_at}
use Rattle.nc_layout.proofs.ProductLemmas.{product_more}
use Rattle.fm_dataset.proofs.CountLemmas.{product_so_far}
use Rattle.fm_dataset.proofs.index.count_in.Goals as goal

pub overflow_mul-count : goal.overflow_mul-count
overflow_mul-count c =
    let fits = product_so_far (length_at c.args.proto.now) c.loop-id.count c.length_at-count.result _ c.loop-id.id-index
    c.args.ids.now c.requires.some c.loop-id-test.true c.length_at-count.ensures c.loop-id.invariant in
    omega (arith, fits, c.requires.most, c.ranges.most.fits)

pub loop-id-preserved : goal.loop-id-preserved
loop-id-preserved c =
    product_more (length_at c.args.proto.now) c.loop-id.count c.length_at-count.result _ c.args.ids.now
    c.loop-id.id-index c.loop-id-test.true c.length_at-count.ensures c.loop-id.invariant
