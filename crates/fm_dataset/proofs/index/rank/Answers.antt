use Rattle.std.proofs.Common.{◌<◌, length, refl, arith}
use Rattle.fm_dataset.specs.Kept.{length_at}
use Rattle.nc_layout.proofs.RankLemmas.{rank_fits, rank_more, length-index_of_ids}
use Rattle.fm_dataset.proofs.index.rank.Goals as goal

pub overflow_mul-rank : goal.overflow_mul-rank
overflow_mul-rank c =
    let fits = rank_fits (length_at c.args.proto.now) c.loop-at.rank c.args.ids.now c.args.index.now c.loop-at.at
    c.requires.index c.loop-at-test.true c.length_at.ensures refl c.loop-at.invariant in
    omega (arith, fits, c.requires.most, c.ranges.most.fits)

pub overflow_add-rank : goal.overflow_add-rank
overflow_add-rank c =
    let fits = rank_fits (length_at c.args.proto.now) c.loop-at.rank c.args.ids.now c.args.index.now c.loop-at.at
    c.requires.index c.loop-at-test.true c.length_at.ensures refl c.loop-at.invariant in
    omega (arith, fits, c.requires.most, c.ranges.most.fits)

pub loop-at-preserved : goal.loop-at-preserved
loop-at-preserved c =
    let same = length-index_of_ids (length_at c.args.proto.now) c.args.ids.now c.args.index.now c.requires.index in
    let there : c.loop-at.at < length c.args.index.now = omega arith in
    let now = c.loop-at.invariant in
    rank_more (length_at c.args.proto.now) c.loop-at.rank c.args.ids.now c.args.index.now c.loop-at.at
    c.loop-at-test.true there c.length_at.ensures refl now
