use Rattle.std.proofs.Common.{◌<◌, length, refl, arith}
use Rattle.nc_model.specs.Layout.{size_at}
use Rattle.nc_layout.proofs.RankLemmas.{rank_more, rank_all, rank_fits, length-index_of_ids}
use Rattle.nc_layout.proofs.elements.rank.Goals as goal

pub loop-at-preserved : goal.loop-at-preserved
loop-at-preserved c =
    let same = length-index_of_ids (size_at c.args.header.now) c.args.ids.now c.args.index.now c.requires.index in
    let there : c.loop-at.at < length c.args.index.now = omega arith in
    let now = c.loop-at.invariant in
    rank_more (size_at c.args.header.now) c.loop-at.rank c.args.ids.now c.args.index.now c.loop-at.at
    c.loop-at-test.true there c.size_at.ensures refl now

pub bounds-index-at : goal.bounds-index-at
bounds-index-at c =
    let same = length-index_of_ids (size_at c.args.header.now) c.args.ids.now c.args.index.now c.requires.index in
    omega (arith, same, c.loop-at-test.true)

pub overflow_mul-rank : goal.overflow_mul-rank
overflow_mul-rank c =
    let fits = rank_fits (size_at c.args.header.now) c.loop-at.rank c.args.ids.now c.args.index.now c.loop-at.at
    c.requires.index c.loop-at-test.true c.size_at.ensures refl c.loop-at.invariant in
    omega (arith, fits, c.requires.small)

pub overflow_add-rank : goal.overflow_add-rank
overflow_add-rank c =
    let fits = rank_fits (size_at c.args.header.now) c.loop-at.rank c.args.ids.now c.args.index.now c.loop-at.at
    c.requires.index c.loop-at-test.true c.size_at.ensures refl c.loop-at.invariant in
    omega (arith, fits, c.requires.small)

pub returns : goal.returns
returns c = rank_all (size_at c.args.header.now) c.args.ids.now c.args.index.now _ c.loop-at-test.false
    c.loop-at.invariant
