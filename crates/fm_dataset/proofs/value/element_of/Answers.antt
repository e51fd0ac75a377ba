use Rattle.std.proofs.Common.{◌+◌, ◌≤◌, length, ap, ◌∙◌, arith}
use Rattle.nc_model.specs.Layout.{product}
use Rattle.nc_model.proofs.EndLaws.{rank_in-lt}
use Rattle.fm_dataset.specs.Kept.{length_at}
use Rattle.fm_dataset.specs.Values.{row_shape}
use Rattle.fm_dataset.proofs.PieceLemmas.{elements_fit, length-piece, same_rank}
use Rattle.fm_dataset.proofs.value.element_of.Goals as goal

pub pieces_of-requires : goal.pieces_of-requires
pieces_of-requires c =
    let rank = same_rank (length_at c.args.proto.now) c.rank-rank.ensures c.row_dims.ensures
    c.row_index.ensures in
    let below = rank_in-lt _ _ c.requires.index_is in
    let few : c.rank-rank.result + 1 ≤ product (row_shape c.args.proto.now c.args.var.now) =
    omega (arith, rank, below) in
    elements_fit c.block_of-block.ensures c.rank-rank.result 1 (c.from.ensures ∙ c.size.ensures) few

pub returns-clause-len : goal.returns-clause-len
returns-clause-len c =
    let rank = same_rank (length_at c.args.proto.now) c.rank-rank.ensures c.row_dims.ensures
    c.row_index.ensures in
    let below = rank_in-lt _ _ c.requires.index_is in
    let few : c.rank-rank.result + 1 ≤ product (row_shape c.args.proto.now c.args.var.now) =
    omega (arith, rank, below) in
    let size = c.from.ensures ∙ c.size.ensures in
    let fits = elements_fit c.block_of-block.ensures c.rank-rank.result 1 size few in
    ap length c.pieces_of.ensures ∙ length-piece _ _ _ fits ∙ size
