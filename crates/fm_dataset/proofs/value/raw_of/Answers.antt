use Rattle.std.proofs.Common.{ℕ, ◌+◌, ◌-◌, ◌*◌, ◌≤◌, min, take, drop, length, ap, ap₂, ◌∙◌, sym, arith}
use Rattle.nc_model.specs.Layout.{product}
use Rattle.nc_model.proofs.EndLaws.{rank_in-lt}
use Rattle.nc_layout.proofs.RankLemmas.{lengths-index}
use Rattle.fm_dataset.specs.Kept.{length_at}
use Rattle.fm_dataset.specs.Values.{row_shape}
use Rattle.fm_dataset.proofs.PieceLemmas.{elements_fit, length-taken, raw_is, same_count, same_rank}
use Rattle.fm_dataset.proofs.value.raw_of.Goals as goal

pub count_in-requires-clause-some : goal.count_in-requires-clause-some
count_in-requires-clause-some c = rw c.row_dims-ids.ensures (lengths-index _ _ c.requires.index_is)

pub overflow_sub-left : goal.overflow_sub-left
overflow_sub-left c =
    let rank = same_rank (length_at c.args.proto.now) c.rank-first.ensures c.row_dims-ids.ensures
    c.row_index.ensures in
    let count = same_count (length_at c.args.proto.now) c.count_in.ensures c.row_dims-ids.ensures in
    let below = rank_in-lt _ _ c.requires.index_is in
    omega (arith, rank, count, below)

pub pieces_of-requires : goal.pieces_of-requires
pieces_of-requires c =
    let rank = same_rank (length_at c.args.proto.now) c.rank-first.ensures c.row_dims-ids.ensures
    c.row_index.ensures in
    let count = same_count (length_at c.args.proto.now) c.count_in.ensures c.row_dims-ids.ensures in
    let below = rank_in-lt _ _ c.requires.index_is in
    let lesser = c.min.ensures in
    let few : c.rank-first.result + c.min.result ≤ product (row_shape c.args.proto.now c.args.var.now) =
    omega (arith, rank, count, below, lesser) in
    elements_fit c.block_of-block.ensures c.rank-first.result c.min.result (c.from.ensures ∙ c.size.ensures) few

pub returns-clause-value : goal.returns-clause-value
returns-clause-value c =
    let rank = same_rank (length_at c.args.proto.now) c.rank-first.ensures c.row_dims-ids.ensures
    c.row_index.ensures in
    let count = same_count (length_at c.args.proto.now) c.count_in.ensures c.row_dims-ids.ensures in
    let raw = raw_is c.block_of-block.ensures c.args.most (c.from.ensures ∙ c.size.ensures) rank in
    let lesser = c.min.ensures ∙ ap (λ (n : ℕ). min c.args.most (n - c.rank-first.result)) count in
    c.pieces_of.ensures
    ∙ ap (λ (n : ℕ). take (c.from.result * n)
    (drop (c.block_of-block.result.begin + c.from.result * c.rank-first.result) c.block_of-block.result.bytes.now))
    lesser
    ∙ sym raw

pub returns-clause-len : goal.returns-clause-len
returns-clause-len c =
    let rank = same_rank (length_at c.args.proto.now) c.rank-first.ensures c.row_dims-ids.ensures
    c.row_index.ensures in
    let count = same_count (length_at c.args.proto.now) c.count_in.ensures c.row_dims-ids.ensures in
    let below = rank_in-lt _ _ c.requires.index_is in
    let lesser = c.min.ensures in
    let few : c.rank-first.result + c.min.result ≤ product (row_shape c.args.proto.now c.args.var.now) =
    omega (arith, rank, count, below, lesser) in
    let size = c.from.ensures ∙ c.size.ensures in
    let fits = elements_fit c.block_of-block.ensures c.rank-first.result c.min.result size few in
    let left = lesser ∙ ap₂ (λ (n k : ℕ). min c.args.most (n - k)) count rank in
    ap length c.pieces_of.ensures ∙ length-taken _ _ _ fits ∙ ap₂ (λ (a b : ℕ). a * b) size left
