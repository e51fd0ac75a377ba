use Rattle.std.proofs.Common.{◌≡◌, ◌+◌, ◌*◌, ◌≤◌, take, length, refl, ap, ap₂, ◌∙◌, sym, arith}
use Rattle.nc_model.specs.Layout.{product, rank_in}
use Rattle.nc_model.proofs.EndLaws.{rank_in-lt}
use Rattle.nc_layout.proofs.RankLemmas.{length-index}
use Rattle.fm_dataset.specs.Kept.{length_at}
use Rattle.fm_dataset.specs.Values.{row_index, row_shape}
use Rattle.fm_dataset.proofs.CountLemmas.{text_within, texts_few}
use Rattle.fm_dataset.proofs.PieceLemmas.{back_shape, characters_are, front_shape}
use Rattle.fm_dataset.proofs.value.characters.Goals as goal

pub rank-first-requires-clause-most : goal.rank-first-requires-clause-most
rank-first-requires-clause-most c =
    let front = front_shape (length_at c.args.proto.now) c.split_at.ensures.front c.row_dims.ensures
    c.row_index-within.ensures in
    let back = back_shape (length_at c.args.proto.now) c.split_at.ensures.back c.row_dims.ensures
    c.row_index-within.ensures in
    let len = c.text_len-len.ensures ∙ ap product back in
    let within = rw c.requires.small at c.block_of-block.ensures.within in
    let few = texts_few _ (length (row_index c.args.var.now c.args.index.now)) _ _ _ within len c.if-len-eq0.false in
    rw front few

pub pieces_of-requires : goal.pieces_of-requires
pieces_of-requires c =
    let front = front_shape (length_at c.args.proto.now) c.split_at.ensures.front c.row_dims.ensures
    c.row_index-within.ensures in
    let back = back_shape (length_at c.args.proto.now) c.split_at.ensures.back c.row_dims.ensures
    c.row_index-within.ensures in
    let len = c.text_len-len.ensures ∙ ap product back in
    let first = c.rank-first.ensures ∙ ap₂ rank_in front c.row_index-within.ensures in
    let within = rw c.requires.small at c.block_of-block.ensures.within in
    let below = rank_in-lt _ _ c.requires.index_is in
    let few : c.rank-first.result + 1 ≤ product (take (length (row_index c.args.var.now c.args.index.now))
    (row_shape c.args.proto.now c.args.var.now)) = omega (arith, first, below) in
    text_within _ (length (row_index c.args.var.now c.args.index.now)) _ _ _ _ within few len

pub returns : goal.returns
returns c =
    let front = front_shape (length_at c.args.proto.now) c.split_at.ensures.front c.row_dims.ensures
    c.row_index-within.ensures in
    let back = back_shape (length_at c.args.proto.now) c.split_at.ensures.back c.row_dims.ensures
    c.row_index-within.ensures in
    let len = c.text_len-len.ensures ∙ ap product back in
    let first = c.rank-first.ensures ∙ ap₂ rank_in front c.row_index-within.ensures in
    let long = length-index _ _ c.requires.index_is in
    c.pieces_of.ensures
    ∙ sym (characters_are c.block_of-block.ensures c.requires.small c.requires.some long first len)

pub returns-then-len-eq0 : goal.returns-then-len-eq0
returns-then-len-eq0 c =
    let front = front_shape (length_at c.args.proto.now) c.split_at.ensures.front c.row_dims.ensures
    c.row_index-within.ensures in
    let back = back_shape (length_at c.args.proto.now) c.split_at.ensures.back c.row_dims.ensures
    c.row_index-within.ensures in
    let len = c.text_len-len.ensures ∙ ap product back in
    let long = length-index _ _ c.requires.index_is in
    let all = characters_are c.block_of-block.ensures c.requires.small c.requires.some long refl len in
    let none : 0 ≡ c.text_len-len.result * 1 = omega (arith, c.if-len-eq0.true) in
    c.split_at-then-len-eq0.ensures.front ∙ sym (all ∙ rw (← none) refl)
