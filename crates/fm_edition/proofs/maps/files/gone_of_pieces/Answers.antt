-- What is taken out of one more piece.
use Rattle.std.proofs.Common.{◌++◌, ap, sym, take, ◌∙◌}
use Rattle.std.proofs.lemmas.List.{take_all}
use Rattle.fm_list.specs.Change.{gone}
use Rattle.fm_edition.specs.Pieces.{joined}
use Rattle.fm_edition.proofs.PieceLemmas.{gone-more_pieces}
use Rattle.fm_edition.proofs.maps.files.gone_of_pieces.Goals as goal

pub loop-piece-init : goal.loop-piece-init
unfolding gone
loop-piece-init c = c.new-gone.ensures

pub loop-piece-preserved : goal.loop-piece-preserved
loop-piece-preserved c =
    let op = c.args.op.now in
    let before = gone (joined (take c.loop-piece.piece-index c.args.pieces.now)) op in
    let more = gone-more_pieces op c.args.pieces.now c.loop-piece.piece-index c.piece-item.result
    c.loop-piece-test.true in
    let files_is = c.as_slice.ensures ∙ c.get.ensures ∙ c.piece-item.is in
    c.in_ok-push_gone.ensures.ok ∙ ap (λ l. l ++ gone c.as_slice.result.now op) c.loop-piece.invariant
    ∙ ap (λ files. before ++ gone files op) files_is ∙ sym more

pub returns : goal.returns
returns c = c.loop-piece.invariant ∙ ap (λ l. gone (joined l) c.args.op.now)
    (take_all c.loop-piece.piece-index c.args.pieces.now c.loop-piece-test.false)
