-- What is left of one more piece.
use Rattle.std.proofs.Common.{◌++◌, ap, sym, subst, take, ◌∙◌}
use Rattle.std.specs.Prelude.{filter}
use Rattle.std.proofs.lemmas.List.{take_all}
use Rattle.fm_list.specs.Change.{keeps, HasGone}
use Rattle.fm_edition.specs.Pieces.{joined}
use Rattle.fm_edition.proofs.PieceLemmas.{filter-more_pieces}
use Rattle.fm_edition.proofs.maps.roll.kept_pieces.Goals as goal

pub push_kept-requires : goal.push_kept-requires
push_kept-requires c = subst (HasGone c.args.went.now c.args.op.now) (sym c.piece-item.is)
    (c.requires c.loop-piece.piece-index c.piece-item.result c.loop-piece-test.true)

pub loop-piece-preserved : goal.loop-piece-preserved
loop-piece-preserved c =
    let test = keeps c.args.op.now in
    let more = filter-more_pieces test c.args.pieces.now c.loop-piece.piece-index c.piece-item.result
    c.loop-piece-test.true in
    c.in_ok-push_kept.ensures ∙ ap (λ l. l ++ filter test c.piece-item.result) c.loop-piece.invariant
    ∙ ap (λ p. filter test (joined (take c.loop-piece.piece-index c.args.pieces.now)) ++ filter test p) c.piece-item.is
    ∙ sym more

pub returns : goal.returns
returns c = c.loop-piece.invariant ∙ ap (λ l. filter (keeps c.args.op.now) (joined l))
    (take_all c.loop-piece.piece-index c.args.pieces.now c.loop-piece-test.false)
