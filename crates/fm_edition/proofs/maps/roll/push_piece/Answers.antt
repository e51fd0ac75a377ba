-- A piece that isn't empty is the last one.
use Rattle.std.proofs.Common.{◌++◌, ap, sym, ◌∙◌}
use Rattle.std.proofs.lemmas.List.{append-nil}
use Rattle.fm_edition.specs.Pieces.{joined}
use Rattle.fm_edition.proofs.PieceLemmas.{joined-push}
use Rattle.fm_edition.proofs.maps.roll.push_piece.Goals as goal

pub returns-then-is_empty : goal.returns-then-is_empty
returns-then-is_empty c = sym (ap (λ l. joined c.args.pieces.now ++ l) (c.is_empty.ensures.0 c.if-is_empty.true)
    ∙ append-nil (joined c.args.pieces.now))

pub returns : goal.returns
returns c = ap joined c.in_ok-push.ensures.ok ∙ joined-push c.args.pieces.now c.in_ok-new.field-0
    ∙ ap (λ l. joined c.args.pieces.now ++ l) c.in_ok-new.ensures
