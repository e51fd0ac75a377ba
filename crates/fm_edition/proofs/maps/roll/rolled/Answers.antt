-- The last files, as they are or as a piece.
use Rattle.std.proofs.Common.{◌++◌, ap, ◌∙◌}
use Rattle.std.proofs.lemmas.List.{append-nil}
use Rattle.fm_edition.specs.Pieces.{joined}
use Rattle.fm_edition.proofs.maps.roll.rolled.Goals as goal

pub returns : goal.returns
returns c = ap (λ l. joined c.push_piece.new.pieces ++ l) c.new.ensures
    ∙ append-nil (joined c.push_piece.new.pieces) ∙ c.in_ok-push_piece.ensures
