-- What is left of the pieces so far.
use Rattle.std.proofs.Common.{◌≡◌, take}
use Rattle.std.specs.Prelude.{filter}
use Rattle.fm_list.specs.Change.{keeps}
use Rattle.fm_edition.specs.Pieces.{joined}
use Rattle.fm_edition.proofs.maps.roll.kept_pieces.Given as goal

abbrev pub invariant-loop-piece : goal.invariant-loop-piece
invariant-loop-piece l = joined l.next ≡ filter (keeps l.op) (joined (take l.piece-index l.pieces))
