-- What is taken out of the pieces so far.
use Rattle.std.proofs.Common.{◌≡◌, take}
use Rattle.fm_list.specs.Change.{gone}
use Rattle.fm_edition.specs.Pieces.{joined}
use Rattle.fm_edition.proofs.maps.files.gone_of_pieces.Given as goal

abbrev pub invariant-loop-piece : goal.invariant-loop-piece
invariant-loop-piece l = l.gone ≡ gone (joined (take l.piece-index l.pieces)) l.op
