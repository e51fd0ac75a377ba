-- How much goes of the pieces so far.
use Rattle.std.proofs.Common.{◌≡◌, take}
use Rattle.fm_model.specs.Collection.{tally}
use Rattle.fm_list.specs.Change.{gone}
use Rattle.fm_edition.specs.Pieces.{joined}
use Rattle.fm_edition.proofs.maps.files.Files.tally_gone.Given as goal

abbrev pub invariant-loop-piece : goal.invariant-loop-piece
invariant-loop-piece l = l.gone ≡ tally (gone (joined (take l.piece-index l.pieces)) l.op)
