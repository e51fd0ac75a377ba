-- How many there are in the pieces so far.
use Rattle.std.proofs.Common.{◌≡◌, length, min, take}
use Rattle.fm_edition.specs.Pieces.{joined}
use Rattle.fm_edition.proofs.maps.files.Files.up_to_two.Given as goal

abbrev pub invariant-loop-piece : goal.invariant-loop-piece
invariant-loop-piece l = l.count ≡ min (length (joined (take l.piece-index l.pieces))) 2
