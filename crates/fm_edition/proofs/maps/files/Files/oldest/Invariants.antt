-- The least run of the pieces so far.
use Rattle.std.proofs.Common.{◌≡◌, None, take}
use Rattle.fm_list.specs.Found.{oldest_behind}
use Rattle.fm_edition.specs.Pieces.{joined}
use Rattle.fm_edition.proofs.maps.files.Files.oldest.Given as goal

abbrev pub invariant-loop-piece : goal.invariant-loop-piece
invariant-loop-piece l = l.least ≡ oldest_behind None (joined (take l.piece-index l.pieces))
