-- The greatest usable run of the pieces so far.
use Rattle.std.proofs.Common.{◌≡◌, take}
use Rattle.fm_model.specs.Cell.{best}
use Rattle.fm_edition.specs.Pieces.{joined}
use Rattle.fm_edition.proofs.maps.files.Files.best.Given as goal

abbrev pub invariant-loop-piece : goal.invariant-loop-piece
invariant-loop-piece l = best (joined (take l.piece-index l.pieces)) l.valid l.least ≡ l.greatest
