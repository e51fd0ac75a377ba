-- The run's times in the pieces so far.
use Rattle.std.proofs.Common.{◌≡◌, take}
use Rattle.fm_edition.specs.Instants.{run_times}
use Rattle.fm_edition.specs.Pieces.{joined}
use Rattle.fm_edition.proofs.maps.files.Files.times_of.Given as goal

abbrev pub invariant-loop-piece : goal.invariant-loop-piece
invariant-loop-piece l = l.times ≡ run_times l.run (joined (take l.piece-index l.pieces))
