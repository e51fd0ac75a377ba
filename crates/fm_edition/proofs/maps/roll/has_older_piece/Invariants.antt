-- No file of the pieces so far is older.
use Rattle.std.proofs.Common.{◌≡◌, List, false, take}
use Rattle.std.specs.List.{list_any}
use Rattle.fm_model.specs.declared.loaded.Loaded.{Loaded}
use Rattle.fm_model.specs.Collection.{holds_older}
use Rattle.fm_edition.proofs.maps.roll.has_older_piece.Given as goal

abbrev pub invariant-loop-piece : goal.invariant-loop-piece
invariant-loop-piece l = list_any (λ (piece : List Loaded). holds_older piece l.cutoff) (take l.piece-index l.pieces)
    ≡ false
