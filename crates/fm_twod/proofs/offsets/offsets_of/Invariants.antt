-- The offsets of the runs so far.
use Rattle.std.proofs.Common.{◌≡◌, take}
use Rattle.std.specs.List.{flat_map}
use Rattle.fm_twod.specs.declared.cells.RunCells.{RunCells}
use Rattle.fm_twod.proofs.offsets.offsets_of.Given as goal

abbrev pub invariant-loop-cells : goal.invariant-loop-cells
invariant-loop-cells l =
    l.offsets ≡ flat_map (λ (cells : RunCells). cells.offsets) (take l.cells-index l.runs)
