use Rattle.std.proofs.Common.{◌≡◌, drop}
use Rattle.fm_dataset.specs.Declarations.{repeats}
use Rattle.fm_dataset.proofs.grid.repeats.Given as goal

abbrev pub invariant-loop-index : goal.invariant-loop-index
invariant-loop-index l = repeats (drop l.index l.ids) ≡ repeats l.ids
