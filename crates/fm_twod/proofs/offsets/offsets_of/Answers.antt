-- All runs were gone through.
use Rattle.std.proofs.Common.{arith}
use Rattle.std.proofs.lemmas.Grind.{common_steps}
use Rattle.fm_twod.specs.Cells.{offsets_of}
use Rattle.fm_twod.proofs.offsets.offsets_of.Goals as goal

pub returns : goal.returns
unfolding offsets_of
returns c = grind (arith, common_steps)
