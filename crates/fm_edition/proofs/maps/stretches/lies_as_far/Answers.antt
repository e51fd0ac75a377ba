-- The numbers are compared that the machine has.
use Rattle.std.proofs.Common.{arith}
use Rattle.std.proofs.lemmas.Int.{ints, to_z-of_z}
use Rattle.fm_edition.proofs.maps.stretches.lies_as_far.Goals as goal

pub returns : goal.returns
returns c = λ holds. grind (arith, ints, holds, to_z-of_z)
