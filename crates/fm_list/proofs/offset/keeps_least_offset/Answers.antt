-- The difference fits 128 bits.
use Rattle.std.proofs.Common.{arith, refl}
use Rattle.std.proofs.lemmas.Int.{ints}
use Rattle.fm_model.specs.Cell.{has_least_offset}
use Rattle.fm_list.proofs.offset.keeps_least_offset.Goals as goal

pub returns-in-Some : goal.returns-in-Some
unfolding has_least_offset
returns-in-Some c = rw c.in-Some.is
    (grind (arith, ints, c.from.ensures, c.from-in-Some.ensures, c.from-in-Some-2.ensures))

pub returns-in-None : goal.returns-in-None
unfolding has_least_offset
returns-in-None c = rw c.in-None.is refl
