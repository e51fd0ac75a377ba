-- A dimension past the last has no coordinate variable.
use Rattle.std.proofs.Common.{◌≡◌, false, length, sym, arith}
use Rattle.std.specs.Prelude.{nat_lt}
use Rattle.std.proofs.lemmas.Bool.Decides.{nat_tests}
use Rattle.fm_dataset.proofs.FirstLemmas.{coordinate-past}
use Rattle.fm_dataset.proofs.table.coordinate_at.Goals as goal

pub returns-in-None-clause-none : goal.returns-in-None-clause-none
returns-in-None-clause-none c = λ _.
    let past : nat_lt c.args.id (length c.args.coordinates.now) ≡ false = sym c.in-None.ensures.lookup.0 in
    coordinate-past c.args.proto.now c.args.id (grind (arith, nat_tests, past, c.requires.count))
