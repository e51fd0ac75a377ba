-- The sum and the difference of numbers of eight bytes fit sixteen.
use Rattle.std.proofs.Common.{FitsSigned, w64, arith, rules}
use Rattle.std.proofs.lemmas.Int.{ints}
use Rattle.fm_load.proofs.units.from_epoch.Goals as goal

pub returns : goal.returns
returns c =
    let origin : FitsSigned w64 c.args.units.origin = search rules in
    let epoch : FitsSigned w64 c.args.site.now.epoch = search rules in
    omega (arith, ints, c.from.ensures, c.from-2.ensures, c.from-3.ensures)
