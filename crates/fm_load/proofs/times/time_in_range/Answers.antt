-- An instant fits eight bytes, and is what the step gives.
use Rattle.std.proofs.Common.{◌≡◌, false, not, sym, subst, FitsSigned, w64, arith}
use Rattle.std.proofs.lemmas.Int.{to_z-of_z}
use Rattle.fm_model.specs.LoadTimes.{is_instant}
use Rattle.fm_model.proofs.RunLemmas.{instant_fits}
use Rattle.fm_load.proofs.InstantLemmas.{time_in_range-ok}
use Rattle.fm_load.proofs.times.time_in_range.Goals as goal

pub overflow_cast-result : goal.overflow_cast-result
overflow_cast-result c =
    let wide = to_z-of_z _ c.args.seconds c.ranges.seconds in
    let is : not (is_instant c.args.seconds) ≡ false = cc in
    subst (FitsSigned w64) (sym (to_z-of_z _ c.args.seconds c.ranges.seconds)) (instant_fits c.args.seconds is)

pub returns : goal.returns
returns c =
    let wide = to_z-of_z _ c.args.seconds c.ranges.seconds in
    let is : not (is_instant c.args.seconds) ≡ false = cc in
    let narrow = to_z-of_z w64 c.args.seconds (instant_fits c.args.seconds is) in
    grind (arith, wide, narrow, time_in_range-ok c.args.k c.args.seconds is)
