-- The first element of a variable that is one number.
use Rattle.std.proofs.Common.{◌≡◌, true, arith}
use Rattle.fm_model.specs.LoadTimes.{is_one_number}
use Rattle.fm_load.proofs.LengthLemmas.{one_number-first}
use Rattle.fm_load.proofs.run.run_by_variable.Goals as goal

pub seconds_at-requires-clause-index : goal.seconds_at-requires-clause-index
seconds_at-requires-clause-index c =
    let one : is_one_number c.args.file.now.layout.header c.args.var.now ≡ true = cc in
    grind (arith, one_number-first c.args.file.now.layout.header c.args.var.now one)
