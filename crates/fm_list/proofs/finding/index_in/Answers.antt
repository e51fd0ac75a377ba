-- A file of the run has its cell at the first index of the time, if at any.
use Rattle.std.proofs.Common.{◌≡◌, true, rules, arith, sym, SFits, w64}
use Rattle.std.specs.Ordering.{int_eq}
use Rattle.std.proofs.lemmas.Int.{ints, to_z-of_z}
use Rattle.fm_list.proofs.CellSteps.{cell_in-other_run, cell_in-own_run}
use Rattle.fm_list.proofs.finding.index_in.Goals as goal

pub returns-then-own-run : goal.returns-then-own-run
returns-then-own-run c = sym (cell_in-other_run c.args.run c.args.valid c.args.file.now
    (grind (arith, ints, c.if-own-run.true, c.run-own.ensures)))

pub returns : goal.returns
returns c =
    let fits : SFits w64 c.args.valid = search rules in
    let own : int_eq c.args.file.now.run c.args.run ≡ true = grind
    (arith, ints, c.if-own-run.false, c.run-own.ensures) in
    let at = simp to_z-of_z at c.time_in.ensures in
    cc (cell_in-own_run c.args.run c.args.valid c.args.file.now own, at)
