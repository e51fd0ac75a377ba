-- Each turn adds the cells of one run behind those of the runs before it.
use Rattle.std.proofs.Common.{get_or, pos, rules, SFits, w64}
use Rattle.std.proofs.lemmas.Int.{to_z-of_z}
use Rattle.fm_twod.specs.Cells.{runs_from}
use Rattle.fm_twod.proofs.CellLemmas.{runs-more}
use Rattle.fm_twod.proofs.cells.put_runs.Goals as goal

pub loop-run-init : goal.loop-run-init
unfolding runs_from
loop-run-init c = (c.requires.rows, c.requires.runs)

pub loop-run-preserved : goal.loop-run-preserved
loop-run-preserved c =
    let fits : SFits w64 (get_or c.args.all.now c.loop-run.run-index (pos 0)) = search rules in
    let rows = simp to_z-of_z at c.in_ok-put_run.ensures.rows in
    let runs = simp to_z-of_z at c.in_ok-put_run.ensures.runs in
    runs-more c.args.edition.now.files c.args.all.now c.loop-run.run-index (pos 0) c.loop-run.rows c.put_run.new.rows
    c.loop-run.runs c.put_run.new.runs c.loop-run-test.true c.loop-run.invariant.0 c.loop-run.invariant.1 rows runs
