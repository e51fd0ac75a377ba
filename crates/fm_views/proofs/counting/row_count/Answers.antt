-- Each time of a run has its row.
use Rattle.std.proofs.Common.{rules, sym, ap, length, ◌∙◌, SFits, w64}
use Rattle.std.proofs.lemmas.Int.{to_z-of_z}
use Rattle.fm_model.specs.Rows.{rows}
use Rattle.fm_views.proofs.RowSteps.{length-rows_of_run}
use Rattle.fm_views.proofs.counting.row_count.Goals as goal

pub returns-in-Best : goal.returns-in-Best
unfolding rows
returns-in-Best c = rw c.in-Best.is c.best_count-count.ensures

pub returns-in-BestFrom : goal.returns-in-BestFrom
unfolding rows
returns-in-BestFrom c =
    let a : SFits w64 c.in-BestFrom.least = search rules in
    rw c.in-BestFrom.is (simp to_z-of_z at c.best_count-count-in-BestFrom.ensures)

pub returns-in_ok-times_of-in-Run : goal.returns-in_ok-times_of-in-Run
unfolding rows
returns-in_ok-times_of-in-Run c =
    let a : SFits w64 c.in-Run.run' = search rules in
    let times = simp to_z-of_z at c.in_ok-times_of-in-Run.ensures in
    rw c.in-Run.is (c.len-count.ensures ∙ ap length times
    ∙ sym (length-rows_of_run c.args.edition.now.files c.in-Run.run'))

pub returns-in-Offset : goal.returns-in-Offset
unfolding rows
returns-in-Offset c =
    let a : SFits w64 c.in-Offset.seconds = search rules in
    rw c.in-Offset.is (simp to_z-of_z at c.offset_count-count.ensures)

pub returns-in-Forecast : goal.returns-in-Forecast
unfolding rows
returns-in-Forecast c =
    let a : SFits w64 c.in-Forecast.valid = search rules in
    rw c.in-Forecast.is (simp to_z-of_z at c.forecast_count-count.ensures)
