-- Each view has its function.
use Rattle.std.proofs.Common.{rules, ◌≡◌, ◌∙◌, subst, IfOk, SFits, w64}
use Rattle.std.proofs.lemmas.Int.{to_z-of_z}
use Rattle.fm_model.specs.Rows.{rows}
use Rattle.fm_views.proofs.view.all_rows.Goals as goal

pub returns-in-Best : goal.returns-in-Best
unfolding rows
returns-in-Best c = rw c.in-Best.is c.best_rows.ensures

pub returns-in-BestFrom : goal.returns-in-BestFrom
unfolding rows
returns-in-BestFrom c =
    let a : SFits w64 c.in-BestFrom.least = search rules in
    rw c.in-BestFrom.is (simp to_z-of_z at c.best_rows-in-BestFrom.ensures)

pub returns-in_ok-of_page-in-Run : goal.returns-in_ok-of_page-in-Run
unfolding rows
returns-in_ok-of_page-in-Run c =
    let a : SFits w64 c.in-Run.run' = search rules in
    rw c.in-Run.is (subst (λ found. IfOk c.new.result (λ list. list ≡ found))
    (c.in_ok-of_page-in-Run.ensures ∙ simp to_z-of_z at c.in_ok-rows_of_run-in-Run.ensures) c.new.ensures)

pub returns-in_ok-offset_rows-in-Offset : goal.returns-in_ok-offset_rows-in-Offset
unfolding rows
returns-in_ok-offset_rows-in-Offset c =
    let a : SFits w64 c.in-Offset.seconds = search rules in
    rw c.in-Offset.is (subst (λ found. IfOk c.new-in-Offset.result (λ list. list ≡ found))
    (simp to_z-of_z at c.in_ok-offset_rows-in-Offset.ensures) c.new-in-Offset.ensures)

pub returns-in_ok-forecast_rows-in-Forecast : goal.returns-in_ok-forecast_rows-in-Forecast
unfolding rows
returns-in_ok-forecast_rows-in-Forecast c =
    let a : SFits w64 c.in-Forecast.valid = search rules in
    rw c.in-Forecast.is (subst (λ found. IfOk c.new-in-Forecast.result (λ list. list ≡ found))
    (simp to_z-of_z at c.in_ok-forecast_rows-in-Forecast.ensures) c.new-in-Forecast.ensures)
