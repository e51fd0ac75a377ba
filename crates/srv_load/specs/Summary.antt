-- The summary of a made collection: its tally, and the rows and the bytes of four of its views.
use Rattle.std.specs.Prelude.{ℕ, ◌+◌, ◌-◌, ◌*◌, ◌%◌, ◌^◌, ◌++◌, codes, pos}
use Rattle.nc_model.specs.Instant.{instant_text_of}
use Rattle.fm_edition.specs.Held.{Held}
use Rattle.fm_model.specs.declared.row.ViewName.TheVariants.{Best, Run, Offset, Forecast}
use Rattle.fm_model.specs.Collection.{tally}
use Rattle.web_path.specs.declared.target.Target.{Target}
use Rattle.srv_load.specs.Asked.{all_of, counted}
use Rattle.srv_load.specs.Made.{made_collection}
use Rattle.srv_load.specs.Name.{run_time}
use Rattle.srv_load.specs.declared.summary.Summary.{Summary}

-- the best time series, the run of file 0, and the offset 0
abbrev pub best_asked : Target
best_asked = all_of Best (codes "load_best.ncd")

abbrev pub run_asked : Target
run_asked = all_of (Run (pos 0)) (codes "load_RUN_2020-01-01T00:00:00Z")

abbrev pub offset_asked : Target
offset_asked = all_of (Offset (pos 0)) (codes "load_Offset_0s")

-- the forecast at the run time of file k
abbrev pub forecast_asked : ℕ → Target
forecast_asked k =
    all_of (Forecast (pos (21600 * k))) (codes "load_ConstantForecast_" ++ instant_text_of (run_time k))

-- the summary of a collection whose last file is file k
unfoldable pub summary_over : Held → ℕ → Summary
summary_over held k =
    let best = counted held best_asked in
    let run = counted held run_asked in
    let offset = counted held offset_asked in
    let forecast = counted held (forecast_asked k) in
    record {
      files = (tally held.files).files;
      rows = (tally held.files).rows;
      best = best.rows;
      run = run.rows;
      offset = offset.rows;
      forecast = forecast.rows;
      sum = (best.sum + run.sum + offset.sum + forecast.sum) % 2 ^ 32;
    }

-- the summary of the collection of the first n files that are made from a seed
abbrev pub summary_of : ℕ → ℕ → Summary
summary_of seed n = summary_over (made_collection seed n) (n - 1)
