-- The dataset of a view of an edition (THREDDS Data Server, Forecast Model Run Collections).
use Rattle.std.specs.Prelude.{ℕ, List, [], ◌∷◌, Result, Ok, Err}
use Rattle.fm_model.specs.declared.proto.Proto.{Proto}
use Rattle.fm_model.specs.declared.row.Row.{Row}
use Rattle.fm_model.specs.declared.row.ViewName.{ViewName}
use Rattle.fm_model.specs.Rows.{rows}
use Rattle.fm_edition.specs.Held.{Held}
use Rattle.fm_dataset.specs.Values.{Shown}
use Rattle.fm_views.specs.declared.view.NoRows.{NoRows}

-- what a dataset of these rows shows, or that there are none
abbrev pub some_shown : Proto → List Row → ViewName → List ℕ → Result Shown NoRows
some_shown proto [] view label = Err (record {})
some_shown proto (row ∷ others) view label =
    Ok (record { proto = proto; rows = row ∷ others; view = view; label = label })

-- what the dataset of a view of an edition shows under a label, or that the view has no rows
unfoldable pub shown_or_none : Held → ViewName → List ℕ → Result Shown NoRows
shown_or_none held view label = some_shown held.proto (rows held.files view) view label
