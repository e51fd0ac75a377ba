-- Rows of a list that stand one after the other.
use Rattle.std.specs.Prelude.{ℕ, ◌≤◌, List, length}
use Rattle.fm_model.specs.declared.row.Row.{Row}

-- indices of a list, of which the second is no earlier than the first
pub record LiesIn (list : List Row) (from to : ℕ) : Type 0 where
  pub order : from ≤ to
  pub within : to ≤ length list
