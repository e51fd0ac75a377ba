-- What is kept of a page of valid times.
use Rattle.std.specs.Prelude.{Bool, List}
use Rattle.fm_model.specs.declared.row.Row.{Row}
use Rattle.fm_edition.specs.declared.maps.page_rows.Oldest.{Oldest}

-- the rows of a page's valid times from their best runs; each valid time and the least run of its files; and whether
-- each valid time is that of one file
pub record KeptRows : Type 0 where
  pub rows : List Row
  pub oldest : List Oldest
  pub alone : Bool
