-- Rows in pages, one page after the other.
use Rattle.std.specs.Prelude.{◌≡◌, ℕ, ◌<◌, List, length, nat_le, take, true, false}
use Rattle.std.specs.List.{flat_map, slice_index_or}
use Rattle.std.specs.List.Sorted.{IsPartitionPoint}
use Rattle.fm_model.specs.declared.row.Row.{Row}
use Rattle.fm_rows.specs.declared.rows.Page.{Page}

-- the rows of some pages
abbrev pub rows_in : List Page → List Row
rows_in pages = flat_map (λ (page : Page). page.rows) pages

-- each page says how many rows stand before it, and the pages have that many rows
pub record ArePages (pages : List Page) (len : ℕ) : Type 0 where
  pub starts : (i : ℕ) (d : Page) → i < length pages
      → (slice_index_or pages i d).start ≡ length (rows_in (take i pages))
  pub whole : len ≡ length (rows_in pages)

-- the pages up to a number of them begin at or before an index, and those behind them after it
abbrev pub AreBegun : List Page → ℕ → ℕ → Type 0
AreBegun pages index begun = IsPartitionPoint (λ (p : Page). nat_le p.start index ≡ true)
    (λ (p : Page). nat_le p.start index ≡ false) pages begun
