-- The rows so far, and those from the last that doesn't keep the least offset on, are those that keep it.
use Rattle.std.proofs.Common.{◌≡◌, ◌≤◌, ◌-◌, ◌++◌, length, take, drop}
use Rattle.std.specs.Prelude.{filter}
use Rattle.fm_edition.specs.Least.{keeps_least}
use Rattle.fm_edition.proofs.maps.keeping.push_keeping.Given as goal

abbrev pub invariant-loop-at : goal.invariant-loop-at
invariant-loop-at l = record {
  order : l.from ≤ l.at;
  within : l.at ≤ length l.kept.rows;
  so_far : l.rows ++ drop l.from (take l.at l.kept.rows)
      ≡ l.fn.rows ++ filter (keeps_least l.least) (take l.at l.kept.rows);
}

abbrev pub decreases-loop-at : goal.decreases-loop-at
decreases-loop-at l = length l.times - l.at
