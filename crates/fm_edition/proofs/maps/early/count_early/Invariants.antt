-- How many of the valid times so far lie that far after their runs.
use Rattle.std.proofs.Common.{◌≡◌, ◌≤◌, ◌-◌, length, take}
use Rattle.std.specs.Prelude.{filter}
use Rattle.fm_edition.specs.Least.{lies_after}
use Rattle.fm_edition.proofs.maps.early.count_early.Given as goal

abbrev pub invariant-loop-at : goal.invariant-loop-at
invariant-loop-at l = record {
  few : l.count ≤ l.at;
  within : l.at ≤ length l.times;
  counted : l.count ≡ length (filter (lies_after l.least) (take l.at l.times));
}

abbrev pub decreases-loop-at : goal.decreases-loop-at
decreases-loop-at l = length l.times - l.at
