-- The ends so far are those of stretches, and the last stretch reaches the index.
use Rattle.std.proofs.Common.{◌≡◌, ◌≤◌, ◌<◌, ℕ, get_or, length}
use Rattle.fm_edition.specs.Stretches.{IsEnd, Rise}
use Rattle.fm_edition.proofs.maps.stretches.ends_of.Given as goal

abbrev pub invariant-loop-at : goal.invariant-loop-at
invariant-loop-at l = record {
  each : length l.ends ≡ l.at;
  order : l.at ≤ l.end;
  within : l.end ≤ length l.times;
  rise : Rise l.times l.at l.end;
  ends : (i d : ℕ) → i < length l.ends → IsEnd l.times i (get_or l.ends i d);
}
