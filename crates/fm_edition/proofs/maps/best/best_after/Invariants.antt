-- The pages of the instants up to the index have their rows, and the others have their old ones.
use Rattle.std.proofs.Common.{◌≡◌, ◌≤◌, ◌-◌, if◌then◌else◌, length, take, ℤ}
use Rattle.std.specs.BTreeMap as tree
use Rattle.std.specs.Ordering.{int_cmp}
use Rattle.fm_edition.specs.Indexes.{rows_at, touches}
use Rattle.fm_edition.proofs.maps.best.best_after.Given as goal

abbrev pub invariant-loop-at : goal.invariant-loop-at
invariant-loop-at l = record {
  within : l.at ≤ length l.touched;
  ordered : tree.IsOrdered int_cmp l.next;
  made : (number : ℤ) → tree.get int_cmp l.next number
      ≡ (if touches (take l.at l.touched) number then rows_at l.pages number else tree.get int_cmp l.best number);
}

abbrev pub decreases-loop-at : goal.decreases-loop-at
decreases-loop-at l = length l.touched - l.at
