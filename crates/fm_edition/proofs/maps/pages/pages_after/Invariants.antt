-- The instants up to the index are set, and the pages of none of them are as they were, or those that follow.
use Rattle.std.proofs.Common.{◌≢◌, ◌<◌, ◌≤◌, ◌-◌, get_or, length, pos, take}
use Rattle.std.specs.Prelude.{All}
use Rattle.fm_edition.specs.Indexes.{page_of}
use Rattle.fm_edition.specs.Steps.{AreDone}
use Rattle.fm_edition.proofs.maps.pages.pages_after.Given as goal

abbrev pub invariant-loop-at : goal.invariant-loop-at
invariant-loop-at l = record {
  within : l.at ≤ length l.change.touched.now;
  done : AreDone l.change.by (take l.at l.change.touched.now) l.change.op.now l.pages l.next;
  apart : l.at < length l.change.touched.now
      → All (λ key. page_of key ≢ page_of (get_or l.change.touched.now l.at (pos 0))) (take l.at l.change.touched.now);
}

abbrev pub decreases-loop-at : goal.decreases-loop-at
decreases-loop-at l = length l.change.touched.now - l.at
