-- The instants up to the index are of the page.
use Rattle.std.proofs.Common.{◌≡◌, ◌≤◌, ◌-◌, length}
use Rattle.std.specs.List.{AllWithin}
use Rattle.fm_edition.specs.Indexes.{page_of}
use Rattle.fm_edition.proofs.maps.pages.page_end.Given as goal

abbrev pub invariant-loop-at : goal.invariant-loop-at
invariant-loop-at l = record {
  order : l.from ≤ l.at;
  within : l.at ≤ length l.touched;
  own : AllWithin (λ key. page_of key ≡ l.number) l.touched l.from l.at;
}

abbrev pub decreases-loop-at : goal.decreases-loop-at
decreases-loop-at l = length l.touched - l.at
