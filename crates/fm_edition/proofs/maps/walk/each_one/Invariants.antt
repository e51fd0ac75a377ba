-- Each instant so far is that of one file, so those that are left decide.
use Rattle.std.proofs.Common.{◌≡◌, drop}
use Rattle.fm_edition.specs.Indexes.{each_one}
use Rattle.fm_edition.proofs.maps.walk.each_one.Given as goal

abbrev pub invariant-loop-at : goal.invariant-loop-at
invariant-loop-at l = each_one (drop l.at l.page.entries) ≡ each_one l.page.entries
