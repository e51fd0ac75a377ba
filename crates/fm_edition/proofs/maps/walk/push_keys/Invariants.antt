-- The keys so far, and those that are left, are those of the page.
use Rattle.std.proofs.Common.{◌≡◌, ◌++◌, drop}
use Rattle.std.specs.Map.{keys_of}
use Rattle.fm_edition.proofs.maps.walk.push_keys.Given as goal

abbrev pub invariant-loop-at : goal.invariant-loop-at
invariant-loop-at l = l.keys ++ keys_of (drop l.at l.page.entries) ≡ l.fn.keys ++ keys_of l.page.entries
