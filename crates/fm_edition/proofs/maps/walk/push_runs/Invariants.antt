-- The runs so far, and those that are left, are those of the page.
use Rattle.std.proofs.Common.{◌≡◌, ◌++◌, drop}
use Rattle.std.specs.Prelude.{map}
use Rattle.fm_edition.specs.Latest.{entry_of}
use Rattle.fm_edition.proofs.maps.walk.push_runs.Given as goal

abbrev pub invariant-loop-at : goal.invariant-loop-at
invariant-loop-at l = map entry_of l.runs ++ drop l.at l.page.entries ≡ map entry_of l.fn.runs ++ l.page.entries
