-- The rows of the valid times so far.
use Rattle.std.proofs.Common.{◌≡◌, ◌++◌, take}
use Rattle.std.specs.List.{filter_map}
use Rattle.fm_edition.specs.Indexes.{best_of_entry}
use Rattle.fm_edition.specs.Latest.{Leads, Stays}
use Rattle.fm_edition.proofs.maps.early.push_early.Given as goal

abbrev pub invariant-loop-time : goal.invariant-loop-time
invariant-loop-time l = record {
  leads : Leads l.latest l.page.entries;
  stays : Stays l.fn.latest l.latest;
  made : l.rows ≡ l.fn.rows ++ filter_map (best_of_entry l.least) (take l.time-index l.page.entries);
}
