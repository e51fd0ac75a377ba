-- The rows so far, and those of the pages that are left, are those of all pages.
use Rattle.std.proofs.Common.{◌≡◌, ◌++◌}
use Rattle.std.specs.Prelude.{All}
use Rattle.std.specs.List.{filter_map}
use Rattle.fm_edition.specs.Indexes.{best_of_entry, entries_in, entries_of, IsTimed}
use Rattle.fm_edition.specs.Latest.{Leads}
use Rattle.fm_edition.proofs.BestLemmas.{HasKept, HasOrder}
use Rattle.fm_edition.proofs.maps.best.rows_from.Given as goal

abbrev pub invariant-loop-number : goal.invariant-loop-number
invariant-loop-number l = record {
  ordered : All HasOrder l.number-iterator;
  kept : All (HasKept l.best) l.number-iterator;
  leads : Leads l.latest (entries_in l.number-iterator);
  timed : All IsTimed (entries_in l.number-iterator);
  made : l.rows ++ filter_map (best_of_entry l.least) (entries_in l.number-iterator)
      ≡ filter_map (best_of_entry l.least) (entries_of l.pages);
}
