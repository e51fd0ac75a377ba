-- The rows of all entries are those of the best time series.
use Rattle.fm_edition.proofs.EditionLemmas.{times_are_sound}
use Rattle.fm_edition.proofs.RowLemmas.{rows-from_pages}
use Rattle.fm_edition.proofs.maps.Edition.best_rows.Goals as goal

pub best_rows-requires-clause-files : goal.best_rows-requires-clause-files
best_rows-requires-clause-files c = record {
  held = c.self.inside.files;
  runs = c.self.invariant.maps.of_runs;
  times = c.self.invariant.maps.of_times;
  sound = times_are_sound c.self.inside.proto c.self.inside.files c.self.invariant.sound.fit;
}

pub returns : goal.returns
returns c = rw (
  ← c.self.view_is,
  ← rows-from_pages c.self.inside.files c.args.least c.self.inside.index.by_time c.self.invariant.maps.of_times,
) c.best_rows.ensures
