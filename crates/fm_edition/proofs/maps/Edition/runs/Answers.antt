-- The keys by runs are the runs.
use Rattle.fm_edition.proofs.RowLemmas.{runs-from_pages}
use Rattle.fm_edition.proofs.maps.Edition.runs.Goals as goal

pub returns : goal.returns
returns c = rw (
  ← c.self.view_is,
  ← runs-from_pages c.self.inside.files
      c.self.inside.index.by_run c.self.invariant.maps.of_runs,
)
    c.keys_of.ensures
