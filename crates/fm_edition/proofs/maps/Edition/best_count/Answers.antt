-- There are few valid times, and those of all pages are those of the files.
use Rattle.std.proofs.Common.{length, ap, ◌∙◌}
use Rattle.fm_edition.proofs.CountLemmas.{entries_are_few}
use Rattle.fm_edition.proofs.EditionLemmas.{times_are_sound}
use Rattle.fm_edition.proofs.RowLemmas.{entries_timed, rows-from_pages}
use Rattle.fm_edition.proofs.maps.Edition.best_count.Goals as goal

pub best_count-requires-clause-count : goal.best_count-requires-clause-count
best_count-requires-clause-count c = entries_are_few c.self.inside.files c.self.inside.index.by_time
    c.self.invariant.maps.of_times c.self.invariant.sound.within

pub best_count-requires-clause-timed : goal.best_count-requires-clause-timed
best_count-requires-clause-timed c = entries_timed c.self.inside.files
    c.self.inside.index.by_time c.self.invariant.maps.of_times
    (times_are_sound c.self.inside.proto c.self.inside.files c.self.invariant.sound.fit)

pub returns : goal.returns
returns c = rw (← c.self.view_is) (c.best_count.ensures
    ∙ ap length (rows-from_pages c.self.inside.files c.args.least
    c.self.inside.index.by_time c.self.invariant.maps.of_times))
