-- There are few runs, and the rows of all entries are those of the valid time.
use Rattle.std.proofs.Common.{length, ap, ◌∙◌, rules, SFits, w64}
use Rattle.std.proofs.lemmas.Int.{to_z-of_z}
use Rattle.fm_edition.proofs.EditionLemmas.{times_are_sound}
use Rattle.fm_edition.proofs.RunLemmas.{entries_sound, rows-at_valid, runs_are_few}
use Rattle.fm_edition.proofs.maps.Edition.forecast_count.Goals as goal

pub count_in-requires-clause-count : goal.count_in-requires-clause-count
count_in-requires-clause-count c = runs_are_few c.self.inside.files
    c.self.inside.index.by_run c.self.invariant.maps.of_runs
    c.self.invariant.sound.within

pub count_in-requires-clause-sound : goal.count_in-requires-clause-sound
count_in-requires-clause-sound c = entries_sound c.self.inside.files
    c.self.inside.index.by_run c.self.invariant.maps.of_runs
    (times_are_sound c.self.inside.proto c.self.inside.files c.self.invariant.sound.fit)

pub returns : goal.returns
returns c =
    let a : SFits w64 c.args.valid = search rules in
    rw (← c.self.view_is) (simp to_z-of_z at c.count_in.ensures
    ∙ ap length (rows-at_valid c.self.inside.files c.args.valid
    c.self.inside.index.by_run c.self.invariant.maps.of_runs))
