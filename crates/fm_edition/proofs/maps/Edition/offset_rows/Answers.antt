-- The rows of all entries are those of the offset.
use Rattle.std.proofs.Common.{rules, SFits, w64}
use Rattle.std.proofs.lemmas.Int.{to_z-of_z}
use Rattle.fm_edition.proofs.EditionLemmas.{times_are_sound}
use Rattle.fm_edition.proofs.RunLemmas.{entries_sound, rows-at_offset}
use Rattle.fm_edition.proofs.maps.Edition.offset_rows.Goals as goal

pub rows_in-requires : goal.rows_in-requires
rows_in-requires c = entries_sound c.self.inside.files c.self.inside.index.by_run c.self.invariant.maps.of_runs
    (times_are_sound c.self.inside.proto c.self.inside.files c.self.invariant.sound.fit)

pub returns : goal.returns
returns c =
    let a : SFits w64 c.args.seconds = search rules in
    let made = simp to_z-of_z at c.rows_in.ensures in
    rw (
      ← c.self.view_is,
      ← rows-at_offset c.self.inside.files c.args.seconds c.self.inside.index.by_run c.self.invariant.maps.of_runs,
    ) made
