-- The files have the valid time, and sound times.
use Rattle.std.proofs.Common.{rules, SFits, w64}
use Rattle.std.proofs.lemmas.Int.{to_z-of_z}
use Rattle.fm_edition.proofs.maps.entry.push_best.Goals as goal

pub best-requires : goal.best-requires
best-requires c =
    let a : SFits w64 c.args.valid = search rules in
    simp to_z-of_z c.requires.have

pub push_row-requires : goal.push_row-requires
push_row-requires c = c.requires.sound
