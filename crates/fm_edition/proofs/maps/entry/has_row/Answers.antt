-- A row is there where its cell is.
use Rattle.std.proofs.Common.{rules, refl, SFits, w64}
use Rattle.std.proofs.lemmas.Int.{to_z-of_z}
use Rattle.fm_model.specs.Rows.{row_at}
use Rattle.fm_edition.proofs.maps.entry.has_row.Goals as goal

pub returns-in-Some : goal.returns-in-Some
unfolding row_at
returns-in-Some c =
    let a : SFits w64 c.args.run = search rules in
    let b : SFits w64 c.args.valid = search rules in
    let found = simp to_z-of_z at c.in-Some.ensures.found in
    rw found refl

pub returns-in-None : goal.returns-in-None
unfolding row_at
returns-in-None c =
    let a : SFits w64 c.args.run = search rules in
    let b : SFits w64 c.args.valid = search rules in
    let none = simp to_z-of_z at (c.in-None.ensures.none refl) in
    rw none refl
