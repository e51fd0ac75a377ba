-- The row of a cell.
use Rattle.std.proofs.Common.{rules, refl, SFits, w64}
use Rattle.std.proofs.lemmas.Int.{to_z-of_z}
use Rattle.fm_model.specs.Rows.{row_at}
use Rattle.fm_views.proofs.runs.row_of.Goals as goal

pub returns-in_ok-share-in-Some : goal.returns-in_ok-share-in-Some
unfolding row_at
returns-in_ok-share-in-Some c =
    let a : SFits w64 c.args.run = search rules in
    let b : SFits w64 c.args.valid = search rules in
    let found = simp to_z-of_z at c.in-Some.ensures.found in
    simp to_z-of_z (rw (found, c.in_ok-share-in-Some.ensures) refl)

pub returns-in-None : goal.returns-in-None
unfolding row_at
returns-in-None c =
    let a : SFits w64 c.args.run = search rules in
    let b : SFits w64 c.args.valid = search rules in
    let none = simp to_z-of_z at (c.in-None.ensures.none refl) in
    rw none refl
