-- The row of the run, where there is one.
use Rattle.std.proofs.Common.{rules, refl, sym, SFits, w64}
use Rattle.std.proofs.lemmas.Int.{to_z-of_z}
use Rattle.std.proofs.lemmas.List.{append-nil}
use Rattle.fm_model.specs.Rows.{row_at}
use Rattle.fm_edition.proofs.row.push_row.Goals as goal

pub returns-in-None : goal.returns-in-None
unfolding row_at
returns-in-None c =
    let a : SFits w64 c.args.valid = search rules in
    let b : SFits w64 c.in-Some.run' = search rules in
    let none = simp to_z-of_z at (c.in-None.ensures.none refl) in
    rw (c.in-Some.is, none) (sym (append-nil c.args.rows.now))

pub returns-in_ok-share-in-Some-cell_near : goal.returns-in_ok-share-in-Some-cell_near
unfolding row_at
returns-in_ok-share-in-Some-cell_near c =
    let a : SFits w64 c.args.valid = search rules in
    let b : SFits w64 c.in-Some.run' = search rules in
    let found = simp to_z-of_z at c.in-Some-cell_near.ensures.found in
    let pushed = simp to_z-of_z at c.push.ensures.ok in
    rw (c.in-Some.is, found, ← c.in_ok-share-in-Some-cell_near.ensures) pushed
