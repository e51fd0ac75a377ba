-- One more piece has an older file, or not.
use Rattle.std.proofs.Common.{rules, ◌≡◌, Bool, List, true, false, get_or, ap, ap₂, sym, ◌∙◌, SFits, w64}
use Rattle.std.specs.Prelude.{◌||◌}
use Rattle.std.proofs.lemmas.Int.{to_z-of_z}
use Rattle.std.proofs.lemmas.List.Folds.{list_any_at, list_any_more}
use Rattle.fm_model.specs.declared.loaded.Loaded.{Loaded}
use Rattle.fm_model.specs.Collection.{holds_older}
use Rattle.fm_edition.proofs.maps.roll.has_older_piece.Goals as goal

pub returns-then-has_older : goal.returns-then-has_older
returns-then-has_older c =
    let a : SFits w64 c.args.cutoff = search rules in
    let older = λ (piece : List Loaded). holds_older piece c.args.cutoff in
    let piece = get_or c.args.pieces.now c.loop-piece.piece-index c.piece-item.result in
    let found : older piece ≡ true = ap older (sym (c.as_slice.ensures ∙ c.get.ensures ∙ c.piece-item.is))
    ∙ sym (simp to_z-of_z at c.has_older.ensures) ∙ c.if-has_older.true in
    sym (list_any_at older c.args.pieces.now c.loop-piece.piece-index c.piece-item.result c.loop-piece-test.true found)

pub loop-piece-preserved : goal.loop-piece-preserved
loop-piece-preserved c =
    let a : SFits w64 c.args.cutoff = search rules in
    let older = λ (piece : List Loaded). holds_older piece c.args.cutoff in
    let piece = get_or c.args.pieces.now c.loop-piece.piece-index c.piece-item.result in
    let none : older piece ≡ false = ap older (sym (c.as_slice.ensures ∙ c.get.ensures ∙ c.piece-item.is))
    ∙ sym (simp to_z-of_z at c.has_older.ensures) ∙ c.if-has_older.false in
    simp to_z-of_z (list_any_more older c.args.pieces.now c.loop-piece.piece-index c.piece-item.result
    c.loop-piece-test.true
    ∙ ap₂ (λ (x y : Bool). x || y) (simp to_z-of_z at c.loop-piece.invariant) none)
