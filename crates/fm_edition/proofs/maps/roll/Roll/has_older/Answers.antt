-- An older file is one of the pieces, or one of the last.
use Rattle.std.proofs.Common.{◌≡◌, Bool, List, true, false, rules, ap, sym, ◌∙◌, SFits, w64}
use Rattle.std.specs.Prelude.{◌||◌}
use Rattle.std.specs.List.{list_any}
use Rattle.std.proofs.lemmas.Int.{to_z-of_z}
use Rattle.fm_model.specs.declared.loaded.Loaded.{Loaded}
use Rattle.fm_model.specs.Collection.{holds_older}
use Rattle.fm_edition.specs.Pieces.{joined}
use Rattle.fm_edition.proofs.PieceLemmas.{older-append, older-joined}
use Rattle.fm_edition.proofs.maps.roll.Roll.has_older.Goals as goal

pub returns-then-has_older_piece : goal.returns-then-has_older_piece
returns-then-has_older_piece c =
    let cutoff = c.args.cutoff in
    let a : SFits w64 cutoff = search rules in
    let pieces = c.self.inside.pieces in
    let last = c.self.inside.last in
    let found = simp to_z-of_z at c.has_older_piece.ensures in
    let first : c.has_older_piece.result ≡ holds_older (joined pieces) cutoff = found
    ∙ ap (list_any (λ (piece : List Loaded). holds_older piece cutoff)) c.as_slice.ensures
    ∙ older-joined pieces cutoff in
    let is : holds_older (joined pieces) cutoff ≡ true = sym first ∙ c.if-has_older_piece.true in
    c.if-has_older_piece.true ∙ sym (ap (λ (b : Bool). b || holds_older last cutoff) is)
    ∙ sym (older-append (joined pieces) last cutoff) ∙ ap (λ l. holds_older l cutoff) c.self.view_is

pub returns-else-has_older_piece : goal.returns-else-has_older_piece
returns-else-has_older_piece c =
    let cutoff = c.args.cutoff in
    let a : SFits w64 cutoff = search rules in
    let pieces = c.self.inside.pieces in
    let last = c.self.inside.last in
    let found = simp to_z-of_z at c.has_older_piece.ensures in
    let first : c.has_older_piece.result ≡ holds_older (joined pieces) cutoff = found
    ∙ ap (list_any (λ (piece : List Loaded). holds_older piece cutoff)) c.as_slice.ensures
    ∙ older-joined pieces cutoff in
    let is : holds_older (joined pieces) cutoff ≡ false = sym first ∙ c.if-has_older_piece.false in
    let second = simp to_z-of_z at c.has_older.ensures in
    second ∙ ap (λ l. holds_older l cutoff) c.as_slice-else-has_older_piece.ensures
    ∙ sym (ap (λ (b : Bool). b || holds_older last cutoff) is) ∙ sym (older-append (joined pieces) last cutoff)
    ∙ ap (λ l. holds_older l cutoff) c.self.view_is
