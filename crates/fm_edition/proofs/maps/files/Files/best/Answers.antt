-- One more piece, and the last files.
use Rattle.std.proofs.Common.{◌≡◌, ◌++◌, true, rules, ap, sym, take, ◌∙◌, SFits, w64}
use Rattle.std.proofs.lemmas.Int.{to_z-of_z}
use Rattle.std.proofs.lemmas.List.{take_all}
use Rattle.fm_model.specs.declared.loaded.Loaded.{Loaded}
use Rattle.fm_model.specs.Cell.{best, has_time}
use Rattle.fm_list.specs.Selected.{HaveTime}
use Rattle.fm_edition.specs.Pieces.{joined}
use Rattle.fm_edition.proofs.FoundLemmas.{best-none}
use Rattle.fm_edition.proofs.PieceLemmas.{all_first, all_last, all_piece, in_pieces, joined-more}
use Rattle.fm_edition.proofs.maps.files.Files.best.Goals as goal

pub loop-piece-init : goal.loop-piece-init
loop-piece-init c =
    let a : SFits w64 c.args.valid = search rules in
    simp to_z-of_z (best-none c.args.valid c.args.least)

pub best_behind-greatest-requires : goal.best_behind-greatest-requires
best_behind-greatest-requires c =
    let a : SFits w64 c.args.valid = search rules in
    let pieces = c.self.inside.pieces.now in
    let last = c.self.inside.last.now in
    let piece = c.piece-item.result in
    let have : HaveTime c.args.valid (joined pieces ++ last) = rw c.self.view_is c.requires in
    simp to_z-of_z (rw (c.as_slice.ensures, c.get.ensures)
    (all_piece (λ (f : Loaded). has_time c.args.valid f ≡ true) pieces piece
    (in_pieces pieces c.loop-piece.piece-index piece c.loop-piece-test.true c.piece-item.is)
    (all_first (λ (f : Loaded). has_time c.args.valid f ≡ true) (joined pieces) last have)))

pub loop-piece-preserved : goal.loop-piece-preserved
loop-piece-preserved c =
    let a : SFits w64 c.args.valid = search rules in
    let pieces = c.self.inside.pieces.now in
    let i = c.loop-piece.piece-index in
    let piece = c.piece-item.result in
    let before = simp to_z-of_z at c.loop-piece.invariant in
    let step = simp to_z-of_z at (c.best_behind-greatest.ensures (joined (take i pieces))) in
    simp to_z-of_z (ap (λ l. best l c.args.valid c.args.least) (joined-more pieces i piece c.loop-piece-test.true
    ∙ ap (λ p. joined (take i pieces) ++ p) (sym (c.as_slice.ensures ∙ c.get.ensures ∙ c.piece-item.is)))
    ∙ step before)

pub best_behind-requires : goal.best_behind-requires
best_behind-requires c =
    let a : SFits w64 c.args.valid = search rules in
    let pieces = c.self.inside.pieces.now in
    let last = c.self.inside.last.now in
    let have : HaveTime c.args.valid (joined pieces ++ last) = rw c.self.view_is c.requires in
    simp to_z-of_z (all_last (λ (f : Loaded). has_time c.args.valid f ≡ true) (joined pieces) last have)

pub returns : goal.returns
returns c =
    let a : SFits w64 c.args.valid = search rules in
    let pieces = c.self.inside.pieces.now in
    let last = c.self.inside.last.now in
    let before = simp to_z-of_z at c.loop-piece.invariant in
    let all = ap (λ l. best (joined l) c.args.valid c.args.least)
    (sym (take_all c.loop-piece.piece-index pieces c.loop-piece-test.false)) ∙ before in
    let step = simp to_z-of_z at (c.best_behind.ensures (joined pieces)) in
    sym (step all) ∙ ap (λ l. best l c.args.valid c.args.least) c.self.view_is
