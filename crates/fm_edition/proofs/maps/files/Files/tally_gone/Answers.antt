-- What goes of one more piece, and of the last files.
use Rattle.std.proofs.Common.{◌≡◌, ◌++◌, List, ap, subst, sym, ◌∙◌}
use Rattle.std.proofs.lemmas.List.{take_all}
use Rattle.fm_model.specs.declared.full.Tally.{Tally}
use Rattle.fm_model.specs.declared.loaded.Loaded.{Loaded}
use Rattle.fm_model.specs.Collection.{tally, IsWithin}
use Rattle.fm_list.specs.Change.{gone}
use Rattle.fm_edition.specs.Amounts.{plus}
use Rattle.fm_edition.specs.Pieces.{joined}
use Rattle.fm_edition.proofs.GoneLemmas.{plus-last, plus-piece, within_piece}
use Rattle.fm_edition.proofs.maps.files.Files.tally_gone.Goals as goal

pub loop-piece-init : goal.loop-piece-init
unfolding tally gone
loop-piece-init c = c.nothing-gone.ensures

pub with_gone-gone-requires : goal.with_gone-gone-requires
with_gone-gone-requires c =
    let pieces = c.self.inside.pieces.now in
    let last = c.self.inside.last.now in
    let op = c.args.op.now in
    let within : IsWithin (tally (gone (joined pieces ++ last) op)) = rw c.self.view_is c.requires in
    rw (c.loop-piece.invariant, c.as_slice.ensures, c.get.ensures)
    (within_piece pieces last op c.loop-piece.piece-index c.piece-item.result c.loop-piece-test.true c.piece-item.is
    within)

pub loop-piece-preserved : goal.loop-piece-preserved
loop-piece-preserved c =
    let pieces = c.self.inside.pieces.now in
    let op = c.args.op.now in
    c.with_gone-gone.ensures
    ∙ ap (λ (l : List Loaded). plus c.loop-piece.gone (tally (gone l op))) (c.as_slice.ensures ∙ c.get.ensures)
    ∙ ap (λ (t : Tally). plus t (tally (gone c.piece-item.result op))) c.loop-piece.invariant
    ∙ plus-piece pieces op c.loop-piece.piece-index c.piece-item.result c.loop-piece-test.true c.piece-item.is

pub with_gone-requires : goal.with_gone-requires
with_gone-requires c =
    let pieces = c.self.inside.pieces.now in
    let last = c.self.inside.last.now in
    let op = c.args.op.now in
    let within : IsWithin (tally (gone (joined pieces ++ last) op)) = rw c.self.view_is c.requires in
    let all : c.loop-piece.gone ≡ tally (gone (joined pieces) op) = c.loop-piece.invariant
    ∙ ap (λ l. tally (gone (joined l) op)) (take_all c.loop-piece.piece-index pieces c.loop-piece-test.false) in
    rw all (subst IsWithin (sym (plus-last (joined pieces) last op)) within)

pub returns : goal.returns
returns c =
    let pieces = c.self.inside.pieces.now in
    let last = c.self.inside.last.now in
    let op = c.args.op.now in
    let all : c.loop-piece.gone ≡ tally (gone (joined pieces) op) = c.loop-piece.invariant
    ∙ ap (λ l. tally (gone (joined l) op)) (take_all c.loop-piece.piece-index pieces c.loop-piece-test.false) in
    c.with_gone.ensures ∙ ap (λ (t : Tally). plus t (tally (gone last op))) all
    ∙ plus-last (joined pieces) last op ∙ ap (λ l. tally (gone l op)) c.self.view_is
