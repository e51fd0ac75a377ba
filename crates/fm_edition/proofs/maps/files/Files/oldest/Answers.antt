-- One more piece, and the last files.
use Rattle.std.proofs.Common.{ap, pos, rules, ◌∙◌, SFits, w64}
use Rattle.std.specs.Option.{unwrap_or}
use Rattle.std.proofs.lemmas.Int.{to_z-of_z}
use Rattle.fm_list.specs.Found.{oldest_behind}
use Rattle.fm_edition.specs.Indexes.{oldest_run}
use Rattle.fm_edition.proofs.FoundLemmas.{oldest-all, oldest-more}
use Rattle.fm_edition.proofs.maps.files.Files.oldest.Goals as goal

pub loop-piece-preserved : goal.loop-piece-preserved
loop-piece-preserved c =
    c.oldest_behind-least.ensures
    ∙ ap (λ o. oldest_behind o c.as_slice.result.now) c.loop-piece.invariant
    ∙ ap (oldest_behind _) (c.as_slice.ensures ∙ c.get.ensures)
    ∙ oldest-more c.self.inside.pieces.now c.loop-piece.piece-index c.piece-item.result c.loop-piece-test.true
    c.piece-item.is

pub returns : goal.returns
returns c =
    let a : SFits w64 c.unwrap_or.result = search rules in
    simp to_z-of_z (c.unwrap_or.ensures
    ∙ ap (λ o. unwrap_or o (pos 0)) (c.oldest_behind.ensures
    ∙ ap (λ o. oldest_behind o c.self.inside.last.now) c.loop-piece.invariant
    ∙ oldest-all c.self.inside.pieces.now c.self.inside.last.now c.loop-piece.piece-index c.loop-piece-test.false)
    ∙ ap oldest_run c.self.view_is)
