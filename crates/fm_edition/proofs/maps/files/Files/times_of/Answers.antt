-- The run's times in one more piece, and in the last files.
use Rattle.std.proofs.Common.{◌++◌, List, ℤ, rules, ap, ap₂, sym, ◌∙◌, SFits, w64}
use Rattle.std.proofs.lemmas.Int.{to_z-of_z}
use Rattle.std.proofs.lemmas.List.{take_all}
use Rattle.fm_model.specs.Cell.{times_of, times_of_run}
use Rattle.fm_model.specs.Rising.{rising}
use Rattle.fm_edition.specs.Instants.{run_times}
use Rattle.fm_edition.specs.Pieces.{joined}
use Rattle.fm_edition.proofs.FoundLemmas.{times-behind, times-more}
use Rattle.fm_edition.proofs.maps.files.Files.times_of.Goals as goal

pub loop-piece-init : goal.loop-piece-init
loop-piece-init c = c.new-times.ensures

pub loop-piece-preserved : goal.loop-piece-preserved
loop-piece-preserved c =
    let a : SFits w64 c.args.run = search rules in
    let pieces = c.self.inside.pieces.now in
    let pushed = simp to_z-of_z at c.in_ok-push_times.ensures in
    let before = simp to_z-of_z at c.loop-piece.invariant in
    simp to_z-of_z (pushed
    ∙ ap₂ (λ (x y : List ℤ). x ++ y) before (ap (run_times c.args.run) (c.as_slice.ensures ∙ c.get.ensures))
    ∙ sym (times-more c.args.run pieces c.loop-piece.piece-index c.piece-item.result c.loop-piece-test.true
    c.piece-item.is))

pub returns : goal.returns
unfolding times_of_run times_of
returns c =
    let a : SFits w64 c.args.run = search rules in
    let pieces = c.self.inside.pieces.now in
    let last = c.self.inside.last.now in
    let pushed = simp to_z-of_z at c.in_ok-push_times-2.ensures in
    let before = simp to_z-of_z at c.loop-piece.invariant in
    c.in_order.ensures ∙ ap rising (pushed
    ∙ ap (λ l. l ++ run_times c.args.run last) (before ∙ ap (λ l. run_times c.args.run (joined l))
    (take_all c.loop-piece.piece-index pieces c.loop-piece-test.false))
    ∙ sym (times-behind c.args.run (joined pieces) last) ∙ ap (run_times c.args.run) c.self.view_is)
