-- One more file goes or stays.
use Rattle.std.proofs.Common.{◌≡◌, false, take, sym, ap, ◌∙◌}
use Rattle.std.proofs.lemmas.List.{take_all}
use Rattle.fm_model.specs.declared.full.Tally.{Tally}
use Rattle.fm_model.specs.declared.loaded.Loaded.{Loaded}
use Rattle.fm_model.specs.declared.op.Op.TheVariants.{Put}
use Rattle.fm_model.specs.Collection.{tally}
use Rattle.fm_list.specs.Change.{gone, keeps}
use Rattle.fm_edition.specs.Amounts.{plus, with_added}
use Rattle.fm_edition.proofs.GoneLemmas.{HasRoom-gone, plus-added, plus-none, tally-gone, tally-kept}
use Rattle.fm_edition.proofs.counting.with_gone.Goals as goal
use Rattle.fm_edition.proofs.counting.with_gone.Goals.{then-not-keeps, else-not-keeps}

pub loop-file-init : goal.loop-file-init
unfolding gone
loop-file-init c = sym (plus-none c.args.before)

pub with_file-sum-requires : goal.with_file-sum-requires
with_file-sum-requires c =
    let files = c.args.files.now in
    let op = c.args.op.now in
    let at = c.loop-file.file-index in
    let file = c.file-item.result in
    let goes : keeps op file ≡ false = sym (c.keeps.ensures ∙ ap (keeps op) c.get-file.ensures)
    ∙ c.if-not-keeps.true in
    let so_far : c.loop-file.sum ≡ plus c.args.before (tally (gone (take at files) op)) = c.loop-file.invariant in
    let room = HasRoom-gone c.args.before files op at file c.loop-file-test.true c.file-item.is goes c.requires in
    record {
      files = rw so_far room.files;
      rows = rw (so_far, c.get-file.ensures) room.rows;
      size = rw (so_far, c.get-file.ensures) room.size;
    }

pub loop-file-preserved : goal.loop-file-preserved
loop-file-preserved c =
    let files = c.args.files.now in
    let op = c.args.op.now in
    let at = c.loop-file.file-index in
    let file = c.file-item.result in
    let before = c.args.before in
    let test : keeps op file ≡ c.keeps.result = sym (c.keeps.ensures ∙ ap (keeps op) c.get-file.ensures) in
    elim c.if-not-keeps.branch [
      | then-not-keeps w ↦
          w.sum-is ∙ w.with_file-sum.ensures
          ∙ ap (λ (f : Loaded). with_added (Put f) c.loop-file.sum) c.get-file.ensures
          ∙ ap (λ (t : Tally). with_added (Put file) t) c.loop-file.invariant
          ∙ plus-added file before (tally (gone (take at files) op))
          ∙ ap (plus before)
          (sym (tally-gone files op at file c.loop-file-test.true c.file-item.is (test ∙ w.if-not-keeps.true)))
      | else-not-keeps w ↦
          w.sum-is ∙ c.loop-file.invariant
          ∙ ap (plus before)
          (sym (tally-kept files op at file c.loop-file-test.true c.file-item.is (test ∙ w.if-not-keeps.false)))
    ]

pub returns : goal.returns
returns c = c.loop-file.invariant ∙ ap (λ l. plus c.args.before (tally (gone l c.args.op.now)))
    (take_all c.loop-file.file-index c.args.files.now c.loop-file-test.false)
