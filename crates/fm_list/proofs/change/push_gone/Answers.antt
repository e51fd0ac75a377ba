-- One more file is taken out or not.
use Rattle.std.proofs.Common.{sym, arith}
use Rattle.std.specs.Prelude.{not}
use Rattle.std.proofs.lemmas.List.{append-nil, append_assoc}
use Rattle.std.proofs.lemmas.List.Elements.{filter_more}
use Rattle.fm_model.specs.declared.loaded.Loaded.{Loaded}
use Rattle.fm_list.specs.Change.{gone, keeps}
use Rattle.fm_list.proofs.change.push_gone.Goals as goal
use Rattle.fm_list.proofs.change.push_gone.Goals.{then-not-keeps+in_ok-share+in_ok-push, else-not-keeps}

pub loop-file-init : goal.loop-file-init
unfolding gone
loop-file-init c = sym (append-nil c.args.gone.now)

pub loop-file-preserved : goal.loop-file-preserved
unfolding gone
loop-file-preserved c =
    let more = filter_more (λ (f : Loaded). not (keeps c.args.op.now f)) c.args.files.now c.loop-file.file-index
    c.file-item.result c.loop-file-test.true in
    elim c.if-not-keeps.branch [
      | then-not-keeps+in_ok-share+in_ok-push w ↦ grind
          (arith, more, append-nil, append_assoc, w.gone-is, w.if-not-keeps.true, c.keeps.ensures)
      | else-not-keeps w ↦ grind (arith, more, append-nil, w.gone-is, w.if-not-keeps.false, c.keeps.ensures)
    ]
