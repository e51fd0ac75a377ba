-- One more file is left or not.
use Rattle.std.proofs.Common.{arith, subst, sym}
use Rattle.std.proofs.lemmas.List.{append-nil}
use Rattle.std.proofs.lemmas.List.Elements.{filter_more}
use Rattle.fm_list.specs.Change.{keeps, IsAmongGone}
use Rattle.fm_list.proofs.change.kept.Goals as goal
use Rattle.fm_list.proofs.change.kept.Goals.{then-stays+in_ok-share+in_ok-push, else-stays}

pub stays-requires : goal.stays-requires
stays-requires c = subst (IsAmongGone c.args.went.now c.args.op.now) (sym c.file-item.is)
    (c.requires c.loop-file.file-index c.file-item.result c.loop-file-test.true)

pub loop-file-preserved : goal.loop-file-preserved
loop-file-preserved c =
    let more = filter_more (keeps c.args.op.now) c.args.files.now c.loop-file.file-index c.file-item.result
    c.loop-file-test.true in
    elim c.if-stays.branch [
      | then-stays+in_ok-share+in_ok-push w ↦ grind
          (arith, more, append-nil, w.kept-is, w.if-stays.true, c.stays.ensures)
      | else-stays w ↦ grind (arith, more, append-nil, w.kept-is, w.if-stays.false, c.stays.ensures)
    ]
