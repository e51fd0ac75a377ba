-- One more of the others.
use Rattle.std.proofs.Common.{◌++◌, ap, rules, ◌∙◌}
use Rattle.std.specs.Prelude.{filter}
use Rattle.std.proofs.lemmas.List.{append_assoc, take_all, take_more}
use Rattle.fm_list.specs.Change.{keeps}
use Rattle.fm_list.proofs.part.part_after.Goals as goal

pub loop-file-preserved : goal.loop-file-preserved
loop-file-preserved c = search (rules, append_assoc, take_more)

pub returns : goal.returns
returns c = c.loop-file.invariant ∙ ap (λ l. filter (keeps c.args.op.now) c.args.files.now ++ l)
    (take_all c.loop-file.file-index c.args.added.now c.loop-file-test.false)
