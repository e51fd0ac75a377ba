-- How much there is with what goes of the files so far.
use Rattle.std.proofs.Common.{◌≡◌, take}
use Rattle.fm_model.specs.Collection.{tally}
use Rattle.fm_list.specs.Change.{gone}
use Rattle.fm_edition.specs.Amounts.{plus}
use Rattle.fm_edition.proofs.counting.with_gone.Given as goal

abbrev pub invariant-loop-file : goal.invariant-loop-file
invariant-loop-file l = l.sum ≡ plus l.fn.before (tally (gone (take l.file-index l.files) l.op))
