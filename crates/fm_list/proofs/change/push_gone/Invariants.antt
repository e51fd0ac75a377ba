-- The files so far that are taken out are added.
use Rattle.std.proofs.Common.{◌≡◌, ◌++◌, take}
use Rattle.fm_list.specs.Change.{gone}
use Rattle.fm_list.proofs.change.push_gone.Given as goal

abbrev pub invariant-loop-file : goal.invariant-loop-file
invariant-loop-file l = l.gone ≡ l.fn.gone ++ gone (take l.file-index l.files) l.op
