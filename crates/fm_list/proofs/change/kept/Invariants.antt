-- The files so far that are left.
use Rattle.std.proofs.Common.{◌≡◌, take}
use Rattle.std.specs.Prelude.{filter}
use Rattle.fm_list.specs.Change.{keeps}
use Rattle.fm_list.proofs.change.kept.Given as goal

abbrev pub invariant-loop-file : goal.invariant-loop-file
invariant-loop-file l = l.kept ≡ filter (keeps l.op) (take l.file-index l.files)
