-- What the operation leaves, and the others so far.
use Rattle.std.proofs.Common.{◌≡◌, ◌++◌, take}
use Rattle.std.specs.Prelude.{filter}
use Rattle.fm_list.specs.Change.{keeps}
use Rattle.fm_list.proofs.part.part_after.Given as goal

abbrev pub invariant-loop-file : goal.invariant-loop-file
invariant-loop-file l = l.next ≡ filter (keeps l.op) l.files ++ take l.file-index l.added
