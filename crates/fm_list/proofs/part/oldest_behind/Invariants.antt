-- The least run of the files so far, and of those that are left.
use Rattle.std.proofs.Common.{◌≡◌, drop}
use Rattle.fm_list.specs.Found.{oldest_behind}
use Rattle.fm_list.proofs.part.oldest_behind.Given as goal

abbrev pub invariant-loop-file : goal.invariant-loop-file
invariant-loop-file l = oldest_behind l.oldest (drop l.file-index l.files) ≡ oldest_behind l.fn.before l.files
