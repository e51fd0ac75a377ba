-- No entry before the index has the path.
use Rattle.std.proofs.Common.{◌≡◌, drop}
use Rattle.dev_memory.specs.Memory.{held}
use Rattle.dev_memory.proofs.mem_files.content_at.Given as goal

abbrev pub invariant-loop-entry : goal.invariant-loop-entry
invariant-loop-entry l = held l.entries l.path ≡ held (drop l.entry-index l.entries) l.path
