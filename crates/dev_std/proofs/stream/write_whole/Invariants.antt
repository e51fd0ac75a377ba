-- The bytes before `written` were written, in order and once.
use Rattle.std.proofs.Common.{◌≤◌, ◌-◌, length, take}
use Rattle.std.specs.Io.KnownBytes.{Appends}
use Rattle.dev_std.proofs.stream.write_whole.Given as goal

abbrev pub invariant-whole : goal.invariant-whole
invariant-whole g l = record {
  within : l.written ≤ length l.bytes;
  bytes : Appends (g.W.Write.contents l.fn.writer) (g.W.Write.contents l.writer) (take l.written l.bytes);
}

abbrev pub decreases-whole : goal.decreases-whole
decreases-whole g l = length l.bytes - l.written
