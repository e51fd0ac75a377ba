-- The first prototypes have blanks.
use Rattle.std.proofs.Common.{take}
use Rattle.srv_workers.specs.Opened.{AreBlanks}
use Rattle.srv_workers.proofs.blanks.blanks_of.Given as goal

abbrev pub invariant-loop-proto : goal.invariant-loop-proto
invariant-loop-proto l = AreBlanks l.doors l.clocks (take l.proto-index l.protos) l.blanks
