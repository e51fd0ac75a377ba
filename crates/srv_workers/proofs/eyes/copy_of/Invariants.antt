-- The first prototypes were copied.
use Rattle.std.proofs.Common.{◌≡◌, take}
use Rattle.srv_workers.proofs.eyes.copy_of.Given as goal

abbrev pub invariant-loop-proto : goal.invariant-loop-proto
invariant-loop-proto l = l.copy ≡ take l.proto-index l.protos
