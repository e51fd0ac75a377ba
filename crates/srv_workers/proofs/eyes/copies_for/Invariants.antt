-- The copies made so far.
use Rattle.std.proofs.Common.{◌≡◌, replicate}
use Rattle.srv_workers.proofs.eyes.copies_for.Given as goal

abbrev pub invariant-loop-made : goal.invariant-loop-made
invariant-loop-made l = l.copies ≡ replicate l._made l.protos
