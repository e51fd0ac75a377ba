use Rattle.std.proofs.Common.{◌≡◌, replicate}
use Rattle.pub_snap.specs.Opening.{unused}
use Rattle.pub_snap.proofs.blank.unseated.Given as goal

abbrev pub invariant-loop-made : goal.invariant-loop-made
invariant-loop-made g l = l.passes ≡ replicate l._made (unused g.N.Name.proto)
