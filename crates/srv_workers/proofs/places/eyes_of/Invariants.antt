-- The first passes have their places.
use Rattle.std.proofs.Common.{◌≡◌, ◌-◌, length, replicate}
use Rattle.pub_snap.specs.Opening.{unused}
use Rattle.srv_workers.proofs.places.eyes_of.Given as goal

abbrev pub invariant-loop-number : goal.invariant-loop-number
invariant-loop-number g l =
    (l.eyes.items ≡ replicate l._number (unused g.N.Name.proto))
    × (l.passes ≡ replicate (length l.fn.passes - l._number) (unused g.N.Name.proto))
    × (l.protos ≡ replicate (length l.fn.passes - l._number) g.N.Name.proto)
    × (l.eyes.free ≡ l.fn.room.free - l._number)
