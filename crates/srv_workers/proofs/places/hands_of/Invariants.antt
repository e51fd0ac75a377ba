-- The first shares have their places.
use Rattle.std.proofs.Common.{◌≡◌, ◌-◌, length, replicate}
use Rattle.pub_snap.specs.Opening.{unused}
use Rattle.srv_workers.specs.Places.{new_hand}
use Rattle.srv_workers.proofs.places.hands_of.Given as goal

abbrev pub invariant-loop-number : goal.invariant-loop-number
invariant-loop-number g l =
    (l.hands.items ≡ replicate l._number (new_hand g.N.Name.proto))
    × (l.passes ≡ replicate (length l.fn.shares - l._number) (unused g.N.Name.proto))
    × (l.protos ≡ replicate (length l.fn.shares - l._number) g.N.Name.proto)
    × (l.shares ≡ replicate (length l.fn.shares - l._number) 0)
    × (l.hands.free ≡ l.fn.room.free - l._number)
