-- The first pairs stand there, and the others are left.
use Rattle.std.proofs.Common.{◌≡◌, ◌-◌, ◌++◌, length}
use Rattle.srv_workers.specs.Joined.{rows}
use Rattle.srv_workers.proofs.joining.rows_of.Given as goal

abbrev pub invariant-loop-number : goal.invariant-loop-number
invariant-loop-number g l =
    (l.row.items ++ rows l.first l.others ≡ rows l.fn.first l.fn.others)
    × (length l.first ≡ length l.fn.first - l._number)
    × (length l.others ≡ length l.fn.first - l._number)
    × (l.row.free ≡ l.fn.room.free - l._number)
