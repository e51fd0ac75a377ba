use Rattle.std.proofs.Common.{◌≡◌, ◌+◌, length, sum}
use Rattle.pub_snap.proofs.share.count_all.Given as goal

abbrev pub invariant-loop-share : goal.invariant-loop-share
invariant-loop-share g l =
    (l.all.amount ≡ l.total) × (l.total + sum l.items.items ≡ sum l.fn.shares)
    × (l.all.parts + length l.items.items ≡ length l.fn.shares) × (l.book.total ≡ l.fn.book.total)

abbrev pub decreases-loop-share : goal.decreases-loop-share
decreases-loop-share g l = length l.items.items
