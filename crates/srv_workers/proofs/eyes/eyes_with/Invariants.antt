-- The first eyes have seen nothing, nor have the passes that are left, and there is a copy for each of these.
use Rattle.std.proofs.Common.{◌≡◌, ◌-◌, All, length, replicate}
use Rattle.srv_many.specs.Several.{views_in}
use Rattle.srv_workers.specs.Desks.{first_of, IsUnseen}
use Rattle.srv_workers.proofs.eyes.eyes_with.Given as goal

abbrev pub invariant-loop-number : goal.invariant-loop-number
invariant-loop-number g l =
    All (λ those. IsUnseen (g.X.Desks.means.views those)) l.eyes.items
    × (length l.eyes.items ≡ l._number)
    × All (λ row. IsUnseen (views_in (g.X.Passes.Row.known row))) l.passes
    × (length l.passes ≡ length l.fn.passes - l._number)
    × (l.copies ≡ replicate (length l.fn.passes - l._number)
    (first_of g.X.Desks.means.them.count g.X.Desks.means.them.proto))
    × (l.eyes.free ≡ l.fn.room.free - l._number)
