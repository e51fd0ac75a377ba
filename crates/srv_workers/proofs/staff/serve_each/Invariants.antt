-- The first doors have their workers.
use Rattle.std.proofs.Common.{◌≡◌, ◌-◌, [], All, length, take, drop}
use Rattle.srv_workers.specs.Desks.{IsUnseen}
use Rattle.srv_workers.specs.Workers.{Adds}
use Rattle.srv_workers.proofs.staff.serve_each.Given as goal

abbrev pub invariant-loop-number : goal.invariant-loop-number
invariant-loop-number g l =
    Adds g.X.Desks.means l.fn.staff.items l.staff.items (take l.number l.fn.doors) [] [] [] []
    × (l.doors ≡ drop l.number l.fn.doors)
    × (l.staff.free ≡ l.fn.staff.free - l.number)
    × (length l.eyes ≡ length l.fn.doors - l.number)
    × All (λ those. IsUnseen (g.X.Desks.means.views those)) l.eyes
