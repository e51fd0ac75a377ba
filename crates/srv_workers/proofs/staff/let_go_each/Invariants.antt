-- The first clocks have their workers.
use Rattle.std.proofs.Common.{◌≡◌, ◌-◌, [], All, take, drop}
use Rattle.srv_workers.specs.Desks.{IsNew}
use Rattle.srv_workers.specs.Workers.{Adds}
use Rattle.srv_workers.proofs.staff.let_go_each.Given as goal

abbrev pub invariant-loop-number : goal.invariant-loop-number
invariant-loop-number g l =
    Adds g.X.Desks.means l.fn.staff.items l.staff.items [] [] (take l._number l.fn.clocks)
    [] (take l._number l.fn.hands)
    × (l.clocks ≡ drop l._number l.fn.clocks)
    × (l.staff.free ≡ l.fn.staff.free - l._number)
    × (l.hands ≡ drop l._number l.fn.hands)
    × All (λ hand. IsNew g.X.Desks.means.them (g.X.Desks.means.publisher hand)) l.hands
