-- The parts of the first workers were put behind the others.
use Rattle.std.proofs.Common.{◌≡◌, take, drop}
use Rattle.srv_workers.specs.Parts.{PutsParts}
use Rattle.srv_workers.proofs.parts.take_apart.Given as goal

abbrev pub invariant-loop-number : goal.invariant-loop-number
invariant-loop-number g l =
    PutsParts g.X.Desks.means g.X.Desks.slots (take l._number l.fn.staff) l.fn.parts l.parts
    × (l.staff ≡ drop l._number l.fn.staff)
