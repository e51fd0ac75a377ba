-- Each worker keeps what it has.
use Rattle.std.specs.List.{AllZip}
use Rattle.srv_workers.specs.Course.{Keeps}
use Rattle.srv_workers.proofs.course.learn_all.Given as goal

abbrev pub invariant-loop : goal.invariant-loop
invariant-loop g l =
    (goal.iterator-loop g).can_next l.iterator' × (goal.iterator-loop g).is_finite l.iterator'
    × AllZip (Keeps g.X.Desks.means) l.fn.staff l.staff
