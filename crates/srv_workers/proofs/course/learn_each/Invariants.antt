-- The first workers have learnt the logs, and have seen just those where that is so of all.
use Rattle.std.proofs.Common.{All, IsTrue, take}
use Rattle.srv_workers.specs.Course.{HasLearnt, HasSeen}
use Rattle.srv_workers.proofs.CourseLemmas.{FirstChanged}
use Rattle.srv_workers.proofs.course.learn_each.Given as goal

abbrev pub invariant-loop-i : goal.invariant-loop-i
invariant-loop-i g l =
    FirstChanged (HasLearnt g.X.Desks.means (g.X.Desks.told l.all)) l.i l.fn.staff l.staff
    × (IsTrue l.level → All (HasSeen g.X.Desks.means (g.X.Desks.told l.all)) (take l.i l.staff))
