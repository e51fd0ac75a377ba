use Rattle.std.proofs.Common.{◌∙◌, arith, sym, true≢false}
use Rattle.srv_workers.specs.Course.{HasLearnt, HasSeen}
use Rattle.srv_workers.proofs.CourseLemmas.{FirstChanged-all, FirstChanged-next, seen-next}
use Rattle.srv_workers.proofs.PairLemmas.{All-whole}
use Rattle.srv_workers.proofs.course.learn_each.Goals as goal
use Rattle.srv_workers.proofs.course.learn_each.Goals.{then-not-learn, else-not-learn}

-- one worker more
pub loop-i-preserved : goal.loop-i-preserved
loop-i-preserved g c = (
  FirstChanged-next (HasLearnt g.X.Desks.means (g.X.Desks.told c.args.all.now)) c.loop-i.i c.args.staff.now
      c.loop-i.staff c.index-staff-i.result c.learn.new.worker (omega arith) c.loop-i.invariant.0
      c.learn.ensures.learns,
  λ level. elim c.if-not-learn.branch [
    | then-not-learn w ↦ absurd (true≢false (sym level ∙ w.level-is))
    | else-not-learn w ↦ seen-next (HasSeen g.X.Desks.means (g.X.Desks.told c.args.all.now)) c.loop-i.i c.loop-i.staff
        c.learn.new.worker (omega arith) (c.loop-i.invariant.1 (sym w.level-is ∙ level))
        (c.learn.ensures.seen w.if-not-learn.false)
  ],
)

-- all workers
pub returns-clause-learn : goal.returns-clause-learn
returns-clause-learn g c =
    FirstChanged-all (HasLearnt g.X.Desks.means (g.X.Desks.told c.args.all.now)) c.loop-i.i c.args.staff.now
    c.loop-i.staff (omega arith) c.loop-i.invariant.0

pub returns-clause-seen : goal.returns-clause-seen
returns-clause-seen g c level =
    All-whole (HasSeen g.X.Desks.means (g.X.Desks.told c.args.all.now)) c.loop-i.i c.loop-i.staff (omega arith)
    (c.loop-i.invariant.1 level)
