use Rattle.std.proofs.Common.{ℕ, All, List, subst}
use Rattle.std.specs.List.{AllZip}
use Rattle.fm_model.specs.declared.op.Op.{Op}
use Rattle.srv_workers.specs.Course.{HasLearnt, HasSeen}
use Rattle.srv_workers.proofs.course.learn_once.Goals as goal

-- each has learnt the logs of the desks
pub returns-clause-learn : goal.returns-clause-learn
returns-clause-learn g c =
    subst (λ (log : ℕ → List Op). AllZip (HasLearnt g.X.Desks.means log) c.args.staff.now c.learn_each.new.staff)
    c.receipts-all.ensures c.learn_each.ensures.learn

-- each has seen just those
pub returns-clause-seen : goal.returns-clause-seen
returns-clause-seen g c level =
    subst (λ (log : ℕ → List Op). All (HasSeen g.X.Desks.means log) c.learn_each.new.staff)
    c.receipts-all.ensures (c.learn_each.ensures.seen level)
