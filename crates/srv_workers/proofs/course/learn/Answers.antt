use Rattle.std.proofs.Common.{subst, sym}
use Rattle.srv_workers.specs.declared.worker.Worker.TheVariants.{Serve, TakeIn, LetGo}
use Rattle.srv_workers.specs.Course.{HasLearnt}
use Rattle.srv_workers.proofs.LearnLemmas.{learnt-clock, learnt-eyes, learnt-inbox, seen-clock, seen-eyes, seen-inbox}
use Rattle.srv_workers.proofs.course.learn.Goals as goal

-- a door's worker
pub returns-in-Serve-clause-learns : goal.returns-in-Serve-clause-learns
returns-in-Serve-clause-learns g c =
    subst (λ worker. HasLearnt g.X.Desks.means (g.X.Desks.told c.args.all.now) worker (Serve c.in-Serve.door
    c.in-Serve.number c.learn_all.new.eyes c.in-Serve.report)) (sym c.in-Serve.is)
    (learnt-eyes g.X.Desks.means (g.X.Desks.told c.args.all.now) c.in-Serve.door c.in-Serve.number c.in-Serve.eyes
    c.learn_all.new.eyes c.in-Serve.report c.learn_all.ensures.learns)

pub returns-in-Serve-clause-seen : goal.returns-in-Serve-clause-seen
returns-in-Serve-clause-seen g c level =
    seen-eyes g.X.Desks.means (g.X.Desks.told c.args.all.now) c.in-Serve.door c.in-Serve.number c.learn_all.new.eyes
    c.in-Serve.report (c.learn_all.ensures.seen level)

-- an inbox's
pub returns-in-TakeIn-clause-learns : goal.returns-in-TakeIn-clause-learns
returns-in-TakeIn-clause-learns g c =
    subst (λ worker. HasLearnt g.X.Desks.means (g.X.Desks.told c.args.all.now) worker (TakeIn c.in-TakeIn.inbox
    c.learn.new.hand c.in-TakeIn.report)) (sym c.in-TakeIn.is)
    (learnt-inbox g.X.Desks.means (g.X.Desks.told c.args.all.now) c.in-TakeIn.inbox c.in-TakeIn.hand c.learn.new.hand
    c.in-TakeIn.report c.learn.ensures.learns)

pub returns-in-TakeIn-clause-seen : goal.returns-in-TakeIn-clause-seen
returns-in-TakeIn-clause-seen g c level =
    seen-inbox g.X.Desks.means (g.X.Desks.told c.args.all.now) c.in-TakeIn.inbox c.learn.new.hand c.in-TakeIn.report
    (c.learn.ensures.seen level)

-- a clock's
pub returns-in-LetGo-clause-learns : goal.returns-in-LetGo-clause-learns
returns-in-LetGo-clause-learns g c =
    subst (λ worker. HasLearnt g.X.Desks.means (g.X.Desks.told c.args.all.now) worker (LetGo c.in-LetGo.clock
    c.learn-in-LetGo.new.hand c.in-LetGo.report)) (sym c.in-LetGo.is)
    (learnt-clock g.X.Desks.means (g.X.Desks.told c.args.all.now) c.in-LetGo.clock c.in-LetGo.hand
    c.learn-in-LetGo.new.hand c.in-LetGo.report c.learn-in-LetGo.ensures.learns)

pub returns-in-LetGo-clause-seen : goal.returns-in-LetGo-clause-seen
returns-in-LetGo-clause-seen g c level =
    seen-clock g.X.Desks.means (g.X.Desks.told c.args.all.now) c.in-LetGo.clock c.learn-in-LetGo.new.hand
    c.in-LetGo.report (c.learn-in-LetGo.ensures.seen level)
