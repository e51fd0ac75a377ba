use Rattle.srv_workers.proofs.CourseLemmas.{begin-turn, keeps-start, keeps-turn, sound-turn}
use Rattle.srv_workers.proofs.course.learn_all.Goals as goal

-- each has what it has
pub loop-init : goal.loop-init
loop-init g c = (tt, tt, keeps-start g.X.Desks.means c.args.staff.now)

-- what the workers had seen begins the logs
pub returns-then-learn_once-clause-begin : goal.returns-then-learn_once-clause-begin
returns-then-learn_once-clause-begin g c =
    begin-turn g.X.Desks.means (g.X.Desks.logs c.args.desks.now) c.args.staff.now c.loop.staff c.learn_once.new.staff
    c.loop.invariant.2 c.learn_once.ensures.learn (c.learn_once.ensures.seen c.if-learn_once.true)

-- they keep what they have
pub returns-then-learn_once-clause-keep : goal.returns-then-learn_once-clause-keep
returns-then-learn_once-clause-keep g c =
    keeps-turn g.X.Desks.means (g.X.Desks.logs c.args.desks.now) c.args.staff.now c.loop.staff c.learn_once.new.staff
    c.loop.invariant.2 c.learn_once.ensures.learn

-- the logs are sound
pub returns-then-learn_once-clause-sound : goal.returns-then-learn_once-clause-sound
returns-then-learn_once-clause-sound g c some =
    sound-turn g.X.Desks.means (g.X.Desks.logs c.args.desks.now) c.args.staff.now c.loop.staff c.learn_once.new.staff
    some c.loop.invariant.2 c.learn_once.ensures.learn (c.learn_once.ensures.seen c.if-learn_once.true)

-- each keeps what it has through one turn more
pub loop-preserved : goal.loop-preserved
loop-preserved g c = (
  tt,
  tt,
  keeps-turn g.X.Desks.means (g.X.Desks.logs c.args.desks.now) c.args.staff.now c.loop.staff c.learn_once.new.staff
      c.loop.invariant.2 c.learn_once.ensures.learn,
)
