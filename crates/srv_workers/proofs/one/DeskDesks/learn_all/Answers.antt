use Rattle.srv_workers.proofs.OneLemmas.{LearnsEach-one}
use Rattle.srv_workers.proofs.one.DeskDesks.learn_all.Goals as goal

-- the log of the only desk
pub returns-clause-learns : goal.returns-clause-learns
returns-clause-learns g c =
    LearnsEach-one c.args.all.now c.args.eyes.now c.learn.new.self c.learn.ensures.own c.learn.ensures.told
