use Rattle.srv_workers.proofs.OneLemmas.{LearnsEach-row}
use Rattle.srv_workers.proofs.last.DeskBehind.learn_passes.Goals as goal

-- the log of the only desk
pub returns-clause-learns : goal.returns-clause-learns
returns-clause-learns g c =
    LearnsEach-row g.N.Name.proto c.args.all.now c.args.passes.now c.learn.new.self c.learn.ensures.own
    c.learn.ensures.told
