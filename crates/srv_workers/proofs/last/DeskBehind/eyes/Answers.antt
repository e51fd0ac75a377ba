use Rattle.srv_workers.proofs.OneLemmas.{unseen-row}
use Rattle.srv_workers.proofs.last.DeskBehind.eyes.Goals as goal

-- a pass is what a door's worker looks with
pub returns : goal.returns
returns g c = unseen-row g.N.Name.proto c.args.passes c.requires.unseen
