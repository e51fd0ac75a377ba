-- An action by which no reply goes on leaves the marks.
use Rattle.srv_conn.proofs.StandLemmas.{notes-other}
use Rattle.srv_conn.proofs.replying.act_noted.Goals as goal

pub returns-in_default-clause-notes : goal.returns-in_default-clause-notes
returns-in_default-clause-notes g c = notes-other c.act.result c.args.trail.now c.in_default.not-Sent
