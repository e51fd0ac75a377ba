-- By the phase.
use Rattle.web_session.proofs.StartLemmas.{start-same}
use Rattle.web_session.proofs.laws.asking_again_changes_nothing.Goals as goal

pub returns : goal.returns
returns c = λ s. start-same s
