-- What a reader believes of paths and targets.
use Rattle.web_path.proofs.SpelledLemmas.{view_of-path}
use Rattle.web_path.proofs.TargetLemmas.{target-read, target-written}
use Rattle.web_path.proofs.ViewLemmas.{view_of-some}

pub ruleset paths = (view_of-path, view_of-some)

pub ruleset targets = (target-read, target-written)
