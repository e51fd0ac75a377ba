-- A target that is read is one that is written, and the other way.
use Rattle.web_path.proofs.TargetLemmas.{target-read}
use Rattle.web_path.proofs.laws.targets_are_those_of_views.Goals as goal

pub returns-clause-read : goal.returns-clause-read
returns-clause-read c target of = target-read c.args.site.now c.args.text.now target of
