-- A path after none of the fronts is of no view.
use Rattle.web_path.proofs.ViewLemmas.{no_view}
use Rattle.web_path.proofs.view.other_view.Goals as goal

pub returns-in-None : goal.returns-in-None
returns-in-None c =
    no_view c.args.site.now c.args.path.now c.as_slice-name.result.now c.as_slice-name.ensures c.in_default.ensures
    c.in_default-moment_after.ensures c.in_default-seconds_after.ensures c.in-None.ensures
