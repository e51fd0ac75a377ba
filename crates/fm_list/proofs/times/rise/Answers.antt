-- Times of which each is later than the one before it rise.
use Rattle.std.proofs.Common.{◌∙◌, sym}
use Rattle.fm_list.proofs.TimeSteps.{rise-rises}
use Rattle.fm_list.proofs.times.rise.Goals as goal

pub returns : goal.returns
returns c = λ true. rise-rises _ c.args.times.now (sym c.rise_from.ensures ∙ true)
