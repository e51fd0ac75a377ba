use Rattle.std.proofs.Common.{sym, ap, ◌∙◌}
use Rattle.fm_model.specs.Attribute.{trimmed}
use Rattle.fm_dataset.proofs.ZeroLemmas.{trimmed-more}
use Rattle.fm_dataset.proofs.zeros.without_eights.Goals as goal

pub loop-front-preserved : goal.loop-front-preserved
loop-front-preserved c =
    sym (trimmed-more c.in-Some.front.now) ∙ sym (ap trimmed c.in-Some.ensures) ∙ c.loop-front.invariant
