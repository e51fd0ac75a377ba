-- Slabs that fit dimensions are as many, and few.
use Rattle.std.proofs.Common.{ap, length, ◌∙◌, arith}
use Rattle.fm_twod.specs.Chosen.{Chosen}
use Rattle.fm_twod.proofs.ChosenLemmas.{few-slabs}
use Rattle.fm_twod.proofs.section.Section.rank.Goals as goal

pub returns-clause-value : goal.returns-clause-value
returns-clause-value c = ap length c.slabs.ensures ∙ ap (λ (s : Chosen). length s.sent.slabs) c.self.view_is

pub returns-clause-few : goal.returns-clause-few
returns-clause-few c = omega (arith, ap length c.slabs.ensures, few-slabs _ c.self.invariant.0)
