-- The count is that of the slabs.
use Rattle.std.proofs.Common.{ap, ◌∙◌}
use Rattle.dap_model.specs.Box.{box_len}
use Rattle.fm_twod.specs.Chosen.{Chosen}
use Rattle.fm_twod.proofs.section.Section.count.Goals as goal

pub returns : goal.returns
returns c = c.self.invariant.1 ∙ ap (λ (s : Chosen). box_len s.sent.slabs) c.self.view_is
