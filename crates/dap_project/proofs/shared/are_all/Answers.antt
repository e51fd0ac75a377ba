-- Slabs that are alike are the same.
use Rattle.std.proofs.Common.{sym, ◌∙◌}
use Rattle.dap_model.specs.Picking.{whole_slabs}
use Rattle.dap_project.proofs.SlotLemmas.{same_slabs}
use Rattle.dap_project.proofs.shared.are_all.Goals as goal

pub returns : goal.returns
returns c = λ is. same_slabs c.args.slabs.now (whole_slabs c.args.dims.now) (sym c.are_whole.ensures ∙ is)
