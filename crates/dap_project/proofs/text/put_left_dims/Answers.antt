-- Slabs that stand there can be cut.
use Rattle.std.proofs.Common.{subst, sym, ◌∙◌}
use Rattle.dap_project.specs.Checks.{AreCuts}
use Rattle.dap_project.proofs.SlotLemmas.{some_whole}
use Rattle.dap_project.proofs.text.put_left_dims.Goals as goal

pub put_cut_dims-requires : goal.put_cut_dims-requires
put_cut_dims-requires c =
    subst (AreCuts c.args.dims.now)
    (some_whole c.args.dims.now c.args.slabs.now (sym c.is_empty.ensures ∙ c.if-is_empty.false)) c.requires
