-- Slabs that stand there can be cut.
use Rattle.std.proofs.Common.{subst, sym, ◌∙◌}
use Rattle.dap_project.specs.Checks.{AreCuts}
use Rattle.dap_project.proofs.SlotLemmas.{some_whole}
use Rattle.dap_project.proofs.cut.cut_or_copied.Goals as goal

pub cut_dims-requires : goal.cut_dims-requires
cut_dims-requires c =
    subst (AreCuts c.args.dims.now)
    (some_whole c.args.dims.now c.args.slabs.now (sym c.is_empty.ensures ∙ c.if-is_empty.false)) c.requires
