-- The extent counts the index lists of the box.
use Rattle.std.proofs.Common.{ap, ◌∙◌}
use Rattle.dap_model.specs.Box.{box_len}
use Rattle.dap_xdr.specs.Portion.{Portion}
use Rattle.dap_xdr.specs.declared.slabs.Extent.{Extent}
use Rattle.dap_xdr.proofs.StretchLemmas.{extent-count}
use Rattle.dap_xdr.proofs.part.Part.count.Goals as goal

pub returns : goal.returns
returns c =
    ap (λ (e : Extent). e.count) c.self.invariant.2
    ∙ extent-count _ _ c.self.invariant.1.fits
    ∙ ap (λ (n : Portion). box_len n.sent.slabs) c.self.view_is
