-- What is left of a turn follows in the array.
use Rattle.std.proofs.Common.{ℕ, ◌∙◌, min, ap}
use Rattle.dap_xdr.specs.Portion.{bits_in}
use Rattle.dap_xdr.proofs.PickedLemmas.{raw-picked}
use Rattle.dap_xdr.proofs.part.Part.raw.Goals as goal

pub returns : goal.returns
returns c =
    raw-picked c.args.self.now (bits_in c.args.self.now) c.args.element c.min-most.result c.args.most
    c.args.index.now c.stored.result.now c.left.ensures.portion c.requires.element c.requires.index
    (c.min-most.ensures ∙ ap (λ (m : ℕ). min c.args.most m) c.left.ensures.exact) c.stored.ensures
