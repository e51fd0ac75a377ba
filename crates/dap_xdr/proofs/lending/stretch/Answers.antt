-- The stretch is one of the part that is sent.
use Rattle.std.proofs.Common.{subst, ◌∙◌}
use Rattle.dap_model.specs.declared.projection.Sent.{Sent}
use Rattle.fm_dataset.specs.Values.{Shown}
use Rattle.dap_xdr.specs.Datasets.{IsStretchOf}
use Rattle.dap_xdr.proofs.LendingLemmas.{stretch-of}
use Rattle.dap_xdr.proofs.PickedLemmas.{picked-none}
use Rattle.dap_xdr.proofs.lending.stretch.Goals as goal

pub stretch_in-requires : goal.stretch_in-requires
stretch_in-requires c = λ e. c.in_default.not-Text (c.kind.ensures ∙ e)

pub returns-in-Text : goal.returns-in-Text
returns-in-Text c = λ array is. picked-none

pub returns-in_default : goal.returns-in_default
returns-in_default c =
    subst (λ (shown : Shown). IsStretchOf shown c.args.sent.now c.args.element c.stretch_in.result.now)
    c.new-part.ensures.shown
    (subst (λ (sent : Sent). IsStretchOf c.new-part.result.shown sent c.args.element c.stretch_in.result.now)
    c.new-part.ensures.sent
    (stretch-of c.new-part.result c.args.element c.stretch_in.result.now c.new-part.ensures.portion
    c.stretch_in.ensures))
