-- The index list of an element lies within the dimensions.
use Rattle.std.proofs.Common.{◌≡◌, ◌≢◌, ◌<◌, ◌∙◌, sym, ap, subst}
use Rattle.dap_model.specs.Box.{box_len, index_at}
use Rattle.dap_model.specs.declared.declaration.DapKind.TheVariants.{Text}
use Rattle.dap_model.specs.Xdr.{AreBitsOf}
use Rattle.fm_twod.specs.Chosen.{bits_in, Chosen}
use Rattle.fm_twod.proofs.ChosenLemmas.{has-number}
use Rattle.fm_twod.proofs.section.Section.bits.Goals as goal

pub bits_at-requires : goal.bits_at-requires
bits_at-requires c =
    has-number _ c.args.element c.args.index.now c.self.invariant.0
    (subst (λ (s : Chosen). s.array.kind ≢ Text) (sym c.self.view_is) c.requires.number)
    (subst (λ (s : Chosen). c.args.element < box_len s.sent.slabs) (sym c.self.view_is) c.requires.element)
    (subst (λ (s : Chosen). c.args.index.now ≡ index_at s.sent.slabs c.args.element) (sym c.self.view_is)
    c.requires.index)

pub returns-clause-exact : goal.returns-clause-exact
returns-clause-exact c =
    c.bits_at.ensures.value ∙ ap (λ (s : Chosen). bits_in s c.args.index.now) c.self.view_is

pub returns-clause-width : goal.returns-clause-width
returns-clause-width c =
    subst (λ (s : Chosen). AreBitsOf s.array.kind c.bits_at.result) c.self.view_is
    (c.bits_at.ensures.width c.self.inside.array.now c.self.invariant.0.part_is)
