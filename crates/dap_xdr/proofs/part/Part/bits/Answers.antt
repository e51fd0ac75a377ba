-- The index list of an element lies within the dimensions.
use Rattle.std.proofs.Common.{◌≡◌, ◌≢◌, ◌<◌, ◌∙◌, ℕ, sym, ap, ap₂, subst}
use Rattle.dap_model.specs.Box.{box_len, index_at}
use Rattle.dap_model.specs.declared.declaration.DapKind.TheVariants.{Text}
use Rattle.dap_model.specs.Xdr.{AreBitsOf}
use Rattle.fm_dataset.specs.Values.{bits_of}
use Rattle.dap_xdr.specs.Portion.{bits_in, Portion}
use Rattle.dap_xdr.proofs.ColumnLemmas.{array-is, number-asked}
use Rattle.dap_xdr.proofs.part.Part.bits.Goals as goal

pub bits-requires : goal.bits-requires
bits-requires c =
    let n = c.self.inside in
    number-asked n.column n.sent.now n.array.now c.self.invariant.0 c.self.invariant.1 c.args.element c.args.index.now
    (subst (λ (p : Portion). c.args.element < box_len p.sent.slabs) (sym c.self.view_is) c.requires.element)
    (subst (λ (p : Portion). c.args.index.now ≡ index_at p.sent.slabs c.args.element) (sym c.self.view_is)
    c.requires.index)
    (subst (λ (p : Portion). p.array.kind ≢ Text) (sym c.self.view_is) c.requires.number)

pub returns-clause-exact : goal.returns-clause-exact
returns-clause-exact c =
    let n = c.self.inside in
    c.bits.ensures.value
    ∙ ap₂ (λ (d p : ℕ). bits_of n.column.shown d p c.args.index.now) c.self.invariant.0.decl_is
    c.self.invariant.0.part_is
    ∙ ap (λ (p : Portion). bits_in p c.args.index.now) c.self.view_is

pub returns-clause-width : goal.returns-clause-width
returns-clause-width c =
    let n = c.self.inside in
    subst (λ (p : Portion). AreBitsOf p.array.kind c.bits.result) c.self.view_is
    (c.bits.ensures.width n.array.now
    (array-is n.column n.sent.now n.array.now c.self.invariant.0 c.self.invariant.1 c.args.element c.args.index.now
    (subst (λ (p : Portion). c.args.element < box_len p.sent.slabs) (sym c.self.view_is) c.requires.element)
    (subst (λ (p : Portion). c.args.index.now ≡ index_at p.sent.slabs c.args.element) (sym c.self.view_is)
    c.requires.index)))
