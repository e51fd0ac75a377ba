-- The index list of an element lies within the dimensions.
use Rattle.std.proofs.Common.{◌≡◌, ◌<◌, ◌^◌, ◌∙◌, List, ℕ, length, sym, ap, ap₂, subst}
use Rattle.dap_model.specs.Box.{box_len, index_at}
use Rattle.dap_model.specs.declared.declaration.DapKind.TheVariants.{Text}
use Rattle.fm_dataset.specs.Values.{text_of_part}
use Rattle.dap_xdr.specs.Portion.{text_in, Portion}
use Rattle.dap_xdr.proofs.ColumnLemmas.{text-asked, text-short}
use Rattle.dap_xdr.proofs.part.Part.text.Goals as goal

pub text-requires : goal.text-requires
text-requires c =
    let n = c.self.inside in
    text-asked n.column n.sent.now n.array.now c.self.invariant.0 c.self.invariant.1 c.args.element c.args.index.now
    (subst (λ (p : Portion). c.args.element < box_len p.sent.slabs) (sym c.self.view_is) c.requires.element)
    (subst (λ (p : Portion). c.args.index.now ≡ index_at p.sent.slabs c.args.element) (sym c.self.view_is)
    c.requires.index)
    (subst (λ (p : Portion). p.array.kind ≡ Text) (sym c.self.view_is) c.requires.text)

pub returns-clause-short : goal.returns-clause-short
returns-clause-short c =
    let n = c.self.inside in
    subst (λ (l : List ℕ). length l < 2 ^ 32) (sym c.text.ensures.value)
    (text-short n.column n.sent.now n.array.now c.self.invariant.0 c.self.invariant.1 c.args.element c.args.index.now
    (subst (λ (p : Portion). c.args.element < box_len p.sent.slabs) (sym c.self.view_is) c.requires.element)
    (subst (λ (p : Portion). c.args.index.now ≡ index_at p.sent.slabs c.args.element) (sym c.self.view_is)
    c.requires.index)
    (subst (λ (p : Portion). p.array.kind ≡ Text) (sym c.self.view_is) c.requires.text))

pub returns-clause-exact : goal.returns-clause-exact
returns-clause-exact c =
    let n = c.self.inside in
    c.text.ensures.value
    ∙ ap₂ (λ (d p : ℕ). text_of_part n.column.shown d p c.args.index.now) c.self.invariant.0.decl_is
    c.self.invariant.0.part_is
    ∙ ap (λ (p : Portion). text_in p c.args.index.now) c.self.view_is
