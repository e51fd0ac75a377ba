-- The numbers that stand in a file are those of the array.
use Rattle.std.proofs.Common.{rules, ◌≡◌, ◌≢◌, ◌<◌, ◌∙◌, sym, subst}
use Rattle.nc_model.specs.Format.{IsBytes}
use Rattle.dap_model.specs.Box.{box_len, index_at}
use Rattle.dap_model.specs.declared.declaration.DapKind.TheVariants.{Text}
use Rattle.dap_xdr.specs.Portion.{bits_in, Portion}
use Rattle.dap_xdr.specs.Stretch.{AreStored}
use Rattle.dap_xdr.proofs.ColumnLemmas.{number-asked, stored-shown}
use Rattle.dap_xdr.proofs.part.Part.stored.Goals as goal

pub raw-lent-requires : goal.raw-lent-requires
raw-lent-requires c =
    let n = c.self.inside in
    c.is_stored.ensures.asked c.if-not-is_stored.false c.args.index.now
    (number-asked n.column n.sent.now n.array.now c.self.invariant.0 c.self.invariant.1 c.args.element c.args.index.now
    (subst (λ (p : Portion). c.args.element < box_len p.sent.slabs) (sym c.self.view_is) c.requires.element)
    (subst (λ (p : Portion). c.args.index.now ≡ index_at p.sent.slabs c.args.element) (sym c.self.view_is)
    c.requires.index)
    (subst (λ (p : Portion). p.array.kind ≢ Text) (sym c.self.view_is) c.requires.number))

pub returns : goal.returns
returns c =
    let n = c.self.inside in
    let bytes : IsBytes c.raw-lent.result.now = search rules in
    subst (λ (p : Portion). AreStored p.array (bits_in p) c.args.index.now c.args.most c.raw-lent.result.now)
    c.self.view_is
    (stored-shown n.column n.sent.now n.array.now c.self.invariant.0 c.self.invariant.1 c.args.element c.args.index.now
    (subst (λ (p : Portion). c.args.element < box_len p.sent.slabs) (sym c.self.view_is) c.requires.element)
    (subst (λ (p : Portion). c.args.index.now ≡ index_at p.sent.slabs c.args.element) (sym c.self.view_is)
    c.requires.index) c.args.most c.raw-lent.result.now
    (subst (λ (p : Portion). p.array.kind ≢ Text) (sym c.self.view_is) c.requires.number)
    (sym c.is_stored.ensures.value ∙ c.if-not-is_stored.false) c.raw-lent.ensures.value bytes)
