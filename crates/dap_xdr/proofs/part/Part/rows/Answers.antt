-- Units that are left of the turns are rows of what stands in a file.
use Rattle.std.proofs.Common.{◌<◌, sym, subst}
use Rattle.dap_model.specs.Box.{box_len}
use Rattle.dap_xdr.specs.Portion.{IsPortion, Portion}
use Rattle.dap_xdr.specs.Rows.{AreRowsAt}
use Rattle.dap_xdr.specs.Stretch.{extent_of}
use Rattle.dap_xdr.specs.declared.slabs.Extent.{Extent}
use Rattle.dap_xdr.proofs.PickedLemmas.{left_of}
use Rattle.dap_xdr.proofs.TurnRowLemmas.{no-rows, rows-of, some-turns}
use Rattle.dap_xdr.proofs.part.Part.rows.Goals as goal

pub rows_at-rows-requires-clause-unit : goal.rows_at-rows-requires-clause-unit
rows_at-rows-requires-clause-unit c =
    (left_of _ _ c.args.element c.self.invariant.1 c.self.invariant.2
    (subst (λ (n : Portion). c.args.element < box_len n.sent.slabs) (sym c.self.view_is) c.requires.element)).some

pub rows_at-rows-requires-clause-turns : goal.rows_at-rows-requires-clause-turns
rows_at-rows-requires-clause-turns c =
    subst (λ (e : Extent). 0 < e.turns) (sym c.self.invariant.2)
    (some-turns _ c.args.element c.self.invariant.1
    (subst (λ (n : Portion). c.args.element < box_len n.sent.slabs) (sym c.self.view_is) c.requires.element))

pub returns-then-rows-eq0 : goal.returns-then-rows-eq0
returns-then-rows-eq0 c =
    no-rows c.args.self.now c.args.element c.as_slice.result.now c.rows_at-rows.result c.if-rows-eq0.true

pub returns : goal.returns
returns c =
    let n = c.args.self.now in
    let lie = subst (λ (p : Portion). AreRowsAt p.array.kind (extent_of p.array.dims p.sent.slabs) c.args.element
    c.rows_at-rows.result) c.self.view_is
    (subst (λ (e : Extent). AreRowsAt c.self.inside.array.now.kind e c.args.element c.rows_at-rows.result)
    c.self.invariant.2 c.rows_at-rows.ensures) in
    rows-of n c.args.element _ c.args.index.now c.stored-stored.result.now c.rows_at-rows.result
    (subst IsPortion c.self.view_is c.self.invariant.1) c.requires.number c.requires.element c.requires.index
    c.stored-stored.ensures lie
