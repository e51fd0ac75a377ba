-- A variable without time has its numbers in the dataset.
use Rattle.std.proofs.Common.{◌≢◌, sym, subst}
use Rattle.dap_model.specs.declared.declaration.DapKind.TheVariants.{Text}
use Rattle.dap_model.specs.Xdr.{AreBitsOf}
use Rattle.fm_dataset.specs.Declarations.{kind_in}
use Rattle.fm_twod.specs.Laid.{HasIndex, Laid}
use Rattle.fm_twod.proofs.GridLemmas.{bits-fit, whole-number}
use Rattle.fm_twod.proofs.grid.Grid.var_bits.Goals as goal

pub bits-requires : goal.bits-requires
bits-requires c =
    let has = subst (λ (l : Laid). HasIndex l c.args.decl c.args.var.now c.args.index.now) (sym c.self.view_is)
    c.requires.has in
    let number = subst (λ (l : Laid). kind_in l.cells.proto c.args.var.now ≢ Text) (sym c.self.view_is)
    c.requires.number in
    whole-number _ c.args.decl c.args.var.now c.args.index.now has c.if-var.false number

pub returns-else-var-clause-width : goal.returns-else-var-clause-width
returns-else-var-clause-width c =
    let has = subst (λ (l : Laid). HasIndex l c.args.decl c.args.var.now c.args.index.now) (sym c.self.view_is)
    c.requires.has in
    subst (λ (l : Laid). AreBitsOf (kind_in l.cells.proto c.args.var.now) c.bits.result) c.self.view_is
    (bits-fit _ c.args.decl c.bits.result c.args.var.now has.var_is c.bits.ensures.width)
