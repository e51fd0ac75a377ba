-- The row that is found has the number.
use Rattle.std.proofs.Common.{◌≡◌, ◌≢◌, Some, sym, subst, ◌∙◌}
use Rattle.dap_model.specs.declared.declaration.DapKind.TheVariants.{Text}
use Rattle.dap_model.specs.Xdr.{AreBitsOf}
use Rattle.fm_model.specs.declared.proto.Proto.{Proto}
use Rattle.fm_dataset.specs.Declarations.{kind_in}
use Rattle.fm_twod.specs.Laid.{number_at, HasIndex, Laid}
use Rattle.fm_twod.proofs.GridLemmas.{bits-fit, cell-number, timed-index}
use Rattle.fm_twod.proofs.LookupLemmas.{number-within}
use Rattle.fm_twod.proofs.SmallLemmas.{index-few}
use Rattle.fm_twod.proofs.grid.Grid.timed_bits.Goals as goal

pub absent_bits-requires : goal.absent_bits-requires
absent_bits-requires c =
    subst (λ (p : Proto). kind_in p c.args.var.now ≢ Text) (sym c.proto.ensures.value) c.requires.number

pub row_bits-requires-clause-has : goal.row_bits-requires-clause-has
row_bits-requires-clause-has c =
    let found = subst (λ (l : Laid). number_at l c.args.index.now ≡ Some c.in-Some.number) (sym c.self.view_is)
    (sym c.number_at.ensures ∙ c.in-Some.is) in
    let has = subst (λ (l : Laid). HasIndex l c.args.decl c.args.var.now c.args.index.now) (sym c.self.view_is)
    c.requires.has in
    let number = subst (λ (l : Laid). kind_in l.cells.proto c.args.var.now ≢ Text) (sym c.self.view_is)
    c.requires.number in
    cell-number _ c.args.decl c.args.var.now c.args.index.now c.in-Some.number has c.requires.timed number
    (number-within _ _ c.args.index.now c.in-Some.number c.self.invariant found)

pub row_bits-requires-clause-two : goal.row_bits-requires-clause-two
row_bits-requires-clause-two c =
    (timed-index c.args.self.now c.args.var.now c.args.index.now c.requires.timed c.requires.has.index_is).two

pub row_bits-requires-clause-few : goal.row_bits-requires-clause-few
row_bits-requires-clause-few c =
    let has = subst (λ (l : Laid). HasIndex l c.args.decl c.args.var.now c.args.index.now) (sym c.self.view_is)
    c.requires.has in
    index-few _ _ c.args.decl c.args.var.now c.args.index.now c.self.invariant has

pub returns-in-Some-clause-width : goal.returns-in-Some-clause-width
returns-in-Some-clause-width c =
    let has = subst (λ (l : Laid). HasIndex l c.args.decl c.args.var.now c.args.index.now) (sym c.self.view_is)
    c.requires.has in
    subst (λ (l : Laid). AreBitsOf (kind_in l.cells.proto c.args.var.now) c.row_bits.result) c.self.view_is
    (bits-fit _ c.args.decl c.row_bits.result c.args.var.now has.var_is c.row_bits.ensures.width)
