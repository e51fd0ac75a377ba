-- The row that is found has the text.
use Rattle.std.proofs.Common.{◌≡◌, Some, sym, subst, ◌∙◌}
use Rattle.dap_model.specs.declared.declaration.DapKind.TheVariants.{Text}
use Rattle.fm_dataset.specs.Declarations.{kind_in}
use Rattle.fm_twod.specs.Laid.{number_at, HasIndex, Laid}
use Rattle.fm_twod.proofs.GridLemmas.{cell-text, timed-index}
use Rattle.fm_twod.proofs.LookupLemmas.{number-within}
use Rattle.fm_twod.proofs.SmallLemmas.{index-few}
use Rattle.fm_twod.proofs.grid.Grid.timed_text.Goals as goal

pub row_text-requires-clause-has : goal.row_text-requires-clause-has
row_text-requires-clause-has c =
    let found = subst (λ (l : Laid). number_at l c.args.index.now ≡ Some c.in-Some.number) (sym c.self.view_is)
    (sym c.number_at.ensures ∙ c.in-Some.is) in
    let has = subst (λ (l : Laid). HasIndex l c.args.decl c.args.var.now c.args.index.now) (sym c.self.view_is)
    c.requires.has in
    let text = subst (λ (l : Laid). kind_in l.cells.proto c.args.var.now ≡ Text) (sym c.self.view_is)
    c.requires.text in
    cell-text _ c.args.decl c.args.var.now c.args.index.now c.in-Some.number has c.requires.timed text
    (number-within _ _ c.args.index.now c.in-Some.number c.self.invariant found)

pub row_text-requires-clause-two : goal.row_text-requires-clause-two
row_text-requires-clause-two c =
    (timed-index c.args.self.now c.args.var.now c.args.index.now c.requires.timed c.requires.has.index_is).two

pub row_text-requires-clause-few : goal.row_text-requires-clause-few
row_text-requires-clause-few c =
    let has = subst (λ (l : Laid). HasIndex l c.args.decl c.args.var.now c.args.index.now) (sym c.self.view_is)
    c.requires.has in
    index-few _ _ c.args.decl c.args.var.now c.args.index.now c.self.invariant has
