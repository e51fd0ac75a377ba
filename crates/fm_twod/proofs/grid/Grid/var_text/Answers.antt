-- A variable without time has its texts in the dataset.
use Rattle.std.proofs.Common.{◌≡◌, sym, subst}
use Rattle.dap_model.specs.declared.declaration.DapKind.TheVariants.{Text}
use Rattle.fm_dataset.specs.Declarations.{kind_in}
use Rattle.fm_twod.specs.Laid.{HasIndex, Laid}
use Rattle.fm_twod.proofs.GridLemmas.{whole-text}
use Rattle.fm_twod.proofs.grid.Grid.var_text.Goals as goal

pub text-requires : goal.text-requires
text-requires c =
    let has = subst (λ (l : Laid). HasIndex l c.args.decl c.args.var.now c.args.index.now) (sym c.self.view_is)
    c.requires.has in
    let text = subst (λ (l : Laid). kind_in l.cells.proto c.args.var.now ≡ Text) (sym c.self.view_is)
    c.requires.text in
    whole-text _ c.args.decl c.args.var.now c.args.index.now has c.if-var.false text
