use Rattle.std.proofs.Common.{ℕ, List, ap, sym, ◌∙◌}
use Rattle.dap_model.specs.declared.declaration.Decl.TheVariants.{Grid}
use Rattle.fm_dataset.proofs.GridLemmas.{shown_grid, shown_plain, shown_short}
use Rattle.fm_dataset.proofs.declare.decl_of.Goals as goal
use Rattle.fm_dataset.proofs.declare.decl_of.Goals.{then-may_be_grid+in_ok-maps+else-len-ids, else-may_be_grid}

pub returns-then-len-ids : goal.returns-then-len-ids
returns-then-len-ids c =
    ap (λ (n : List ℕ). Grid n c.in_ok-array.array c.in_ok-maps.maps) (c.in_ok-name.ensures ∙ c.as_slice.ensures)
    ∙ shown_grid c.args.of.now.proto.now c.args.count c.args.var.now c.array_dims-ids.result.now _ _
    c.array_dims-ids.ensures
    (sym c.if-may_be_grid.true ∙ c.may_be_grid.ensures) c.in_ok-array.ensures c.in_ok-maps.ensures
    (sym c.len.ensures ∙ c.if-len-ids.true)

pub returns : goal.returns
returns c = elim c.if-may_be_grid.branch [
  | then-may_be_grid+in_ok-maps+else-len-ids w ↦
      shown_short c.args.of.now.proto.now c.args.count c.args.var.now w.array_dims-ids.result.now _ _
      w.array_dims-ids.ensures
      (sym w.if-may_be_grid.true ∙ c.may_be_grid.ensures) c.in_ok-array.ensures w.in_ok-maps.ensures
      (λ e. w.if-len-ids.false (w.len.ensures ∙ e))
  | else-may_be_grid w ↦
      shown_plain c.args.of.now.proto.now c.args.count c.args.var.now _
      (sym w.if-may_be_grid.false ∙ c.may_be_grid.ensures)
      c.in_ok-array.ensures
]
