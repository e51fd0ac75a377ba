-- The dimensions of a variable more are added, or their fault ends the loop.
use Rattle.std.proofs.Common.{drop, sym, ap, ◌∙◌, [], List, ◌+◌}
use Rattle.std.proofs.lemmas.Result.{err_from_is_err_and}
use Rattle.fm_base.specs.Chain.{◌>>=◌}
use Rattle.nc_model.specs.declared.header.Dim.{Dim}
use Rattle.nc_writer.specs.Dims.{add_dims, dims_from}
use Rattle.nc_writer.proofs.ChainLemmas.{answers-fault}
use Rattle.nc_writer.proofs.DimLemmas.{dims_from-turn}
use Rattle.nc_writer.proofs.dims.dims_of.Goals as goal

pub returns-in_err-add_dims : goal.returns-in_err-add_dims
returns-in_err-add_dims c =
    let variables = c.args.variables.now in
    let at = c.loop-variable.variable-index in
    let found = c.loop-variable.found in
    let p = err_from_is_err_and c.from_residual.result c.from_residual.ensures.1 in
    rw (p.1, p.2)
    (answers-fault (Unit {0}) (add_dims found c.as_slice.result.now) (dims_from [] variables)
    (λ next. dims_from next (drop (at + 1) variables)) c.in_err-add_dims.field-0.0 c.add_dims.new.found
    (c.loop-variable.invariant
    ∙ dims_from-turn found variables at c.variable-item.result c.loop-variable-test.true c.variable-item.is
    ∙ ap (λ (ds : List Dim). add_dims found ds >>= λ next. dims_from next (drop (at + 1) variables))
    (sym c.as_slice.ensures))
    c.in_err-add_dims.ensures)

pub loop-variable-preserved : goal.loop-variable-preserved
loop-variable-preserved c =
    let variables = c.args.variables.now in
    let at = c.loop-variable.variable-index in
    let found = c.loop-variable.found in
    c.loop-variable.invariant
    ∙ dims_from-turn found variables at c.variable-item.result c.loop-variable-test.true c.variable-item.is
    ∙ ap (λ (ds : List Dim). add_dims found ds >>= λ next. dims_from next (drop (at + 1) variables))
    (sym c.as_slice.ensures)
    ∙ ap (λ step. step >>= λ next. dims_from next (drop (at + 1) variables)) c.in_ok-add_dims.ensures
