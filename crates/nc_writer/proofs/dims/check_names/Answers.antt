-- A variable more is checked, or its fault ends the loop.
use Rattle.std.proofs.Common.{drop, ap, ◌∙◌, ◌+◌}
use Rattle.std.proofs.lemmas.Result.{err_from_is_err_and}
use Rattle.fm_base.specs.Chain.{◌>>◌}
use Rattle.nc_writer.specs.Dims.{name_free, names_free}
use Rattle.nc_writer.proofs.ChainLemmas.{answers-refused}
use Rattle.nc_writer.proofs.DimLemmas.{names_free-turn}
use Rattle.nc_writer.proofs.dims.check_names.Goals as goal

pub returns-in_err-check_name : goal.returns-in_err-check_name
returns-in_err-check_name c =
    let all = c.args.all.now in
    let variables = c.args.variables.now in
    let at = c.loop-variable.variable-index in
    let p = err_from_is_err_and c.from_residual.result c.from_residual.ensures.1 in
    rw (p.1, p.2)
    (answers-refused (name_free all c.variable-item.result) (names_free all variables)
    (names_free all (drop (at + 1) variables)) c.in_err-check_name.field-0.0
    (c.loop-variable.invariant
    ∙ names_free-turn all variables at c.variable-item.result c.loop-variable-test.true c.variable-item.is)
    c.in_err-check_name.ensures)

pub loop-variable-preserved : goal.loop-variable-preserved
loop-variable-preserved c =
    let all = c.args.all.now in
    let variables = c.args.variables.now in
    let at = c.loop-variable.variable-index in
    c.loop-variable.invariant
    ∙ names_free-turn all variables at c.variable-item.result c.loop-variable-test.true c.variable-item.is
    ∙ ap (λ check. check >> names_free all (drop (at + 1) variables)) c.in_ok-check_name.ensures
