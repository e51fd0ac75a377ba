-- A dimension more is added, or its fault ends the loop.
use Rattle.std.proofs.Common.{drop, ap, ◌∙◌, ◌+◌}
use Rattle.std.proofs.lemmas.Result.{err_from_is_err_and}
use Rattle.fm_base.specs.Chain.{◌>>=◌}
use Rattle.nc_writer.specs.Dims.{add_dim, add_dims}
use Rattle.nc_writer.proofs.ChainLemmas.{adds-fault}
use Rattle.nc_writer.proofs.DimLemmas.{add_dims-turn}
use Rattle.nc_writer.proofs.dims.add_dims.Goals as goal

pub returns-in_err-add_dim : goal.returns-in_err-add_dim
returns-in_err-add_dim c =
    let dims = c.args.dims.now in
    let at = c.loop-dim.dim-index in
    let p = err_from_is_err_and c.from_residual.result c.from_residual.ensures.1 in
    rw (p.1, p.2)
    (adds-fault (Unit {0}) (Unit {0}) (add_dim c.loop-dim.found c.dim-item.result) (add_dims c.args.found.now dims)
    (λ next. add_dims next (drop (at + 1) dims)) c.in_err-add_dim.field-0.0 c.add_dim.new.found _
    (c.loop-dim.invariant ∙ add_dims-turn c.loop-dim.found dims at c.dim-item.result c.loop-dim-test.true c.dim-item.is)
    c.in_err-add_dim.ensures)

pub loop-dim-preserved : goal.loop-dim-preserved
loop-dim-preserved c =
    let dims = c.args.dims.now in
    let at = c.loop-dim.dim-index in
    c.loop-dim.invariant
    ∙ add_dims-turn c.loop-dim.found dims at c.dim-item.result c.loop-dim-test.true c.dim-item.is
    ∙ ap (λ step. step >>= λ next. add_dims next (drop (at + 1) dims)) c.in_ok-add_dim.ensures
