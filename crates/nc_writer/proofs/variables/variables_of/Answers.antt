-- A part more is added, or its fault ends the loop.
use Rattle.std.proofs.Common.{drop, ap, ◌∙◌, [], ◌+◌}
use Rattle.std.proofs.lemmas.Result.{err_from_is_err_and}
use Rattle.fm_base.specs.Chain.{◌>>=◌}
use Rattle.dap_xdr.specs.Datasets.{content_of}
use Rattle.nc_writer.specs.Variables.{add_sent, variables_from}
use Rattle.nc_writer.proofs.ChainLemmas.{answers-fault}
use Rattle.nc_writer.proofs.VariableLemmas.{variables_from-turn}
use Rattle.nc_writer.proofs.variables.variables_of.Goals as goal

pub returns-in_err-add_sent : goal.returns-in_err-add_sent
returns-in_err-add_sent c =
    let content = content_of c.args.source.now in
    let sent = c.args.sent.now in
    let at = c.loop-part.part-index in
    let found = c.loop-part.found in
    let p = err_from_is_err_and c.from_residual.result c.from_residual.ensures.1 in
    rw (p.1, p.2)
    (answers-fault (Unit {0}) (add_sent content found c.part-item.result) (variables_from content [] sent)
    (λ next. variables_from content next (drop (at + 1) sent)) c.in_err-add_sent.field-0.0 c.add_sent.new.found
    (c.loop-part.invariant
    ∙ variables_from-turn content found sent at c.part-item.result c.loop-part-test.true c.part-item.is)
    c.in_err-add_sent.ensures)

pub loop-part-preserved : goal.loop-part-preserved
loop-part-preserved c =
    let content = content_of c.args.source.now in
    let sent = c.args.sent.now in
    let at = c.loop-part.part-index in
    c.loop-part.invariant
    ∙ variables_from-turn content c.loop-part.found sent at c.part-item.result c.loop-part-test.true c.part-item.is
    ∙ ap (λ step. step >>= λ next. variables_from content next (drop (at + 1) sent)) c.in_ok-add_sent.ensures
