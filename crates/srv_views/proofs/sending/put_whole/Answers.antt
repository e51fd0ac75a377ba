-- Where a call failed, what it sent stands behind what was sent before.
use Rattle.std.proofs.Common.{◌+◌}
use Rattle.std.proofs.lemmas.Result.{err_from_is_err_and}
use Rattle.srv_views.proofs.SendingLemmas.{sent-more}
use Rattle.srv_views.proofs.sending.put_whole.Goals as goal

pub returns-in_err-count-clause-err : goal.returns-in_err-count-clause-err
returns-in_err-count-clause-err g c =
    let p = err_from_is_err_and c.from_residual.result c.from_residual.ensures.1 in
    let cut = c.in_err-count.ensures.err in
    rw (p.1) (
      c.loop-sent.sent + cut.0,
      cut.1,
      sent-more (g.W.Whole.bytes c.args.whole.now) c.loop-sent.sent cut.0 _ _ _ c.loop-sent.invariant.put cut.2,
    )
