-- The piece that was sent is a front of the bytes that are left.
use Rattle.std.proofs.Common.{arith}
use Rattle.std.proofs.lemmas.Result.{err_from_is_err_and}
use Rattle.srv_views.proofs.SendingLemmas.{front-cut, front-sent, piece-is}
use Rattle.srv_views.proofs.sending.put_next.Goals as goal

pub returns-in_err-put_all-2-clause-err : goal.returns-in_err-put_all-2-clause-err
returns-in_err-put_all-2-clause-err g c =
    let failed = c.from_residual-in_err-put_all-2 in
    let p = err_from_is_err_and failed.result failed.ensures.1 in
    let front = piece-is _ _ _ _ c.piece-count.result c.piece-count.ensures c.split_at.ensures.front in
    rw (p.1) (front-cut (g.W.Whole.bytes c.args.whole.now) _ c.args.from c.piece-count.result _ _
    (omega (arith, c.requires.from)) front c.in_err-put_all-2.ensures.err)

pub returns-clause-put : goal.returns-clause-put
returns-clause-put g c =
    let front = piece-is _ _ _ _ c.piece-count.result c.piece-count.ensures c.split_at.ensures.front in
    front-sent _ _ c.piece-count.result _ _ front c.in_ok-put_all-2.ensures.ok
