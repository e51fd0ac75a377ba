-- Where a put fails, the first bytes of all slices were appended.
use Rattle.std.proofs.Common.{arith}
use Rattle.std.proofs.lemmas.Result.{err_from_is_err_and}
use Rattle.srv_alone.proofs.PieceLemmas.{appended-cut}
use Rattle.srv_alone.proofs.reporting.put_pieces.Goals as goal

pub returns-in_err-put-clause-put : goal.returns-in_err-put-clause-put
returns-in_err-put-clause-put g c =
    let p = err_from_is_err_and c.from_residual.result c.from_residual.ensures.1 in
    rw (p.1) (appended-cut (λ piece. piece.now) c.args.pieces.now c.loop-piece.piece-index _ _ _ _ (omega arith)
    c.loop-piece.invariant.put c.in_err-put.ensures.err)
