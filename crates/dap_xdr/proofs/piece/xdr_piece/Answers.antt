-- No marks are those of any part.
use Rattle.dap_xdr.proofs.MarkLemmas.{none-of}
use Rattle.dap_xdr.proofs.piece.xdr_piece.Goals as goal

pub xdr_piece_marked-requires-clause-marks : goal.xdr_piece_marked-requires-clause-marks
xdr_piece_marked-requires-clause-marks c = none-of c.args.set.now c.args.sent.now
