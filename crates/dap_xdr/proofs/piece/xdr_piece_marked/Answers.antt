-- The marks of the part are those of its portion.
use Rattle.std.proofs.Common.{rules}
use Rattle.dap_xdr.proofs.MarkLemmas.{marks-of}
use Rattle.dap_xdr.proofs.piece.xdr_piece_marked.Goals as goal

pub put_few-requires-clause-marks : goal.put_few-requires-clause-marks
put_few-requires-clause-marks c = λ text.
    marks-of c.args.set.now c.args.sent.now c.args.marks.now c.new-part.result c.requires.marks
    c.new-part.ensures.portion c.new-part.ensures.shown c.new-part.ensures.sent text (search rules)

pub put_any-requires-clause-marks : goal.put_any-requires-clause-marks
put_any-requires-clause-marks c = λ text.
    marks-of c.args.set.now c.args.sent.now c.args.marks.now c.new-part.result c.requires.marks
    c.new-part.ensures.portion c.new-part.ensures.shown c.new-part.ensures.sent text (search rules)
