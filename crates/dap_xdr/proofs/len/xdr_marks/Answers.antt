-- The texts are those of the part.
use Rattle.std.proofs.Common.{length, ap, sym, ◌∙◌}
use Rattle.dap_xdr.proofs.DataLemmas.{data-texts}
use Rattle.dap_xdr.proofs.MarkLemmas.{marks-from}
use Rattle.dap_xdr.proofs.len.xdr_marks.Goals as goal

pub texts_marked-requires : goal.texts_marked-requires
texts_marked-requires c = record { text = c.has_texts.ensures.text c.if-not-has_texts.false }

pub returns-clause-len : goal.returns-clause-len
returns-clause-len c =
    let n = c.new-part.result in
    c.in_ok-marks.ensures.exact.len_is
    ∙ sym (ap length (data-texts n (c.has_texts.ensures.text c.if-not-has_texts.false)
    (c.has_texts.ensures.many c.if-not-has_texts.false)))
    ∙ ap length c.new-part.ensures.data

pub returns-clause-marks : goal.returns-clause-marks
returns-clause-marks c =
    marks-from c.args.set.now c.args.sent.now c.in_ok-marks.marks.marks c.new-part.result
    c.in_ok-marks.ensures.exact.marks_are c.new-part.ensures.portion c.new-part.ensures.shown c.new-part.ensures.sent
