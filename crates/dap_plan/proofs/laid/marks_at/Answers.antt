-- The marks at the index are of the part, or it has none.
use Rattle.std.proofs.Common.{List, ℕ, subst, sym, arith}
use Rattle.dap_xdr.specs.Marks.{AreMarksOf}
use Rattle.dap_xdr.proofs.MarkLemmas.{none-of}
use Rattle.dap_plan.proofs.LaidLemmas.{marks-there}
use Rattle.dap_plan.proofs.laid.marks_at.Goals as goal

pub returns-then-at-marks : goal.returns-then-at-marks
returns-then-at-marks c shown sent part marked at = none-of shown part

pub returns-then-one-index : goal.returns-then-one-index
returns-then-one-index c shown sent part marked at = none-of shown part

pub returns : goal.returns
returns c shown sent part marked at =
    subst (λ (l : List ℕ). AreMarksOf shown part l) (sym c.as_slice.ensures)
    (marks-there shown sent c.args.marks.now c.marked_before-at.result c.args.index c.index-marks-at.result part marked
    (omega (arith, c.if-at-marks.false)) c.index-marks-at.is (omega (arith, c.if-one-index.false)) at)
