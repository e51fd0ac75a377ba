-- No marks are those of any part.
use Rattle.std.proofs.Common.{List, ℕ, sym, subst}
use Rattle.dap_xdr.specs.Marks.{AreMarksOf}
use Rattle.dap_xdr.proofs.MarkLemmas.{none-of}
use Rattle.dap_xdr.proofs.len.unmarked.Goals as goal

pub returns-clause-marks : goal.returns-clause-marks
returns-clause-marks c =
    subst (λ (l : List ℕ). AreMarksOf c.args.set.now c.args.sent.now l) (sym c.new-marks.ensures)
    (none-of c.args.set.now c.args.sent.now)
