-- The sum over the first reports.
use Rattle.std.proofs.Common.{◌≡◌, sum_by, take}
use Rattle.srv_closing.proofs.closing.expired.Given as goal

abbrev pub invariant-loop-number : goal.invariant-loop-number
invariant-loop-number l = l.sum ≡ sum_by (λ report. report.expired) (take l.number l.reports)
