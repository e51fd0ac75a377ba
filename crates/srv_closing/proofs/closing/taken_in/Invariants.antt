-- The sums over the first reports.
use Rattle.std.proofs.Common.{◌≡◌, sum_by, take}
use Rattle.srv_closing.proofs.closing.taken_in.Given as goal

abbrev pub invariant-loop-number : goal.invariant-loop-number
invariant-loop-number l = record {
  published : l.published ≡ sum_by (λ report. report.published) (take l.number l.reports);
  retracted : l.retracted ≡ sum_by (λ report. report.retracted) (take l.number l.reports);
}
