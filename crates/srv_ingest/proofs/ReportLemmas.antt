-- A report in one turn.
use Rattle.std.proofs.Common.{◌≡◌, ℕ, ◌+◌, List, length, Option, Some, None, refl, arith}
use Rattle.dev_traits.specs.declared.inbox.Verdict.{Verdict}
use Rattle.dev_traits.specs.declared.inbox.Verdict.TheVariants as kinds
use Rattle.srv_ingest.specs.declared.report.IngestReport.{IngestReport}
use Rattle.srv_verdict.specs.Attempts.{published_number}
use Rattle.srv_ingest.specs.Turns.{operations, with_published, with_settled}

-- a report with one more name that became an operation counts one operation more
pub operations-published : (report : IngestReport) (back : Option (List ℕ)) (verdict : Verdict)
    → operations (with_published report back verdict) ≡ operations report + length (published_number verdict)
unfolding with_published
operations-published report None (kinds.Published number) = omega arith
operations-published report (Some back) (kinds.Published number) = omega arith
operations-published report None verdict = omega arith
operations-published report (Some back) verdict = omega arith

-- a verdict that the inbox took is no operation more
pub operations-settled : (report : IngestReport) (verdict : Verdict)
    → operations (with_settled report verdict) ≡ operations report
unfolding with_settled
operations-settled report (kinds.Refused code) = refl
operations-settled report (kinds.Full count) = refl
operations-settled report kinds.Short = refl
operations-settled report verdict = refl
