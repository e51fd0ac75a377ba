-- One inbox and one clock are all that publishes in a log.
use Rattle.std.specs.Prelude.{◌≡◌, ℕ, ◌+◌, ◌==◌, List, ◌++◌, length}
use Rattle.std.specs.List.{count_by}
use Rattle.fm_model.specs.declared.op.Op.{Op}
use Rattle.pub_look.specs.History.{Continues, History}
use Rattle.srv_ingest.specs.declared.report.ExpireReport.{ExpireReport}
use Rattle.srv_ingest.specs.declared.report.IngestReport.{IngestReport}
use Rattle.srv_ingest.specs.Expires.{expired_numbers, SettledMoment}
use Rattle.srv_ingest.specs.Ingests.{published_numbers, Settlement}

-- a log of which an inbox's pass and a clock's pass have seen beginnings, and whose operations the two reports count
pub record IsOfBoth (log : List Op) (names : History) (report : IngestReport) (moments : History) (told : ExpireReport)
    : Type 0 where
  pub named : Continues names.seen log
  pub timed : Continues moments.seen log
  pub counted : report.published + report.retracted + told.expired ≡ length log

-- how many verdicts say that they are the operation of a number
abbrev pub verdicts_on : ℕ → List Settlement → List SettledMoment → ℕ
verdicts_on number found moments =
    count_by (λ n. n == number) (published_numbers found ++ expired_numbers moments)
