-- The turn of one name or moment.
use Rattle.std.specs.Prelude.{◌≡◌, ◌≢◌, ℕ, ℤ, ◌+◌, List, [], Option, Some, None, IfSome, option_to_list, Result, MatchOption, MatchResult}
use Rattle.fm_model.specs.declared.proto.Proto.{Proto}
use Rattle.dev_traits.specs.declared.clock.Expiry.{Expiry}
use Rattle.dev_traits.specs.declared.inbox.Arrival.TheVariants as arrivals
use Rattle.dev_traits.specs.declared.inbox.Verdict.{Verdict}
use Rattle.dev_traits.specs.declared.inbox.Verdict.TheVariants as kinds
use Rattle.dev_traits.specs.Clock.{after_moment, after_verdict, Moments, with_clock_lines}
use Rattle.dev_traits.specs.Door.{first_of}
use Rattle.dev_traits.specs.Inbox.{after_next, after_settle, InboxShown, with_lines}
use Rattle.dev_traits.specs.Lines.{Tells, Told}
use Rattle.dev_traits.specs.Cause.{one_more}
use Rattle.pub_look.specs.History.{History}
use Rattle.srv_ingest.specs.declared.report.IngestEnd.{IngestEnd}
use Rattle.srv_ingest.specs.declared.report.IngestEnd.TheVariants as ends
use Rattle.srv_ingest.specs.declared.report.IngestReport.{IngestReport}
use Rattle.srv_verdict.specs.Attempts.{Decides, expired_number, idle_number, looked_number, published_number, Sees}
use Rattle.srv_verdict.specs.Verdicts.{IsExpiry}
use Rattle.srv_ingest.specs.Ingests.{AllRight, EndsIngest, IsRight, line_on, looked_numbers, MovesIn, published_numbers, Settlement, TellsAll}
use Rattle.srv_ingest.specs.Lines.{lines_of, moment_lines}
use Rattle.srv_ingest.specs.Verdicts.{cutoff_at, IsVerdict, taken_back}

-- a verdict was found on a name and told, and else the inbox is as before
pub record DecidesName (proto : Proto) (name : List ℕ) (inbox inbox' : InboxShown) (pass pass' : History)
    (share share' : ℕ) (verdict : Verdict) : Type 0 where
  pub is : IfSome inbox.held (λ post. IsVerdict proto pass'.seen post.content name (taken_back name) verdict)
  pub decides : Decides pass pass' share share' (published_number verdict) (looked_number verdict)
  pub told : Told
  pub lines : IfSome inbox.held
      (λ post. Tells (lines_of proto pass'.seen post.content name (taken_back name) verdict) post.lines told)
  pub held_is : inbox'.held ≡ with_lines told inbox.held
  pub faults_are : inbox'.faults ≡ inbox.faults

-- the inbox failed before there was a verdict, and nothing else changed
pub record FailsBefore (inbox inbox' : InboxShown) (pass pass' : History) (share share' : ℕ) : Type 0 where
  pub pass_is : pass' ≡ pass
  pub share_is : share' ≡ share
  pub held_is : inbox'.held ≡ inbox.held
  pub faults_are : inbox'.faults ≡ one_more inbox.faults

-- a verdict was found on a name, or the inbox failed before
abbrev pub FindsVerdict : {E : Type 0} → Proto → List ℕ → InboxShown → InboxShown → History → History → ℕ → ℕ
    → Result Verdict E → Type 0
FindsVerdict proto name inbox inbox' pass pass' share share' result =
    MatchResult result (DecidesName proto name inbox inbox' pass pass' share share')
    (λ _. FailsBefore inbox inbox' pass pass' share share')

-- the next name was given, or why there is none
abbrev pub NextName : InboxShown → InboxShown → Result (List ℕ) IngestEnd → Type 0
NextName inbox inbox' result = MatchResult result
    (λ name. (inbox'.held ≡ after_next (arrivals.Name name) inbox.held) × (inbox'.faults ≡ inbox.faults)
    × IfSome inbox.held (λ post. first_of post.left ≡ Some name))
    (λ end. (inbox'.held ≡ inbox.held) × EndsIngest inbox inbox' end)

-- a report with one more name that became an operation
unfoldable pub with_published : IngestReport → Option (List ℕ) → Verdict → IngestReport
with_published report (Some back) (kinds.Published number) = record report { retracted = report.retracted + 1 }
with_published report None (kinds.Published number) = record report { published = report.published + 1 }
with_published report back verdict = report

-- a report with one more name whose verdict the inbox took
unfoldable pub with_settled : IngestReport → Verdict → IngestReport
with_settled report (kinds.Refused code) = record report { refused = one_more report.refused }
with_settled report (kinds.Full count) = record report { refused = one_more report.refused }
with_settled report kinds.Short = record report { short = one_more report.short }
with_settled report verdict = report

-- the number of operations that a report counts
abbrev pub operations : IngestReport → ℕ
operations report = report.published + report.retracted

-- the next name of an inbox was settled
pub record SettlesNext (proto : Proto) (inbox inbox' : InboxShown) (pass pass' : History)
    (report report' : IngestReport) : Type 0 where
  pub it : Settlement
  pub next : IfSome inbox.held (λ post. first_of post.left ≡ Some it.name)
  pub is : IfSome inbox.held (λ post. IsRight proto post.content pass'.seen it)
  pub sees : Sees pass pass' (published_number it.verdict) (looked_number it.verdict)
  pub told : Told
  pub lines : IfSome inbox.held (λ post. Tells (line_on proto pass'.seen post.content it) post.lines told)
  pub held_is : inbox'.held
      ≡ after_settle it.verdict (with_lines told (after_next (arrivals.Name it.name) inbox.held))
  pub faults_are : inbox'.faults ≡ inbox.faults
  pub report_is : report' ≡ with_settled (with_published report (taken_back it.name) it.verdict) it.verdict

-- a report with the operation of a verdict that the inbox did not take, if there is one
abbrev pub with_untaken : IngestReport → Option Settlement → IngestReport
with_untaken report None = report
with_untaken report (Some it) = with_published report (taken_back it.name) it.verdict

-- Taking in stopped before the next name was settled: none was taken, or one that got no verdict. A verdict that was
-- found, and that the inbox did not take, is right, and its operation is counted.
pub record StopsNext (proto : Proto) (inbox inbox' : InboxShown) (pass pass' : History)
    (report report' : IngestReport) (end : IngestEnd) : Type 0 where
  pub untaken : Option Settlement
  pub unsettled : Option (List ℕ)
  pub named : IfSome untaken (λ it. unsettled ≡ Some it.name)
  pub moves : MovesIn inbox.held inbox'.held [] unsettled
  pub right : AllRight proto inbox.held pass'.seen (option_to_list untaken)
  pub sees : Sees pass pass' (published_numbers (option_to_list untaken)) (looked_numbers (option_to_list untaken))
  pub lines : TellsAll proto inbox.held inbox'.held pass'.seen (option_to_list untaken)
  pub report_is : report' ≡ with_untaken report untaken
  pub whole : end ≢ ends.InboxFault → unsettled ≡ None
  pub ends_so : EndsIngest inbox inbox' end

-- the next name was settled, or taking in stopped before
abbrev pub TakesNext : Proto → InboxShown → InboxShown → History → History → IngestReport → IngestReport
    → Option IngestEnd → Type 0
TakesNext proto inbox inbox' pass pass' report report' result =
    MatchOption result (SettlesNext proto inbox inbox' pass pass' report report')
    (StopsNext proto inbox inbox' pass pass' report report')

-- the next moment of a clock was settled
pub record SettlesMoment (keep : ℕ) (epoch : ℤ) (clock clock' : Option Moments) (pass pass' : History)
    (share share' : ℕ) (verdict : Expiry) : Type 0 where
  pub moment : ℤ
  pub next : IfSome clock (λ moments. first_of moments.left ≡ Some moment)
  pub is : IsExpiry pass'.seen (cutoff_at moment keep epoch) verdict
  pub decides : Decides pass pass' share share' (expired_number verdict) (idle_number verdict)
  pub told : Told
  pub lines : IfSome clock (λ moments. Tells (moment_lines keep epoch moment verdict) moments.lines told)
  pub clock_is : clock' ≡ after_verdict verdict (with_clock_lines told (after_moment (Some moment) clock))

-- a clock had no moment left, and nothing changed
pub record HasNoMoment (clock clock' : Option Moments) (pass pass' : History) (share share' : ℕ) : Type 0 where
  pub none_left : IfSome clock (λ moments. moments.left ≡ [])
  pub clock_is : clock' ≡ clock
  pub pass_is : pass' ≡ pass
  pub share_is : share' ≡ share

-- the next moment was settled, or none was left
abbrev pub TakesMoment : ℕ → ℤ → Option Moments → Option Moments → History → History → ℕ → ℕ → Option Expiry → Type 0
TakesMoment keep epoch clock clock' pass pass' share share' result =
    MatchOption result (HasNoMoment clock clock' pass pass' share share')
    (SettlesMoment keep epoch clock clock' pass pass' share share')
