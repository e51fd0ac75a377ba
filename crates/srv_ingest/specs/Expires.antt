-- All runs that get too old are let go.
use Rattle.std.specs.Prelude.{◌≡◌, ℕ, ℤ, All, Bool, true, false, List, [], ◌++◌, map, Option, IfSome, IsSomeAnd}
use Rattle.std.specs.List.{count_by, flat_map}
use Rattle.fm_model.specs.declared.op.Op.{Op}
use Rattle.dev_traits.specs.declared.clock.Expiry.{Expiry}
use Rattle.dev_traits.specs.declared.clock.Expiry.TheVariants as kinds
use Rattle.dev_traits.specs.Clock.{clock_lines, Moments}
use Rattle.dev_traits.specs.Lines.{Tells}
use Rattle.dev_traits.specs.Cause.{capped}
use Rattle.pub_look.specs.History.{History}
use Rattle.srv_ingest.specs.declared.report.ExpireReport.{ExpireReport}
use Rattle.srv_verdict.specs.Attempts.{expired_number, idle_number, Sees}
use Rattle.srv_ingest.specs.Lines.{moment_lines}
use Rattle.srv_verdict.specs.Verdicts.{IsExpiry}
use Rattle.srv_ingest.specs.Verdicts.{cutoff_at}

-- a moment that a clock gave, and its verdict
pub record SettledMoment : Type 0 where
  pub moment : ℤ
  pub verdict : Expiry

-- the verdict on a moment is right, by the operations that were seen
abbrev pub IsRightAt : ℕ → ℤ → List Op → SettledMoment → Type 0
IsRightAt keep epoch ops it = IsExpiry ops (cutoff_at it.moment keep epoch) it.verdict

-- these are the moments that a clock had left, in order, and their verdicts are the new ones of the clock
pub record AreAll (moments moments' : Moments) (settled : List SettledMoment) : Type 0 where
  pub moments_are : map (λ it. it.moment) settled ≡ moments.left
  pub none_left : moments'.left ≡ []
  pub verdicts_are : moments'.verdicts ≡ moments.verdicts ++ map (λ it. it.verdict) settled
  pub asked_is : moments'.asked ≡ moments.asked

-- the line of a verdict on a moment, if it has one
abbrev pub line_at : ℕ → ℤ → SettledMoment → List (List ℕ)
line_at keep epoch it = moment_lines keep epoch it.moment it.verdict

-- the numbers of the operations by which runs went
abbrev pub expired_numbers : List SettledMoment → List ℕ
expired_numbers settled = flat_map (λ it. expired_number it.verdict) settled

-- how many operations there were at the looks that showed no run too old
abbrev pub idle_numbers : List SettledMoment → List ℕ
idle_numbers settled = flat_map (λ it. idle_number it.verdict) settled

-- whether a verdict says that runs went
unfoldable pub is_expired : Expiry → Bool
is_expired (kinds.Expired number) = true
is_expired verdict = false

-- whether a verdict says that memory ran out
unfoldable pub is_short_moment : Expiry → Bool
is_short_moment kinds.Short = true
is_short_moment verdict = false

-- All moments of a clock were settled, once each and in order, by what has been seen by the end, and the report counts
-- them. Where the clock shows what it holds, and lost no line, its new lines are those of the verdicts, in order.
pub record AllSettledWith (keep : ℕ) (epoch : ℤ) (clock clock' : Option Moments) (pass pass' : History)
    (report : ExpireReport) : Type 0 where
  pub settled : List SettledMoment
  pub all : IfSome clock (λ moments. IsSomeAnd clock' (λ moments'. AreAll moments moments' settled))
  pub each : All (IsRightAt keep epoch pass'.seen) settled
  pub sees : Sees pass pass' (expired_numbers settled) (idle_numbers settled)
  pub lines : IfSome clock
      (λ moments. Tells (flat_map (line_at keep epoch) settled) moments.lines (clock_lines clock'))
  pub expired_is : report.expired ≡ count_by (λ it. is_expired it.verdict) settled
  pub short_is : report.short ≡ capped (count_by (λ it. is_short_moment it.verdict) settled)
