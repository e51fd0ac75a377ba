-- What a clock holds.
use Rattle.std.specs.Prelude.{ℕ, ℤ, List, [], ◌∷◌, ◌++◌, drop, Bool, true, false, Option, Some, None}
use Rattle.dev_traits.specs.declared.clock.Expiry.{Expiry}
use Rattle.dev_traits.specs.Lines.{Told}

-- what a clock in memory holds
pub record Moments : Type 0 where
  -- the number of ticks that it was opened with, if an opener opened it
  pub asked : Option ℕ
  -- the moments left to come
  pub left : List ℤ
  -- whether a moment was given since the last verdict
  pub waits : Bool
  -- the verdicts, in order
  pub verdicts : List Expiry
  -- the lines of the journal
  pub lines : Told

-- a clock with these moments to come, before its first call
abbrev pub fresh_moments : List ℤ → Moments
fresh_moments moments =
    record { asked = None; left = moments; waits = false; verdicts = []; lines = Some [] }

-- the clock after it gave this moment, or none
abbrev pub after_moment : Option ℤ → Option Moments → Option Moments
after_moment moment None = None
after_moment None (Some moments) = Some moments
after_moment (Some moment) (Some moments) = Some (record moments { left = drop 1 moments.left; waits = true })

-- the clock after a verdict
abbrev pub after_verdict : Expiry → Option Moments → Option Moments
after_verdict verdict None = None
after_verdict verdict (Some moments) =
    Some (record moments { waits = false; verdicts = moments.verdicts ++ verdict ∷ [] })

-- the lines that a clock was told, where they are known
abbrev pub clock_lines : Option Moments → Told
clock_lines None = None
clock_lines (Some moments) = moments.lines

-- a clock with these lines
abbrev pub with_clock_lines : Told → Option Moments → Option Moments
with_clock_lines told None = None
with_clock_lines told (Some moments) = Some (record moments { lines = told })
