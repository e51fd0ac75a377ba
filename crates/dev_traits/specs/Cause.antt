-- Why a call of a device may fail, and how failures are counted.
use Rattle.std.specs.Prelude.{◌≡◌, ℕ, ◌+◌, ◌-◌, ◌^◌, min, Result, MatchResult}
use Rattle.fm_base.specs.declared.fail.Fail.{Fail}
use Rattle.fm_base.specs.declared.fail.Fail.TheVariants.{NoMemory, Fault}

-- the count of failed calls after one more; it stands still at its greatest number
abbrev pub one_more : ℕ → ℕ
one_more count = min (count + 1) (2 ^ 64 - 1)

-- a count as a report holds it, which stands still at its greatest number
abbrev pub capped : ℕ → ℕ
capped count = min count (2 ^ 64 - 1)

-- A call that succeeds leaves the count of failed calls, and one that fails adds one to it.
abbrev pub HasCause : {T E : Type 0} → ℕ → ℕ → Result T E → Type 0
HasCause before now result = MatchResult result (λ _. now ≡ before) (λ _. now ≡ one_more before)

-- the count after a call that ended so: memory that ran out is no failure of the device
abbrev pub count_after : {E : Type 0} → ℕ → Fail E → ℕ
count_after count NoMemory = count
count_after count (Fault e) = one_more count

-- A call that succeeds or runs out of memory leaves the count of failed calls, and one that fails adds one to it.
abbrev pub HasReadCause : {T E : Type 0} → ℕ → ℕ → Result T (Fail E) → Type 0
HasReadCause before now result = MatchResult result (λ _. now ≡ before) (λ fail. now ≡ count_after before fail)
