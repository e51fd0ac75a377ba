-- Verdicts on what is asked of a collection, by the operations that were seen.
use Rattle.std.specs.Prelude.{◌≡◌, ℕ, ℤ, ◌+◌, ◌≤◌, List, length, take, slice_get, false, Option, Some, IsSome, Result, Ok, Err}
use Rattle.fm_model.specs.declared.loaded.Loaded.{Loaded}
use Rattle.fm_model.specs.declared.op.Op.{Op}
use Rattle.fm_model.specs.declared.op.Op.TheVariants.{Put, Expire, Retract}
use Rattle.fm_model.specs.Collection.{coll, full_at, holds, holds_older}
use Rattle.dev_traits.specs.declared.clock.Expiry.{Expiry}
use Rattle.dev_traits.specs.declared.clock.Expiry.TheVariants as expiries
use Rattle.dev_traits.specs.declared.inbox.Verdict.{Verdict}
use Rattle.dev_traits.specs.declared.inbox.Verdict.TheVariants as verdicts

-- an operation is the one of this number, counted from 1
pub record IsNumbered (ops : List Op) (number : ℕ) (op : Op) : Type 0 where
  pub index : ℕ
  pub number_is : number ≡ index + 1
  pub op_is : slice_get ops index ≡ Some op

-- the verdict on a file, or on a name without one, by the operations that were seen
abbrev pub IsVerdictOnFile : List Op → Result Loaded Verdict → Verdict → Type 0
IsVerdictOnFile ops (Err given) verdict = verdict ≡ given
IsVerdictOnFile ops (Ok file) (verdicts.Published number) = IsNumbered ops number (Put file)
IsVerdictOnFile ops (Ok file) (verdicts.Full count) =
    (count ≤ length ops) × IsSome (full_at (coll (take count ops)) (Put file))
IsVerdictOnFile ops (Ok file) verdict = ⊥

-- the verdict on a name that is taken back, by the operations that were seen
abbrev pub IsVerdictOnRetraction : List Op → List ℕ → Verdict → Type 0
IsVerdictOnRetraction ops name (verdicts.Published number) = IsNumbered ops number (Retract name)
IsVerdictOnRetraction ops name (verdicts.NotHeld count) =
    (count ≤ length ops) × (holds (coll (take count ops)) name ≡ false)
IsVerdictOnRetraction ops name verdict = ⊥

-- the verdict on a moment with this cutoff, by the operations that were seen; memory may run out at any moment
abbrev pub IsExpiry : List Op → ℤ → Expiry → Type 0
IsExpiry ops cutoff (expiries.Expired number) = IsNumbered ops number (Expire cutoff)
IsExpiry ops cutoff (expiries.Idle count) =
    (count ≤ length ops) × (holds_older (coll (take count ops)) cutoff ≡ false)
IsExpiry ops cutoff expiries.Short = Unit {0}
