-- A verdict stays right as more operations are seen.
use Rattle.std.proofs.Common.{◌≡◌, ℕ, zero, suc, ℤ, ◌≤◌, List, [], ◌∷◌, ◌++◌, length, take, slice_get, Some, Result, Ok, Err, IsSome, false, sym, ap, subst, ◌∙◌, arith}
use Rattle.std.proofs.lemmas.List.{take-append-le}
use Rattle.std.proofs.lemmas.Option.{none-some}
use Rattle.dev_traits.specs.declared.clock.Expiry.{Expiry}
use Rattle.dev_traits.specs.declared.clock.Expiry.TheVariants as expiries
use Rattle.dev_traits.specs.declared.inbox.Verdict.{Verdict}
use Rattle.dev_traits.specs.declared.inbox.Verdict.TheVariants as verdicts
use Rattle.fm_model.specs.declared.loaded.Loaded.{Loaded}
use Rattle.fm_model.specs.declared.op.Op.{Op}
use Rattle.fm_model.specs.declared.op.Op.TheVariants.{Expire, Put, Retract}
use Rattle.fm_model.specs.Collection.{coll, full_at, holds, holds_older}
use Rattle.pub_look.specs.History.{Continues}
use Rattle.pub_look.proofs.HistoryLemmas.{continues_length}
use Rattle.srv_verdict.specs.Verdicts.{IsExpiry, IsNumbered, IsVerdictOnFile, IsVerdictOnRetraction}

-- an item at an index stays there in a longer list
slice_get-front : {A : Type 0} (xs ys : List A) (index : ℕ) (x : A) → slice_get xs index ≡ Some x
    → slice_get (xs ++ ys) index ≡ Some x
slice_get-front [] ys index x is = absurd (none-some x is)
slice_get-front (y ∷ xs) ys zero x is = is
slice_get-front (y ∷ xs) ys (suc index) x is = slice_get-front xs ys index x is

-- an operation keeps its number
pub IsNumbered-later : (ops ops' : List Op) (number : ℕ) (op : Op) → Continues ops ops' → IsNumbered ops number op
    → IsNumbered ops' number op
IsNumbered-later ops ops' number op later is = record {
  index = is.index;
  number_is = is.number_is;
  op_is = ap (λ (l : List Op). slice_get l is.index) later.1 ∙ slice_get-front ops later.0 is.index op is.op_is;
}

-- the first operations stay the first
pub take-later : (ops ops' : List Op) (count : ℕ) → Continues ops ops' → count ≤ length ops
    → take count ops ≡ take count ops'
take-later ops ops' count later within =
    sym (ap (λ (l : List Op). take count l) later.1 ∙ take-append-le count ops later.0 within)

-- no fewer operations are seen
within-later : (ops ops' : List Op) (count : ℕ) → Continues ops ops' → count ≤ length ops → count ≤ length ops'
within-later ops ops' count later within = omega (arith, within, continues_length ops ops' later)

-- a verdict on a file stays right
pub IsVerdictOnFile-later : (ops ops' : List Op) (found : Result Loaded Verdict) (verdict : Verdict)
    → Continues ops ops' → IsVerdictOnFile ops found verdict → IsVerdictOnFile ops' found verdict
IsVerdictOnFile-later ops ops' (Err given) verdict later is = is
IsVerdictOnFile-later ops ops' (Ok file) (verdicts.Published number) later is =
    IsNumbered-later ops ops' number (Put file) later is
IsVerdictOnFile-later ops ops' (Ok file) (verdicts.Full count) later is = (
  within-later ops ops' count later is.0,
  subst (λ (l : List Op). IsSome (full_at (coll l) (Put file)))
      (take-later ops ops' count later is.0) is.1,
)
IsVerdictOnFile-later ops ops' (Ok file) verdict later is = absurd is

-- a verdict on a retraction stays right
pub IsVerdictOnRetraction-later : (ops ops' : List Op) (name : List ℕ) (verdict : Verdict) → Continues ops ops'
    → IsVerdictOnRetraction ops name verdict → IsVerdictOnRetraction ops' name verdict
IsVerdictOnRetraction-later ops ops' name (verdicts.Published number) later is =
    IsNumbered-later ops ops' number (Retract name) later is
IsVerdictOnRetraction-later ops ops' name (verdicts.NotHeld count) later is = (
  within-later ops ops' count later is.0,
  subst (λ (l : List Op). holds (coll l) name ≡ false)
      (take-later ops ops' count later is.0) is.1,
)
IsVerdictOnRetraction-later ops ops' name verdict later is = absurd is

-- a verdict on a moment stays right
pub IsExpiry-later : (ops ops' : List Op) (cutoff : ℤ) (verdict : Expiry) → Continues ops ops'
    → IsExpiry ops cutoff verdict → IsExpiry ops' cutoff verdict
IsExpiry-later ops ops' cutoff (expiries.Expired number) later is =
    IsNumbered-later ops ops' number (Expire cutoff) later is
IsExpiry-later ops ops' cutoff (expiries.Idle count) later is = (
  within-later ops ops' count later is.0,
  subst (λ (l : List Op). holds_older (coll l) cutoff ≡ false)
      (take-later ops ops' count later is.0) is.1,
)
IsExpiry-later ops ops' cutoff expiries.Short later is = is
