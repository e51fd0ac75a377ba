-- Attempts to publish at a desk under its lock, and the search for a verdict on one change.
use Rattle.std.specs.Prelude.{⊤, ◌≡◌, ◌⊎◌, All, ℕ, ◌+◌, ◌<◌, ◌≤◌, List, [], ◌∷◌, ◌++◌, length, take, Option, Some, None}
use Rattle.fm_model.specs.declared.full.Tally.{Tally}
use Rattle.fm_model.specs.declared.op.Op.{Op}
use Rattle.fm_model.specs.Collection.{coll, tally}
use Rattle.dev_traits.specs.declared.clock.Expiry.{Expiry}
use Rattle.dev_traits.specs.declared.clock.Expiry.TheVariants as expiries
use Rattle.dev_traits.specs.declared.inbox.Verdict.{Verdict}
use Rattle.dev_traits.specs.declared.inbox.Verdict.TheVariants as verdicts
use Rattle.pub_look.specs.History.{Continues, History}
use Rattle.srv_verdict.specs.declared.attempt.Attempt.{Attempt}
use Rattle.srv_verdict.specs.declared.attempt.Attempt.TheVariants.{Done, Again, Short}
use Rattle.srv_verdict.specs.Verdicts.{IsNumbered}

-- an attempt to publish an operation: the pass had not seen it and now has, and one more is counted; or nothing
-- changed
abbrev pub Tried : Op → History → History → ℕ → ℕ → Attempt → Type 0
Tried op pass pass' share share' (Done number) =
    IsNumbered pass'.seen number op × (length pass.seen < number) × (share' ≡ share + 1)
Tried op pass pass' share share' Again = (pass' ≡ pass) × (share' ≡ share)
Tried op pass pass' share share' Short = (pass' ≡ pass) × (share' ≡ share)

-- this is held after each of these operations
abbrev pub HeldAfter : List Op → Tally → List ℕ → Type 0
HeldAfter ops held numbers = All (λ number. held ≡ tally (coll (take number ops))) numbers

-- this is held after the operation that an attempt published
abbrev pub HeldAt : List Op → Tally → Attempt → Type 0
HeldAt ops held (Done number) = held ≡ tally (coll (take number ops))
HeldAt ops held Again = ⊤
HeldAt ops held Short = ⊤

-- a pass saw more and looked at nothing
pub record OnlyLearnt (pass pass' : History) : Type 0 where
  pub proto : pass'.proto ≡ pass.proto
  pub later : Continues pass.seen pass'.seen
  pub looks : pass'.looks ≡ pass.looks

-- some are picked from a list, in its order
unfoldable pub IsPickedFrom : List ℕ → List ℕ → Type 0
IsPickedFrom picked [] = picked ≡ []
IsPickedFrom picked (x ∷ more) =
    IsPickedFrom picked more ⊎ ((rest : List ℕ) × (picked ≡ x ∷ rest) × IsPickedFrom rest more)

-- the numbers rise, from above one bound up to another
unfoldable pub RiseBetween : ℕ → ℕ → List ℕ → Type 0
RiseBetween low high [] = low ≤ high
RiseBetween low high (number ∷ more) = (low < number) × RiseBetween number high more

-- What was seen only grew. The operations that were published have these numbers, which rise from above what had been
-- seen before, and each was seen. The looks that are spoken of, by how many operations each showed, are looks that were
-- made, each one of its own.
pub record Sees (pass pass' : History) (published looked : List ℕ) : Type 0 where
  pub proto : pass'.proto ≡ pass.proto
  pub later : Continues pass.seen pass'.seen
  pub rise : RiseBetween (length pass.seen) (length pass'.seen) published
  pub more : List ℕ
  pub looks : pass'.looks ≡ pass.looks ++ more
  pub picked : IsPickedFrom looked more

-- the number of the operation that a name became, if it became one
abbrev pub published_number : Verdict → List ℕ
published_number (verdicts.Published number) = number ∷ []
published_number verdict = []

-- the number of operations at the look that a verdict speaks of, if it speaks of one
abbrev pub looked_number : Verdict → List ℕ
looked_number (verdicts.Full count) = count ∷ []
looked_number (verdicts.NotHeld count) = count ∷ []
looked_number verdict = []

-- the number of the operation by which runs went, if any did
abbrev pub expired_number : Expiry → List ℕ
expired_number (expiries.Expired number) = number ∷ []
expired_number verdict = []

-- the number of operations at the look that showed no run too old, if one did
abbrev pub idle_number : Expiry → List ℕ
idle_number (expiries.Idle count) = count ∷ []
idle_number verdict = []

-- the numbers of a verdict, where there is one yet
abbrev pub numbers_by : {V : Type 0} → (V → List ℕ) → Option V → List ℕ
numbers_by number None = []
numbers_by number (Some verdict) = number verdict

-- a verdict was found: each operation that was published is counted
pub record Decides (pass pass' : History) (share share' : ℕ) (published looked : List ℕ) : Type 0 where
  pub sees : Sees pass pass' published looked
  pub counted : share' ≡ share + length published
