-- A session's own events in a run.
use Rattle.std.specs.Prelude.{ℕ, ◌==◌, ◌≤◌, Bool, true, List, All, AllPairs}
use Rattle.pub_core.specs.declared.event.Event.{Event}
use Rattle.pub_core.specs.declared.event.Event.TheVariants.{Publish, Look, Learn, Bytes, Sent, End, Fault}

-- an event concerns the session of a number: an operation is published, or it is the session's own
unfoldable pub concerns : ℕ → Event → Bool
concerns number (Publish op) = true
concerns number (Look other) = other == number
concerns number (Learn other count) = other == number
concerns number (Bytes other piece) = other == number
concerns number (Sent other count) = other == number
concerns number (End other) = other == number
concerns number (Fault other) = other == number

-- revisions that never fall, and don't pass a number
pub record NeverFall (revs : List ℕ) (most : ℕ) : Type 0 where
  pub rise : AllPairs (λ (earlier later : ℕ). earlier ≤ later) revs
  pub within : All (λ (revision : ℕ). revision ≤ most) revs
