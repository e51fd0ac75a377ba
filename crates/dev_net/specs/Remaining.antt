-- How many times something is still to come.
use Rattle.std.specs.Prelude.{◌≡◌, ◌≢◌, ◌⊎◌, ℕ, ◌-◌, nat_eq, if◌then◌else◌, Option, Some, None}
use Rattle.dev_traits.specs.declared.door.Coming.{Coming}
use Rattle.dev_traits.specs.declared.door.Coming.TheVariants.{Came, Ready, Closed}
use Rattle.dev_net.specs.declared.remaining.Remaining.{Remaining}
use Rattle.dev_net.specs.declared.remaining.Remaining.TheVariants.{Endless, Times}

-- `count` times, where a `count` of 0 is without end
abbrev pub remaining_of : ℕ → Remaining
remaining_of count = if nat_eq count 0 then Endless else Times count

-- after it came once more
abbrev pub one_less : Remaining → Remaining
one_less Endless = Endless
one_less (Times count) = Times (count - 1)

-- Each link that comes is one less, and where none is left none comes.
abbrev pub ComesOf : {L : Type 0} → Remaining → Remaining → Option L → Type 0
ComesOf before now None = now ≡ before
ComesOf before now (Some link) = (before ≢ Times 0) × (now ≡ one_less before)

-- A door may close: none is left to come, or they are without end, and the door was told to close.
abbrev pub MayClose : Remaining → Type 0
MayClose remaining = (remaining ≡ Times 0) ⊎ (remaining ≡ Endless)

-- The same of what comes next at a door. One of a number of links closes only where none is left.
abbrev pub CountsDown : {L : Type 0} → Remaining → Remaining → Coming L → Type 0
CountsDown before now (Came link) = (before ≢ Times 0) × (now ≡ one_less before)
CountsDown before now (Ready key) = now ≡ before
CountsDown before now Closed = MayClose before × (now ≡ before)
