-- What pulling a message does to a link.
use Rattle.std.specs.Prelude.{⊤, ◌≡◌, ℕ, ◌+◌, ◌<◌, ◌≤◌, nat_lt, if◌then◌else◌, List, [], ◌++◌, length, take, Option, option_map, IfSome, Result, Ok, Err}
use Rattle.fm_base.specs.Chain.{fault_as}
use Rattle.dev_traits.specs.Cause.{one_more}
use Rattle.dev_traits.specs.Link.{Wire, after_put}
use Rattle.dev_traits.specs.Moved.{AreNext, IsOver, moved}
use Rattle.dap_client.specs.declared.fault.ClientFault.{ClientFault}
use Rattle.dap_client.specs.declared.fault.ClientFault.TheVariants.{BadData, ReplyEnded}
use Rattle.dap_client.specs.declared.fault.PullEnd.{PullEnd}
use Rattle.dap_client.specs.declared.fault.PullEnd.TheVariants as ends
use Rattle.dap_client.specs.declared.head.HeadEnd.{HeadEnd}
use Rattle.dap_client.specs.declared.head.HeadEnd.TheVariants as heads
use Rattle.dap_client.specs.declared.message.Message.{Message}
use Rattle.dap_client.specs.DataReading.{message_or_fault}
use Rattle.dap_client.specs.Reply.{EndsAt, HasNoEnd, Says}
use Rattle.web_frame.specs.Limit.{MAX_HEAD}

-- these bytes, and nothing else, were taken of a link: its next ones, where it says what it holds
pub record IsTaken (bytes : List ℕ) (before now : Option Wire) : Type 0 where
  pub next : AreNext bytes before
  pub now_is : now ≡ moved bytes [] before

-- bytes that were taken of a link stand behind those before
pub record Gathers (before now : Option Wire) (old new : List ℕ) : Type 0 where
  pub bytes : List ℕ
  pub grown : new ≡ old ++ bytes
  pub taken : IsTaken bytes before now

-- what was taken for a head, by how that ended
abbrev pub IsHeadOf : List ℕ → HeadEnd → List ℕ → Type 0
IsHeadOf head heads.Whole input = EndsAt input (length head) × (length head ≤ MAX_HEAD)
IsHeadOf head heads.Early input =
    (length head ≡ length input) × HasNoEnd input (length input) × (length input < MAX_HEAD)
IsHeadOf head heads.Long input = (length head ≡ MAX_HEAD) × HasNoEnd input MAX_HEAD

-- a call over a link leaves the count of its failed calls, or adds one to it where the link failed
abbrev pub HasPullCause : {A : Type 0} → ℕ → ℕ → Result A PullEnd → Type 0
HasPullCause before now (Ok value) = now ≡ before
HasPullCause before now (Err ends.NoMemory) = now ≡ before
HasPullCause before now (Err ends.LinkFault) = now ≡ one_more before
HasPullCause before now (Err (ends.Fault fault)) = now ≡ before

-- the end is none of the reply's
abbrev pub IsOfLink : PullEnd → Type 0
IsOfLink ends.NoMemory = Unit {0}
IsOfLink ends.LinkFault = Unit {0}
IsOfLink (ends.Fault fault) = ⊥

-- the fact holds of the outcome, if there is one
abbrev pub IfPulled : Result Message PullEnd → (Result Message ClientFault → Type 0) → Type 0
IfPulled (Ok message) P = P (Ok message)
IfPulled (Err ends.NoMemory) P = ⊤
IfPulled (Err ends.LinkFault) P = ⊤
IfPulled (Err (ends.Fault fault)) P = P (Err fault)

-- all the bytes that were put on a link
abbrev pub put_of : Option Wire → Option (List ℕ)
put_of held = option_map (λ (wire : Wire). wire.put) held

-- a front of these bytes was put on a link
pub record PutsFront (bytes : List ℕ) (before now : Option Wire) : Type 0 where
  pub count : ℕ
  pub within : count ≤ length bytes
  pub put_is : put_of now ≡ put_of (after_put (take count bytes) before)

-- what a body of this length, behind n bytes, says by the bytes that were taken of it
abbrev pub said_of : ℕ → ℕ → List ℕ → Result Message ClientFault
said_of n len body = if nat_lt (length body) len then Err (ReplyEnded (n + length body))
    else fault_as BadData (message_or_fault body)

-- A body of this length, behind n bytes, was taken as far as there is one, and the outcome is what it says.
pub record IsReadBehind (n len : ℕ) (before now : Option Wire) (outcome : Result Message ClientFault) : Type 0 where
  pub body : List ℕ
  pub taken : IsTaken body before now
  pub most : length body ≤ len
  pub short : length body < len → IsOver now
  pub outcome_is : outcome ≡ said_of n len body

-- All of the request was put, and the outcome is what the bytes say that were taken, of which none stands behind the
-- reply.
pub record Pulls (request : List ℕ) (before now : Option Wire) (outcome : Result Message ClientFault) : Type 0 where
  pub taken : List ℕ
  pub next : AreNext taken before
  pub now_is : now ≡ moved taken request before
  pub says : IfSome before (λ wire. Says wire.left (length taken) outcome)
