-- A session: what it holds and where it stands, what it asks for next, and where an event takes it.
use Rattle.std.specs.Prelude.{ℕ, ◌+◌, ◌-◌, Bool, true, false, ◌&&◌, ◌==◌, nat_lt, if◌then◌else◌, List, [], length, Option, Some, None, is_some, ⊤}
use Rattle.web_frame.specs.declared.frame.Next.{Next}
use Rattle.web_frame.specs.declared.frame.Next.TheVariants as next
use Rattle.web_frame.specs.Limit.{MAX_HEAD}
use Rattle.web_frame.specs.Cut.{after_blank}
use Rattle.web_frame.specs.Stream.{Held, held_len, next_of, held_after}
use Rattle.web_session.specs.declared.action.Action.{Action}
use Rattle.web_session.specs.declared.action.Action.TheVariants.{Read, Ask, Send, Close}
use Rattle.web_session.specs.declared.action.Asked.{Asked}
use Rattle.web_session.specs.declared.action.Asked.TheVariants as asked
use Rattle.web_session.specs.declared.action.End.{End}
use Rattle.web_session.specs.declared.action.End.TheVariants as ends
use Rattle.web_session.specs.declared.phase.Phase.{Phase}
use Rattle.web_session.specs.declared.phase.Phase.TheVariants.{Waiting, Asking, Sending, Ended}

-- the most replies of a session
abbrev pub MAX_REPLIES : ℕ
MAX_REPLIES = 10000

-- where a session stands, what it holds, and how many replies it sent before the present request
pub record State : Type 0 where
  pub phase : Phase
  pub held : Held
  pub before : ℕ

-- a session at its start
abbrev pub fresh : State
fresh = record { phase = Waiting; held = record { head = []; rest = [] }; before = 0 }

-- the next action: a read where no head is whole, then an answer to a head, then the unsent bytes of its reply
abbrev pub action_at : Phase → Held → Action
action_at Waiting held = Read (MAX_HEAD - held_len held)
action_at (Asking asked) held = Ask asked
action_at (Sending asked from len) held = Send from
action_at (Ended end) held = Close end

unfoldable pub action_of : State → Action
action_of s = action_at s.phase s.held

-- how the link ends after the reply to what was asked, if it does
abbrev pub end_after : Asked → ℕ → Option End
end_after (asked.Head r) before = if r.close then Some ends.Asked
    else (if r.has_body then Some ends.BodyNotTaken
    else (if before + 1 == MAX_REPLIES then Some ends.RequestLimit else None))
end_after asked.BadHead before = Some ends.BadHead
end_after asked.HeadTooLong before = Some ends.HeadTooLong

-- how the link ends where input ends: after empty lines or nothing, or within a head
unfoldable pub end_of_input : List ℕ → End
end_of_input rest = let left = length (after_blank rest) in if left == 0 then ends.Closed else ends.Cut left

-- where a session stands that looked for the next head
abbrev pub phase_after : Next → Phase
phase_after next.Need = Waiting
phase_after (next.Head r) = Asking (asked.Head r)
phase_after next.BadHead = Asking asked.BadHead
phase_after next.HeadTooLong = Asking asked.HeadTooLong

-- a session that rests with these bytes, after this number of replies: it has looked for a head in them, and sends
-- nothing
abbrev pub resting : List ℕ → ℕ → State
resting bytes before = record { phase = phase_after (next_of bytes); held = held_after bytes; before = before }

-- a session that looks for the next head
unfoldable pub looked : Held → ℕ → State
looked held before = resting held.rest before

-- a session whose reply is whole
abbrev pub replied_by : Option End → State → State
replied_by (Some end) s = record s { phase = Ended end }
replied_by None s = looked s.held (s.before + 1)

-- the same, by the table of ends
unfoldable pub replied : State → Asked → State
replied s asked = replied_by (end_after asked s.before) s

-- a session that sent this many bytes of a reply
unfoldable pub sent : State → Asked → ℕ → ℕ → State
sent s asked from len = if nat_lt from len then record s { phase = Sending asked from len } else replied s asked

-- the fact holds of the room, where bytes are read
abbrev pub IfRead : Action → (ℕ → Type 0) → Type 0
IfRead (Read room) P = P room
IfRead (Ask asked) P = ⊤
IfRead (Send from) P = ⊤
IfRead (Close end) P = ⊤

-- whether the link ends after the reply to the present request
unfoldable pub ends_link : Phase → ℕ → Bool
ends_link Waiting before = false
ends_link (Asking asked) before = is_some (end_after asked before)
ends_link (Sending asked from len) before = is_some (end_after asked before)
ends_link (Ended end) before = false

-- a session that waits has room, one that sends has bytes left, and one that goes on has replies left
abbrev pub is_sound_in : Phase → Held → ℕ → Bool
is_sound_in Waiting held before = nat_lt (held_len held) MAX_HEAD && nat_lt before MAX_REPLIES
is_sound_in (Asking asked) held before = nat_lt before MAX_REPLIES
is_sound_in (Sending asked from len) held before = nat_lt from len && nat_lt before MAX_REPLIES
is_sound_in (Ended end) held before = true

unfoldable pub is_sound : State → Bool
is_sound s = is_sound_in s.phase s.held s.before
