-- Where an event takes a session, and which events answer its last action.
use Rattle.std.specs.Prelude.{◌+◌, ◌-◌, ◌<◌, ◌≤◌, length, take, ⊤}
use Rattle.web_frame.specs.Limit.{MAX_HEAD}
use Rattle.web_frame.specs.Stream.{held_len, with_bytes}
use Rattle.web_session.specs.declared.action.End.TheVariants as ends
use Rattle.web_session.specs.declared.event.Event.{Event}
use Rattle.web_session.specs.declared.event.Event.TheVariants.{Start, Bytes, Answer, Sent, EndOfInput, NoAnswer, Fault}
use Rattle.web_session.specs.declared.phase.Phase.{Phase}
use Rattle.web_session.specs.declared.phase.Phase.TheVariants.{Waiting, Asking, Sending, Ended}
use Rattle.web_session.specs.State.{State, end_of_input, looked, sent}

-- where an event takes a session in a phase; an event that doesn't answer the last action changes nothing
abbrev pub after_in : Phase → State → Event → State
after_in Waiting s (Bytes piece) = looked (with_bytes (take (MAX_HEAD - held_len s.held) piece.now) s.held) s.before
after_in Waiting s EndOfInput = record s { phase = Ended (end_of_input s.held.rest) }
after_in Waiting s Fault = record s { phase = Ended ends.LinkFault }
after_in (Asking asked) s (Answer len) = sent s asked 0 len
after_in (Asking asked) s NoAnswer = record s { phase = Ended ends.NoMemory }
after_in (Sending asked from len) s (Sent count) = sent s asked (from + count) len
after_in (Sending asked from len) s Fault = record s { phase = Ended ends.LinkFault }
after_in phase s event = s

-- where an event takes a session
unfoldable pub after_event : State → Event → State
after_event s event = after_in s.phase s event

-- the event answers the last action of a session in a phase
abbrev pub IsAnswerIn : Phase → State → Event → Type 0
IsAnswerIn Waiting s Start = ⊤
IsAnswerIn Waiting s (Bytes piece) = length piece.now ≤ MAX_HEAD - held_len s.held
IsAnswerIn Waiting s EndOfInput = ⊤
IsAnswerIn Waiting s Fault = ⊤
IsAnswerIn (Asking asked) s Start = ⊤
IsAnswerIn (Asking asked) s (Answer len) = ⊤
IsAnswerIn (Asking asked) s NoAnswer = ⊤
IsAnswerIn (Sending asked from len) s (Sent count) = (0 < count) × (count ≤ len - from)
IsAnswerIn (Sending asked from len) s Fault = ⊤
IsAnswerIn (Ended end) s event = ⊤
IsAnswerIn phase s event = ⊥

-- the event answers the session's last action
unfoldable pub IsAnswer : State → Event → Type 0
IsAnswer s event = IsAnswerIn s.phase s event
