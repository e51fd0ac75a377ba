-- Runs of a session: the bytes that it is fed over some events, and the heads that it asks replies for.
use Rattle.std.specs.Prelude.{ℕ, List, [], ◌∷◌, ◌++◌, ⊤}
use Rattle.web_frame.specs.Items.{Item, request, bad_head, head_too_long, item_of}
use Rattle.web_frame.specs.Stream.{Held, target_in}
use Rattle.web_session.specs.declared.action.Asked.{Asked}
use Rattle.web_session.specs.declared.action.Asked.TheVariants as asked
use Rattle.web_session.specs.declared.event.Event.{Event}
use Rattle.web_session.specs.declared.event.Event.TheVariants.{Start, Bytes}
use Rattle.web_session.specs.declared.phase.Phase.{Phase}
use Rattle.web_session.specs.declared.phase.Phase.TheVariants.{Waiting, Asking}
use Rattle.web_session.specs.State.{State}
use Rattle.web_session.specs.Event.{after_event, IsAnswer}

-- each event answers the last action of a session
abbrev pub AllAnswer : State → List Event → Type 0
AllAnswer s [] = ⊤
AllAnswer s (event ∷ events) = IsAnswer s event × AllAnswer (after_event s event) events

-- where events take a session
abbrev pub after_events : State → List Event → State
after_events s [] = s
after_events s (event ∷ events) = after_events (after_event s event) events

-- the bytes that an event feeds a session in a phase
abbrev pub fed_in : Phase → Event → List ℕ
fed_in Waiting (Bytes piece) = piece.now
fed_in phase event = []

-- the bytes that events feed a session
abbrev pub fed : State → List Event → List ℕ
fed s [] = []
fed s (event ∷ events) = fed_in s.phase event ++ fed (after_event s event) events

-- the item that a reply is asked for
abbrev pub item_asked : Asked → Held → Item
item_asked (asked.Head r) held = request r (target_in (item_of held.head))
item_asked asked.BadHead held = bad_head
item_asked asked.HeadTooLong held = head_too_long

-- the item that a session in a phase asks a reply for
abbrev pub asks_in : Phase → Held → List Item
asks_in (Asking asked) held = item_asked asked held ∷ []
asks_in phase held = []

-- the item that an event makes a session ask a reply for; `Start` makes it say again what it asked for
abbrev pub asks_after : Event → State → List Item
asks_after Start s = []
asks_after event s = asks_in s.phase s.held

-- the items that events make a session ask replies for, in order
abbrev pub asks : State → List Event → List Item
asks s [] = []
asks s (event ∷ events) = asks_after event (after_event s event) ++ asks (after_event s event) events
