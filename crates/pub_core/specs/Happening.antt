-- What happens in a world. It is told of any event: one that isn't possible there changes nothing.
use Rattle.std.specs.Prelude.{ℕ, zero, suc, ◌+◌, ◌-◌, max, fold, List, [], ◌∷◌, ◌++◌, length, slice_get, slice_set, nat_le, nat_lt, Bool, true, false, ◌&&◌, ◌||◌, is_none, if◌then◌else◌, Some, None}
use Rattle.fm_model.specs.declared.op.Op.{Op}
use Rattle.fm_model.specs.declared.proto.Proto.{Proto}
use Rattle.fm_model.specs.Collection.{coll, full_at}
use Rattle.web_frame.specs.Limit.{MAX_HEAD}
use Rattle.web_frame.specs.Items.{Item}
use Rattle.dap_reply.specs.Reply.{is_last}
use Rattle.pub_core.specs.declared.event.Event.{Event}
use Rattle.pub_core.specs.declared.event.Event.TheVariants.{Publish, Look, Learn, Bytes, Sent, End, Fault}
use Rattle.pub_core.specs.World.{asks, is_due, items_fed, rest_fed, rests, sends, unsent, waits, SessionState, World}

-- an event can happen to a session
unfoldable pub is_possible_to : Proto → List Op → Event → SessionState → Bool
is_possible_to proto log (Publish op) s = false
is_possible_to proto log (Look number) s = asks proto log s
is_possible_to proto log (Learn number count) s = nat_le count (length log)
is_possible_to proto log (Bytes number piece) s =
    waits proto log s && (nat_lt 0 (length piece) && nat_le (length piece) (MAX_HEAD - length (rest_fed s)))
is_possible_to proto log (Sent number count) s =
    sends proto log s && (nat_lt 0 count && nat_le count (unsent proto log s))
is_possible_to proto log (End number) s = waits proto log s
is_possible_to proto log (Fault number) s = waits proto log s || sends proto log s

-- a session after a possible event: a look begins a reply over the whole log
unfoldable pub effect_of : List Op → Event → SessionState → SessionState
effect_of log (Publish op) s = s
effect_of log (Look number) s = record s { revs = s.revs ++ length log ∷ []; seen = length log }
effect_of log (Learn number count) s = record s { seen = max s.seen count }
effect_of log (Bytes number piece) s = record s { fed = s.fed ++ piece }
effect_of log (Sent number count) s = record s { sent = s.sent + count }
effect_of log (End number) s = record s { ended = true }
effect_of log (Fault number) s = record s { ended = true }

-- whether the reply to the item before an index is a connection's last
abbrev pub is_last_before : List Item → ℕ → Bool
is_last_before items zero = false
is_last_before items (suc index) =
    elim (slice_get items index) [ None ↦ false | Some item ↦ is_last item (suc index) ]

-- a session that rests after a connection's last reply has ended
unfoldable pub closed : Proto → List Op → SessionState → SessionState
closed proto log s =
    if rests proto log s && is_last_before (items_fed s) (length s.revs) then record s { ended = true } else s

-- a reply that is due for which no collection is looked at is begun, with the number that was seen
unfoldable pub begun : Proto → List Op → SessionState → SessionState
begun proto log s = if is_due proto log s then record s { revs = s.revs ++ s.seen ∷ [] } else s

-- both, in this order, after each event
unfoldable pub settled : Proto → List Op → SessionState → SessionState
settled proto log s = begun proto log (closed proto log s)

-- a session after an event
unfoldable pub after : Proto → List Op → Event → SessionState → SessionState
after proto log event s =
    if is_possible_to proto log event s then settled proto log (effect_of log event s) else s

-- a world after an operation is published, which is taken where nothing is full
unfoldable pub published : World → Op → World
published world op =
    if is_none (full_at (coll world.log) op) then record world { log = world.log ++ op ∷ [] } else world

-- sessions after an event of the one of a number, if there is one
unfoldable pub after_at : Proto → List Op → List SessionState → ℕ → Event → List SessionState
after_at proto log sessions number event = elim (slice_get sessions number) [
  | None ↦ sessions
  | Some s ↦ slice_set sessions number (after proto log event s)
]

-- a world after an event of the session of a number
unfoldable pub happens_to : Proto → World → ℕ → Event → World
happens_to proto world number event =
    record world { sessions = after_at proto world.log world.sessions number event }

-- a world after an event
unfoldable pub happens : Proto → World → Event → World
happens proto world (Publish op) = published world op
happens proto world (Look number) = happens_to proto world number (Look number)
happens proto world (Learn number count) = happens_to proto world number (Learn number count)
happens proto world (Bytes number piece) = happens_to proto world number (Bytes number piece)
happens proto world (Sent number count) = happens_to proto world number (Sent number count)
happens proto world (End number) = happens_to proto world number (End number)
happens proto world (Fault number) = happens_to proto world number (Fault number)

-- a world after some events, one after the other
unfoldable pub run : Proto → World → List Event → World
run proto world events = fold (happens proto) world events
