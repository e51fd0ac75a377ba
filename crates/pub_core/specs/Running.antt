-- The events that a served link is: requests are read byte by byte, each is replied to over what was published by then,
-- and as much of its reply is sent as was written.
use Rattle.std.specs.Prelude.{◌≡◌, ℕ, List, [], ◌∷◌, ◌++◌, length, map, drop, take, slice_get, slice_range, nat_lt, Bool, false, if◌then◌else◌, Some, None}
use Rattle.fm_model.specs.declared.op.Op.{Op}
use Rattle.fm_model.specs.declared.proto.Proto.{Proto}
use Rattle.fm_model.specs.Collection.{coll, full_at}
use Rattle.web_frame.specs.Items.{Item}
use Rattle.dap_reply.specs.declared.served.Mark.{Mark}
use Rattle.dap_reply.specs.Reply.{is_wanted}
use Rattle.dap_reply.specs.Served.{input_of, items_of, LinkCall}
use Rattle.pub_core.specs.declared.event.Event.{Event}
use Rattle.pub_core.specs.declared.event.Event.TheVariants.{Publish, Look, Learn, Bytes, Sent}
use Rattle.pub_core.specs.Happening.{happens, run}
use Rattle.pub_core.specs.World.{output_of, start, waits, World}

-- each of some operations can be published after those before it
abbrev pub AreTakenInTurn : List Op → Type 0
AreTakenInTurn ops = (earlier later : List Op) (op : Op) → ops ≡ earlier ++ op ∷ later
    → full_at (coll earlier) op ≡ None

-- whether the first session waits
unfoldable pub first_waits : Proto → World → Bool
first_waits proto world = elim (slice_get world.sessions 0) [ None ↦ false | Some s ↦ waits proto world.log s ]

-- the bytes that the first session was sent
unfoldable pub first_output : Proto → World → List ℕ
first_output proto world = elim (slice_get world.sessions 0) [ None ↦ [] | Some s ↦ output_of proto world.log s ]

-- a byte is fed to the first session
abbrev pub feed_byte : ℕ → Event
feed_byte byte = Bytes 0 (byte ∷ [])

-- bytes are fed to it one by one, as long as it waits
unfoldable pub feeding : Proto → World → List ℕ → List Event
feeding proto world [] = []
feeding proto world (byte ∷ bytes) =
    if first_waits proto world
    then feed_byte byte ∷ feeding proto (happens proto world (feed_byte byte)) bytes
    else []

-- where a collection is looked at for a request, the operations up to the revision of its reply are published, of which
-- `seen` were published before, and it looks
unfoldable pub looking : Proto → List Op → ℕ → Mark → Item → List Event
looking proto ops seen mark item =
    if is_wanted proto.site item then map Publish (slice_range ops seen mark.revision) ++ Look 0 ∷ [] else []

-- as much of its reply is sent as was written, if anything was
unfoldable pub sending : Mark → List Event
sending mark = if nat_lt 0 mark.sent then Sent 0 mark.sent ∷ [] else []

-- one reply, in a world
unfoldable pub replying : Proto → List Op → World → ℕ → List ℕ → Mark → Item → List Event
replying proto ops world seen input mark item =
    feeding proto world input ++ looking proto ops seen mark item ++ sending mark

-- the input that is left after it
unfoldable pub left_after : Proto → World → List ℕ → List ℕ
left_after proto world input = drop (length (feeding proto world input)) input

-- the replies that were begun, one after the other, from a world in which `seen` operations were published
unfoldable pub replies : Proto → List Op → World → ℕ → List ℕ → List Mark → List Item → List Event
replies proto ops world seen input [] items = []
replies proto ops world seen input (mark ∷ marks) [] = []
replies proto ops world seen input (mark ∷ marks) (item ∷ items) =
    let events = replying proto ops world seen input mark item in
    events ++ replies proto ops (run proto world events) mark.revision (left_after proto world input) marks items

-- before them the operations that were seen before the call are published, and the first session learns their number
unfoldable pub opening : LinkCall → List Event
opening call = map Publish (take (length call.seen) call.seen_after) ++ Learn 0 (length call.seen) ∷ []

-- the events of a call that serves a link, over one session
unfoldable pub events_of : LinkCall → List Event
events_of call =
    opening call
    ++ replies call.proto call.seen_after (run call.proto (start 1) (opening call)) (length call.seen) (input_of call)
    call.trail (items_of call)

-- where they lead
unfoldable pub world_of : LinkCall → World
world_of call = run call.proto (start 1) (events_of call)
