-- What one call that serves a link does: the replies to the requests that it reads, in order and each whole, over
-- collections that never get older.
use Rattle.std.specs.Prelude.{◌≡◌, ◌≢◌, ◌⊎◌, ℕ, ◌+◌, ◌-◌, ◌^◌, ◌<◌, ◌≤◌, min, List, [], ◌∷◌, ◌++◌, length, take, slice_get, Bool, true, false, if◌then◌else◌, Some}
use Rattle.fm_model.specs.declared.op.Op.{Op}
use Rattle.fm_model.specs.declared.proto.Proto.{Proto}
use Rattle.fm_model.specs.Collection.{coll}
use Rattle.pub_look.specs.History.{Continues}
use Rattle.web_frame.specs.Items.{bad_head, bytes_after, head_too_long, heads_of, request, Item, ReadsTo}
use Rattle.web_session.specs.declared.action.Asked.{Asked}
use Rattle.web_session.specs.declared.action.Asked.TheVariants as asked
use Rattle.web_session.specs.declared.action.End.{End}
use Rattle.web_session.specs.declared.action.End.TheVariants as ends
use Rattle.web_session.specs.declared.phase.Phase.TheVariants.{Ended}
use Rattle.web_session.specs.State.{end_after, end_of_input, resting, State}
use Rattle.dap_reply.specs.declared.served.Mark.{Mark}
use Rattle.dap_reply.specs.declared.served.Stop.{Stop}
use Rattle.dap_reply.specs.declared.served.Stop.TheVariants as stops
use Rattle.dap_reply.specs.Head.{no_memory_reply}
use Rattle.dap_reply.specs.Reply.{is_wanted, is_last, reply_of}

-- the bytes that a session holds: those of the request that it asks a reply for, and those after it
abbrev pub held_bytes : State → List ℕ
held_bytes session = session.held.head ++ session.held.rest

-- a session rests with the bytes that it holds
pub record IsAtRest (session : State) : Type 0 where
  pub session_is : session ≡ resting (held_bytes session) session.before

-- what a call that serves a link found and left: what was seen of the collection, the session, the bytes that were
-- taken from the link and written to it, whether the link said that its input is over, how often its calls had failed,
-- and what the call returned
pub record LinkCall : Type 0 where
  pub proto : Proto
  pub still : Bool
  pub seen : List Op
  pub seen_after : List Op
  pub looks : List ℕ
  pub looks_after : List ℕ
  pub session : State
  pub session_after : State
  pub taken : List ℕ
  pub written : List ℕ
  pub over : Bool
  pub faults : ℕ
  pub faults_after : ℕ
  pub most : ℕ
  pub stop : Stop
  pub trail : List Mark

-- a call of the link failed: its count rose, or stands at its greatest number
abbrev pub HasFailed : LinkCall → Type 0
HasFailed call = min (call.faults + 1) (2 ^ 64 - 1) ≤ call.faults_after

-- the bytes to read: those that the session held, and those that were taken
abbrev pub input_of : LinkCall → List ℕ
input_of call = held_bytes call.session ++ call.taken

-- the requests in them
abbrev pub items_of : LinkCall → List Item
items_of call = (heads_of (input_of call)).items

-- the number of the reply at an index, from 1
abbrev pub number_at : LinkCall → ℕ → ℕ
number_at call index = call.session.before + index + 1

-- the reply to an item, with the revision of a mark
abbrev pub marked_reply : Proto → List Op → Mark → Item → ℕ → List ℕ
marked_reply proto ops mark item number =
    reply_of proto (coll (take mark.revision ops)) mark.revision item number

-- the bytes of the replies that were begun, each as far as its mark says; the first has the number after `before`
unfoldable pub sent_by : Proto → List Op → List Mark → List Item → ℕ → List ℕ
sent_by proto ops [] items before = []
sent_by proto ops (mark ∷ marks) [] before = []
sent_by proto ops (mark ∷ marks) (item ∷ items) before =
    take mark.sent (marked_reply proto ops mark item (before + 1)) ++ sent_by proto ops marks items (before + 1)

-- the revisions never fall, from what was seen before the call to what was seen after it
unfoldable pub Rises : ℕ → List Mark → ℕ → Type 0
Rises from [] to = from ≤ to
Rises from (mark ∷ marks) to = (from ≤ mark.revision) × Rises mark.revision marks to

-- a request for which no collection is looked at has the revision before it
unfoldable pub RepeatsUnwanted : Proto → ℕ → List Mark → List Item → Type 0
RepeatsUnwanted proto before [] items = Unit {0}
RepeatsUnwanted proto before (mark ∷ marks) [] = Unit {0}
RepeatsUnwanted proto before (mark ∷ marks) (item ∷ items) =
    (is_wanted proto.site item ≡ false → mark.revision ≡ before)
    × RepeatsUnwanted proto mark.revision marks items

-- the revisions of the requests that a collection is looked at for
unfoldable pub wanted_revisions : Proto → List Mark → List Item → List ℕ
wanted_revisions proto [] items = []
wanted_revisions proto (mark ∷ marks) [] = []
wanted_revisions proto (mark ∷ marks) (item ∷ items) =
    if is_wanted proto.site item
    then mark.revision ∷ wanted_revisions proto marks items
    else wanted_revisions proto marks items

-- the reply at an index is whole, or it is the last one that was begun and the link failed
abbrev pub IsWholeOrCut : LinkCall → ℕ → Mark → Item → Type 0
IsWholeOrCut call index mark item =
    (mark.sent ≡ length (marked_reply call.proto call.seen_after mark item (number_at call index)))
    ⊎ ((call.stop ≡ stops.Ended ends.LinkFault) × (index + 1 ≡ length call.trail)
    × (mark.sent ≤ length (marked_reply call.proto call.seen_after mark item (number_at call index))))

-- what was seen only grew, and not at all where the giver of looks stands still; the revisions of the replies never
-- fall, and lie between what was seen before and after
pub record SeesMore (call : LinkCall) : Type 0 where
  pub grows : Continues call.seen call.seen_after
  pub stays : call.still ≡ true → call.seen_after ≡ call.seen
  pub rises : Rises (length call.seen) call.trail (length call.seen_after)

-- there is a reply for each of the first requests, at most as many as were asked for, and none but the last of them is
-- a connection's last
pub record AnswersInOrder (call : LinkCall) : Type 0 where
  pub few : length call.trail ≤ call.most
  pub read : length call.trail ≤ length (items_of call)
  pub goes_on : (index : ℕ) (item : Item) → index + 1 < length call.trail → slice_get (items_of call) index ≡ Some item
      → is_last item (number_at call index) ≡ false

-- the bytes written are those of the replies, each whole but for the last where the link failed; where memory ran out
-- the text that says so follows, whole unless the link failed too
pub record WritesReplies (call : LinkCall) : Type 0 where
  pub farewell : List ℕ
  pub written_is : call.written
      ≡ sent_by call.proto call.seen_after call.trail (items_of call) call.session.before ++ farewell
  pub whole : (index : ℕ) (mark : Mark) (item : Item) → slice_get call.trail index ≡ Some mark
      → slice_get (items_of call) index ≡ Some item → IsWholeOrCut call index mark item
  pub only_short : call.stop ≢ stops.Ended ends.NoMemory → farewell ≡ []
  pub front : farewell ≡ take (length farewell) no_memory_reply
  pub said : call.stop ≡ stops.Ended ends.NoMemory → (farewell ≡ no_memory_reply) ⊎ HasFailed call

-- there is one look for each request that a collection is looked at for, in order, at its revision; where memory ran
-- out one more may follow, at all that was seen
pub record LooksOnce (call : LinkCall) : Type 0 where
  pub more : List ℕ
  pub looks_are : call.looks_after
      ≡ call.looks ++ wanted_revisions call.proto call.trail (items_of call) ++ more
  pub at_most_one : (more ≡ []) ⊎ (more ≡ length call.seen_after ∷ [])
  pub only_short : call.stop ≢ stops.Ended ends.NoMemory → more ≡ []
  pub repeats : RepeatsUnwanted call.proto (length call.seen) call.trail (items_of call)

-- what a session asks a reply for
abbrev pub asked_of : Item → Asked
asked_of (request r target) = asked.Head r
asked_of bad_head = asked.BadHead
asked_of head_too_long = asked.HeadTooLong

-- the reply that was begun last is whole, and a connection ends so after it
pub record EndsAfterReply (call : LinkCall) (end : End) : Type 0 where
  pub index : ℕ
  pub item : Item
  pub index_is : index + 1 ≡ length call.trail
  pub item_is : slice_get (items_of call) index ≡ Some item
  pub end_is : end_after (asked_of item) (call.session.before + index) ≡ Some end

-- all requests that were read are answered, and none of the replies was a connection's last
pub record AnswersAll (call : LinkCall) : Type 0 where
  pub all : length call.trail ≡ length (items_of call)
  pub more : length call.trail < call.most
  pub goes_on : (index : ℕ) (item : Item) → slice_get (items_of call) index ≡ Some item
      → is_last item (number_at call index) ≡ false

-- a reply was due: a request that was read has none, fewer were written than were asked for, and none of them was a
-- connection's last
pub record LacksReply (call : LinkCall) : Type 0 where
  pub unanswered : length call.trail < length (items_of call)
  pub few : length call.trail < call.most
  pub goes_on : (index : ℕ) (item : Item) → index < length call.trail → slice_get (items_of call) index ≡ Some item
      → is_last item (number_at call index) ≡ false

-- as many replies were written as were asked for, none of them a connection's last; the session rests, and holds the
-- bytes after the heads that were answered, which read as what comes after them
pub record HasEnough (call : LinkCall) : Type 0 where
  pub all : length call.trail ≡ call.most
  pub goes_on : (index : ℕ) (item : Item) → index < length call.trail → slice_get (items_of call) index ≡ Some item
      → is_last item (number_at call index) ≡ false
  pub rests : IsAtRest call.session_after
  pub held_is : held_bytes call.session_after ≡ bytes_after call.most (input_of call)
  pub left : ReadsTo (input_of call) (take call.most (items_of call)) (held_bytes call.session_after)
  pub counted : call.session_after.before ≡ call.session.before + call.most

-- where input is over and these bytes are left, a link ends so
abbrev pub InputEnds : LinkCall → End → Type 0
InputEnds call end = (call.over ≡ true) × AnswersAll call × (end ≡ end_of_input (heads_of (input_of call)).rest)

-- a link ends so only where this holds
unfoldable pub EndsBy : LinkCall → End → Type 0
EndsBy call ends.Closed = InputEnds call ends.Closed
EndsBy call (ends.Cut left) = InputEnds call (ends.Cut left)
EndsBy call ends.LinkFault = HasFailed call
EndsBy call ends.NoMemory = LacksReply call
EndsBy call end = EndsAfterReply call end

-- the call stops so only where this holds
unfoldable pub StopsBy : LinkCall → Stop → Type 0
StopsBy call stops.Enough = HasEnough call
StopsBy call (stops.Ended end) = (call.session_after.phase ≡ Ended end) × EndsBy call end

-- a served link
pub record Served (call : LinkCall) : Type 0 where
  pub sees : SeesMore call
  pub answers : AnswersInOrder call
  pub writes : WritesReplies call
  pub looks : LooksOnce call
  pub stops : StopsBy call call.stop
