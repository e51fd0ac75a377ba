-- What one call that serves a link does over several collections: each reply is over the collection that its request is
-- for, and of each collection alone the call shows what a call over one collection shows.
use Rattle.std.specs.Prelude.{◌≡◌, ◌≢◌, ◌⊎◌, ℕ, ◌+◌, ◌≤◌, List, [], ◌∷◌, ◌++◌, filter, length, take, nat_eq, slice_get, Bool, true, if◌then◌else◌, Some}
use Rattle.fm_model.specs.declared.op.Op.{Op}
use Rattle.pub_look.specs.History.{Continues}
use Rattle.web_frame.specs.Items.{Item}
use Rattle.web_session.specs.declared.action.End.TheVariants as ends
use Rattle.web_session.specs.State.{State}
use Rattle.dap_reply.specs.declared.served.Mark.{Mark}
use Rattle.dap_reply.specs.declared.served.Stop.{Stop}
use Rattle.dap_reply.specs.declared.served.Stop.TheVariants as stops
use Rattle.dap_reply.specs.Collections.{alone, only, proto_for, Collections, Views}
use Rattle.dap_reply.specs.Head.{no_memory_reply}
use Rattle.dap_reply.specs.Served.{items_of, marked_reply, number_at, wanted_revisions, AnswersInOrder, HasFailed, LinkCall, RepeatsUnwanted, Rises, StopsBy}

-- what a call that serves a link over several collections found and left
pub record ManyCall : Type 0 where
  pub them : Collections
  pub before : Views
  pub after : Views
  pub session : State
  pub session_after : State
  pub taken : List ℕ
  pub written : List ℕ
  pub over : Bool
  pub faults : ℕ
  pub faults_after : ℕ
  pub most : ℕ
  pub stop : Stop
  pub trail : List Mark

-- the call as one of its collections sees it
abbrev pub call_in : ManyCall → ℕ → LinkCall
call_in call number = record {
  proto = call.them.proto number;
  still = call.them.still number;
  seen = call.before.seen number;
  seen_after = call.after.seen number;
  looks = call.before.looks number;
  looks_after = call.after.looks number;
  session = call.session;
  session_after = call.session_after;
  taken = call.taken;
  written = call.written;
  over = call.over;
  faults = call.faults;
  faults_after = call.faults_after;
  most = call.most;
  stop = call.stop;
  trail = call.trail;
}

-- the requests that were read, for whichever collection
abbrev pub all_items : ManyCall → List Item
all_items call = items_of (call_in call 0)

-- the requests for one collection, and the marks of the replies to them
abbrev pub items_for : Collections → ℕ → List Item → List Item
items_for them number items = filter (λ item. nat_eq (them.choice item) number) items

unfoldable pub marks_for : Collections → ℕ → List Mark → List Item → List Mark
marks_for them number [] items = []
marks_for them number (mark ∷ marks) [] = []
marks_for them number (mark ∷ marks) (item ∷ items) =
    if nat_eq (them.choice item) number
    then mark ∷ marks_for them number marks items
    else marks_for them number marks items

-- the reply to an item over the collection that it is for, with the revision of a mark
abbrev pub reply_for : Collections → (ℕ → List Op) → Mark → Item → ℕ → List ℕ
reply_for them seen mark item number =
    marked_reply (proto_for them item) (seen (them.choice item)) mark item number

-- the bytes of the replies that were begun, each as far as its mark says; the first has the number after `before`
unfoldable pub sent_for : Collections → (ℕ → List Op) → List Mark → List Item → ℕ → List ℕ
sent_for them seen [] items before = []
sent_for them seen (mark ∷ marks) [] before = []
sent_for them seen (mark ∷ marks) (item ∷ items) before =
    take mark.sent (reply_for them seen mark item (before + 1)) ++ sent_for them seen marks items (before + 1)

-- the reply at an index is whole, or it is the last one that was begun and the link failed
abbrev pub IsWholeOrCutFor : ManyCall → ℕ → Mark → Item → Type 0
IsWholeOrCutFor call index mark item =
    (mark.sent ≡ length (reply_for call.them call.after.seen mark item (number_at (call_in call 0) index)))
    ⊎ ((call.stop ≡ stops.Ended ends.LinkFault) × (index + 1 ≡ length call.trail)
    × (mark.sent ≤ length (reply_for call.them call.after.seen mark item (number_at (call_in call 0) index))))

-- the marks and the requests of a call for one collection
abbrev pub marks_in : ManyCall → ℕ → List Mark
marks_in call number = marks_for call.them number call.trail (all_items call)

abbrev pub items_in : ManyCall → ℕ → List Item
items_in call number = items_for call.them number (all_items call)

-- Of one collection more and more was seen, as of a collection alone. There is one look for each of its requests that
-- it is looked at for, in order, at the reply's revision, and then these.
pub record SeesOf (call : ManyCall) (number : ℕ) (more : List ℕ) : Type 0 where
  pub grows : Continues (call.before.seen number) (call.after.seen number)
  pub stays : call.them.still number ≡ true → call.after.seen number ≡ call.before.seen number
  pub rises : Rises (length (call.before.seen number)) (marks_in call number) (length (call.after.seen number))
  pub looks_are : call.after.looks number ≡ call.before.looks number
      ++ wanted_revisions (call.them.proto number) (marks_in call number) (items_in call number) ++ more
  pub repeats : RepeatsUnwanted (call.them.proto number) (length (call.before.seen number)) (marks_in call number)
      (items_in call number)

-- the same of each collection; where memory ran out one look more may follow, of one collection at all that was seen
pub record SeesEach (call : ManyCall) : Type 0 where
  pub more : ℕ → List ℕ
  pub each : (number : ℕ) → SeesOf call number (more number)
  pub last : ℕ
  pub at_most_one : (more last ≡ []) ⊎ (more last ≡ length (call.after.seen last) ∷ [])
  pub elsewhere : (number : ℕ) → number ≢ last → more number ≡ []
  pub only_short : call.stop ≢ stops.Ended ends.NoMemory → more last ≡ []

-- the bytes written are those of the replies, as over one collection
pub record WritesEach (call : ManyCall) : Type 0 where
  pub farewell : List ℕ
  pub written_is : call.written
      ≡ sent_for call.them call.after.seen call.trail (all_items call) call.session.before ++ farewell
  pub whole : (index : ℕ) (mark : Mark) (item : Item) → slice_get call.trail index ≡ Some mark
      → slice_get (all_items call) index ≡ Some item → IsWholeOrCutFor call index mark item
  pub only_short : call.stop ≢ stops.Ended ends.NoMemory → farewell ≡ []
  pub front : farewell ≡ take (length farewell) no_memory_reply
  pub said : call.stop ≡ stops.Ended ends.NoMemory → (farewell ≡ no_memory_reply) ⊎ HasFailed (call_in call 0)

-- a link that is served over several collections; the order of the replies and the stop speak of none of them
pub record ServedMany (call : ManyCall) : Type 0 where
  pub sees : SeesEach call
  pub answers : AnswersInOrder (call_in call 0)
  pub writes : WritesEach call
  pub stops : StopsBy (call_in call 0) call.stop

-- a call over one collection as one over several
abbrev pub as_many : LinkCall → ManyCall
as_many call = record {
  them = alone call.proto call.still;
  before = record { seen = only call.seen; looks = only call.looks };
  after = record { seen = only call.seen_after; looks = only call.looks_after };
  session = call.session;
  session_after = call.session_after;
  taken = call.taken;
  written = call.written;
  over = call.over;
  faults = call.faults;
  faults_after = call.faults_after;
  most = call.most;
  stop = call.stop;
  trail = call.trail;
}
