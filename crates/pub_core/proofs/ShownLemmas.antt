-- What a connection shows, where something happens to it. It is long, since each action is told apart from
-- the others.
use Rattle.std.proofs.Common.{◌≡◌, ℕ, ◌-◌, Bool, true, false, not, ◌&&◌, List, length, Option, Some, None, refl, sym, ap, subst, ◌∙◌}
use Rattle.std.specs.Prelude.{is_none}
use Rattle.fm_model.specs.declared.op.Op.{Op}
use Rattle.fm_model.specs.declared.proto.Proto.{Proto}
use Rattle.web_frame.specs.Limit.{MAX_HEAD}
use Rattle.web_frame.specs.Items.{Item}
use Rattle.web_session.specs.declared.action.Action.TheVariants.{Read, Ask, Send, Close}
use Rattle.web_session.specs.declared.action.Asked.{Asked}
use Rattle.web_session.specs.declared.action.End.{End as Ending}
use Rattle.web_session.specs.declared.event.Event.TheVariants as step
use Rattle.web_session.specs.declared.phase.Phase.{Phase}
use Rattle.web_session.specs.declared.phase.Phase.TheVariants.{Ended}
use Rattle.web_session.specs.Event.{after_event}
use Rattle.web_session.specs.State.{action_at, action_of, resting, State}
use Rattle.web_session.proofs.StartLemmas.{start-same}
use Rattle.dap_reply.specs.Parts.{bytes_of, Parts}
use Rattle.dap_reply.specs.Served.{asked_of}
use Rattle.pub_core.specs.declared.connection.Connection.{Connection}
use Rattle.pub_core.specs.Happening.{begun}
use Rattle.pub_core.specs.Shown.{sending_reply, IsShown, Shows, Stands}
use Rattle.pub_core.specs.Shown.Stands.{at_end, at_rest, in_reply}
use Rattle.pub_core.specs.Standing.{first_item, Replies, Rests}
use Rattle.pub_core.specs.World.{asks, is_due, is_idle, is_refused_at, is_wanted_at, next_item, rests, sends, waits, SessionState}
use Rattle.pub_core.proofs.MachineLemmas.{asks-rest-for, reads-rest}
use Rattle.pub_core.proofs.Replying.{asks-reply, due-reply, waits-reply}
use Rattle.pub_core.proofs.Resting.{asks-rest, due-rest, sends-rest, waits-rest, and-false}
use Rattle.pub_core.proofs.Steps.{begun-no, due-ended}

-- a connection whose machine stands so
abbrev pub with_machine : Connection → State → Connection
with_machine c machine = record c { session = machine }

-- the action that is due was asked for
pub restarted : (c : Connection) (machine : State) → machine ≡ after_event c.session step.Start
    → with_machine c machine ≡ c
restarted c machine is = ap (with_machine c) (is ∙ start-same c.session)

-- nothing is due
pub shown-begun : {proto : Proto} {log : List Op} {c : Connection} {s : SessionState} → Shows proto log c s
    → is_due proto log s ≡ false → IsShown proto log c (begun proto log s)
shown-begun {proto} {log} {c} {s} shows none =
    subst (IsShown proto log c) (sym (begun-no proto log s none)) (record { shows = shows; due = none })

-- ---- by the action

action-end : (machine : State) (end : Ending) → machine.phase ≡ Ended end → action_of machine ≡ Close end
unfolding action_of
action-end machine end is = ap (λ (p : Phase). action_at p machine.held) is

action-sending : (left : List ℕ) (count : ℕ) (item : Item) (from len : ℕ)
    → action_of (sending_reply left count item from len) ≡ Send from
unfolding action_of
action-sending left count item from len = refl

-- a session whose machine asks
pub record Asks (proto : Proto) (log : List Op) (c : Connection) (s : SessionState) (asked : Asked) : Type 0 where
  pub left : List ℕ
  pub item : Item
  pub rests : Rests proto log s left
  pub item_is : first_item left ≡ Some item
  pub asked_is : asked_of item ≡ asked
  pub machine_is : c.session ≡ resting left (length rests.done)

asks-rest-by : {proto : Proto} {log : List Op} {c : Connection} {s : SessionState} {asked : Asked} (left : List ℕ)
    (front : Option Item) (r : Rests proto log s left) → c.session ≡ resting left (length r.done)
    → first_item left ≡ front → action_of c.session ≡ Ask asked → Asks proto log c s asked
asks-rest-by {c = c} {asked = asked} left None r machine first is =
    let clash : Read (MAX_HEAD - length left) ≡ Ask asked =
    sym (ap action_of machine ∙ reads-rest left (length r.done) first) ∙ is in
    absurd (cc)
asks-rest-by {c = c} {asked = asked} left (Some item) r machine first is =
    let same : Ask (asked_of item) ≡ Ask asked =
    sym (ap action_of machine ∙ asks-rest-for left (length r.done) item first) ∙ is in
    record { left = left; item = item; rests = r; item_is = first; asked_is = cc; machine_is = machine }

asks-by : {proto : Proto} {log : List Op} {c : Connection} {s : SessionState} {asked : Asked}
    → Stands proto log s c.session c.plan → action_of c.session ≡ Ask asked → Asks proto log c s asked
asks-by (at_rest left r machine) is = asks-rest-by left (first_item left) r machine refl is
asks-by {asked = asked} (in_reply left item before reply from r plan machine) is =
    let clash : Send from ≡ Ask asked =
    sym (ap action_of machine ∙ action-sending left (length r.done) item from (length (bytes_of reply))) ∙ is in
    absurd (cc)
asks-by {c = c} {asked = asked} (at_end end phase ended) is =
    let clash : Close end ≡ Ask asked = sym (action-end c.session end phase) ∙ is in
    absurd (cc)

pub asking : {proto : Proto} {log : List Op} {c : Connection} {s : SessionState} {asked : Asked}
    → Shows proto log c s → action_of c.session ≡ Ask asked → Asks proto log c s asked
asking shows is = asks-by shows.stands is

-- a session whose machine reads
pub record Reads (proto : Proto) (log : List Op) (c : Connection) (s : SessionState) (room : ℕ) : Type 0 where
  pub left : List ℕ
  pub rests : Rests proto log s left
  pub none : first_item left ≡ None
  pub room_is : room ≡ MAX_HEAD - length left
  pub machine_is : c.session ≡ resting left (length rests.done)

reads-rest-by : {proto : Proto} {log : List Op} {c : Connection} {s : SessionState} {room : ℕ} (left : List ℕ)
    (front : Option Item) (r : Rests proto log s left) → c.session ≡ resting left (length r.done)
    → first_item left ≡ front → action_of c.session ≡ Read room → Reads proto log c s room
reads-rest-by {room = room} left None r machine first is =
    let same : Read (MAX_HEAD - length left) ≡ Read room =
    sym (ap action_of machine ∙ reads-rest left (length r.done) first) ∙ is in
    record { left = left; rests = r; none = first; room_is = cc; machine_is = machine }
reads-rest-by {room = room} left (Some item) r machine first is =
    let clash : Ask (asked_of item) ≡ Read room =
    sym (ap action_of machine ∙ asks-rest-for left (length r.done) item first) ∙ is in
    absurd (cc)

reads-by : {proto : Proto} {log : List Op} {c : Connection} {s : SessionState} {room : ℕ}
    → Stands proto log s c.session c.plan → action_of c.session ≡ Read room → Reads proto log c s room
reads-by (at_rest left r machine) is = reads-rest-by left (first_item left) r machine refl is
reads-by {room = room} (in_reply left item before reply from r plan machine) is =
    let clash : Send from ≡ Read room =
    sym (ap action_of machine ∙ action-sending left (length r.done) item from (length (bytes_of reply))) ∙ is in
    absurd (cc)
reads-by {c = c} {room = room} (at_end end phase ended) is =
    let clash : Close end ≡ Read room = sym (action-end c.session end phase) ∙ is in
    absurd (cc)

pub reading : {proto : Proto} {log : List Op} {c : Connection} {s : SessionState} {room : ℕ}
    → Shows proto log c s → action_of c.session ≡ Read room → Reads proto log c s room
reading shows is = reads-by shows.stands is

-- a session whose machine sends
pub record Sends (proto : Proto) (log : List Op) (c : Connection) (s : SessionState) (from : ℕ) : Type 0 where
  pub left : List ℕ
  pub item : Item
  pub before : List ℕ
  pub reply : Parts
  pub replies : Replies proto log s left item before (bytes_of reply) from
  pub plan_is : c.plan ≡ Some reply
  pub machine_is : c.session ≡ sending_reply left (length replies.done) item from (length (bytes_of reply))

sends-rest-by : {proto : Proto} {log : List Op} {c : Connection} {s : SessionState} {from : ℕ} (left : List ℕ)
    (front : Option Item) (r : Rests proto log s left) → c.session ≡ resting left (length r.done)
    → first_item left ≡ front → action_of c.session ≡ Send from → Sends proto log c s from
sends-rest-by {from = from} left None r machine first is =
    let clash : Read (MAX_HEAD - length left) ≡ Send from =
    sym (ap action_of machine ∙ reads-rest left (length r.done) first) ∙ is in
    absurd (cc)
sends-rest-by {from = from} left (Some item) r machine first is =
    let clash : Ask (asked_of item) ≡ Send from =
    sym (ap action_of machine ∙ asks-rest-for left (length r.done) item first) ∙ is in
    absurd (cc)

sends-by : {proto : Proto} {log : List Op} {c : Connection} {s : SessionState} {from : ℕ}
    → Stands proto log s c.session c.plan → action_of c.session ≡ Send from → Sends proto log c s from
sends-by (at_rest left r machine) is = sends-rest-by left (first_item left) r machine refl is
sends-by {proto} {log} {c} {s} {from} (in_reply left item before reply offset r plan machine) is =
    let all : Send offset ≡ Send from =
    sym (ap action_of machine ∙ action-sending left (length r.done) item offset (length (bytes_of reply))) ∙ is in
    let same : offset ≡ from = cc in
    subst (Sends proto log c s) same (record {
      left = left;
      item = item;
      before = before;
      reply = reply;
      replies = r;
      plan_is = plan;
      machine_is = machine;
    })
sends-by {c = c} {from = from} (at_end end phase ended) is =
    let clash : Close end ≡ Send from = sym (action-end c.session end phase) ∙ is in
    absurd (cc)

pub sending-so : {proto : Proto} {log : List Op} {c : Connection} {s : SessionState} {from : ℕ}
    → Shows proto log c s → action_of c.session ≡ Send from → Sends proto log c s from
sending-so shows is = sends-by shows.stands is

-- ---- by another action

-- a session that ended
pub idle-ended : (proto : Proto) (log : List Op) (s : SessionState) → s.ended ≡ true → is_idle proto log s ≡ false
unfolding is_idle
idle-ended proto log s is =
    ap (λ (b : Bool). rests proto log s && not b) is ∙ and-false (rests proto log s)

pub sends-ended : (proto : Proto) (log : List Op) (s : SessionState) → s.ended ≡ true → sends proto log s ≡ false
unfolding sends
sends-ended proto log s is =
    ap (λ (b : Bool). not (rests proto log s) && not b) is ∙ and-false (not (rests proto log s))

-- one whose machine doesn't ask has nothing due, and needs no look
due-rest-by : {proto : Proto} {log : List Op} (c : Connection) {s : SessionState} (left : List ℕ)
    (front : Option Item) (r : Rests proto log s left) → c.session ≡ resting left (length r.done)
    → first_item left ≡ front → ((asked : Asked) → action_of c.session ≡ Ask asked → ⊥)
    → (is_due proto log s ≡ false) × (asks proto log s ≡ false)
due-rest-by {proto} c left None r machine first other =
    (due-rest r ∙ ap (is_refused_at proto.site) first, asks-rest r ∙ ap (is_wanted_at proto.site) first)
due-rest-by c left (Some item) r machine first other =
    absurd (other (asked_of item) (ap action_of machine ∙ asks-rest-for left (length r.done) item first))

asks-ended : (proto : Proto) (log : List Op) (s : SessionState) → s.ended ≡ true → asks proto log s ≡ false
unfolding asks
asks-ended proto log s is = ap (λ (b : Bool). b && is_wanted_at proto.site (next_item s)) (idle-ended proto log s is)

due-by : {proto : Proto} {log : List Op} (c : Connection) {s : SessionState} → Stands proto log s c.session c.plan
    → ((asked : Asked) → action_of c.session ≡ Ask asked → ⊥)
    → (is_due proto log s ≡ false) × (asks proto log s ≡ false)
due-by c (at_rest left r machine) other = due-rest-by c left (first_item left) r machine refl other
due-by c (in_reply left item before reply from r plan machine) other = (due-reply r, asks-reply r)
due-by {proto} {log} c {s} (at_end end phase ended) other = (due-ended proto log s ended, asks-ended proto log s ended)

pub asks-none : {proto : Proto} {log : List Op} (c : Connection) {s : SessionState} → Shows proto log c s
    → ((asked : Asked) → action_of c.session ≡ Ask asked → ⊥)
    → (is_due proto log s ≡ false) × (asks proto log s ≡ false)
asks-none c shows other = due-by c shows.stands other

-- one whose machine doesn't read doesn't wait
waits-ended : (proto : Proto) (log : List Op) (s : SessionState) → s.ended ≡ true → waits proto log s ≡ false
unfolding waits
waits-ended proto log s is = ap (λ (b : Bool). b && is_none (next_item s)) (idle-ended proto log s is)

waits-rest-by : {proto : Proto} {log : List Op} (c : Connection) {s : SessionState} (left : List ℕ)
    (front : Option Item) (r : Rests proto log s left) → c.session ≡ resting left (length r.done)
    → first_item left ≡ front → ((room : ℕ) → action_of c.session ≡ Read room → ⊥) → waits proto log s ≡ false
waits-rest-by c left None r machine first other =
    absurd (other (MAX_HEAD - length left) (ap action_of machine ∙ reads-rest left (length r.done) first))
waits-rest-by c left (Some item) r machine first other =
    waits-rest r ∙ ap (λ (o : Option Item). is_none o) first

waits-by : {proto : Proto} {log : List Op} (c : Connection) {s : SessionState} → Stands proto log s c.session c.plan
    → ((room : ℕ) → action_of c.session ≡ Read room → ⊥) → waits proto log s ≡ false
waits-by c (at_rest left r machine) other = waits-rest-by c left (first_item left) r machine refl other
waits-by c (in_reply left item before reply from r plan machine) other = waits-reply r
waits-by {proto} {log} c {s} (at_end end phase ended) other = waits-ended proto log s ended

pub waits-none : {proto : Proto} {log : List Op} (c : Connection) {s : SessionState} → Shows proto log c s
    → ((room : ℕ) → action_of c.session ≡ Read room → ⊥) → waits proto log s ≡ false
waits-none c shows other = waits-by c shows.stands other

-- one whose machine doesn't send sends nothing
sends-none-by : {proto : Proto} {log : List Op} (c : Connection) {s : SessionState}
    → Stands proto log s c.session c.plan
    → ((from : ℕ) → action_of c.session ≡ Send from → ⊥) → sends proto log s ≡ false
sends-none-by c (at_rest left r machine) other = sends-rest r
sends-none-by c (in_reply left item before reply from r plan machine) other =
    absurd (other from
    (ap action_of machine ∙ action-sending left (length r.done) item from (length (bytes_of reply))))
sends-none-by {proto} {log} c {s} (at_end end phase ended) other = sends-ended proto log s ended

pub sends-none : {proto : Proto} {log : List Op} (c : Connection) {s : SessionState} → Shows proto log c s
    → ((from : ℕ) → action_of c.session ≡ Send from → ⊥) → sends proto log s ≡ false
sends-none c shows other = sends-none-by c shows.stands other
