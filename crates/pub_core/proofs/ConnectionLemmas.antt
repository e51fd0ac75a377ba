-- What a connection shows after each step of its code, whose first step asks for the action that is due. It is long,
-- since there is one statement for each return of the code.
use Rattle.std.proofs.Common.{◌≡◌, ◌≤◌, ◌<◌, ℕ, ◌-◌, Bool, true, false, ◌&&◌, ◌||◌, leb, ltb, Bor, List, ◌++◌, length, take, drop, Option, Some, None, refl, sym, ap, ap₂, subst, ◌∙◌, arith}
use Rattle.std.specs.Prelude.{is_none}
use Rattle.std.proofs.lemmas.Bool.{lt-leb}
use Rattle.fm_model.specs.declared.op.Op.{Op}
use Rattle.fm_model.specs.declared.proto.Proto.{Proto}
use Rattle.web_session.specs.declared.action.Action.{Action}
use Rattle.web_session.specs.declared.action.Action.TheVariants.{Read, Ask, Send}
use Rattle.web_session.specs.declared.action.Asked.{Asked}
use Rattle.web_session.specs.declared.event.Event.TheVariants as step
use Rattle.web_session.specs.Event.{after_event}
use Rattle.web_session.specs.State.{action_of, State}
use Rattle.web_session.proofs.StartLemmas.{start-same}
use Rattle.dap_reply.specs.Parts.{bytes_of, Parts}
use Rattle.pub_core.specs.declared.connection.Connection.{Connection}
use Rattle.pub_core.specs.declared.event.Event.TheVariants.{Look, Learn, Bytes, Sent, End, Fault}
use Rattle.pub_core.specs.Happening.{after, begun, effect_of, is_possible_to}
use Rattle.pub_core.specs.Shown.{IsShown, Shows}
use Rattle.pub_core.specs.World.{sends, waits, SessionState}
use Rattle.pub_core.proofs.EndSteps.{shown-ended, shown-same}
use Rattle.pub_core.proofs.MachineLemmas.{ends-machine, fails-reading, fails-sending}
use Rattle.pub_core.proofs.Replying.{sends-reply}
use Rattle.pub_core.proofs.Resting.{waits-rest}
use Rattle.pub_core.proofs.ShownLemmas.{asks-none, reading, restarted, sending-so, sends-none, shown-begun, waits-none, with_machine, Reads, Sends}
use Rattle.pub_core.proofs.ShownSteps.{shows-feed, shows-sent, Given, Sending}
use Rattle.pub_core.proofs.SoFar.{fed_more}
use Rattle.pub_core.proofs.Steps.{feed-no, feed-unfit, feeds, look-no, send-no, send-unfit}

-- the action that is due was asked for
pub record Started (c : Connection) (machine : State) (action : Action) : Type 0 where
  pub machine_is : machine ≡ after_event c.session step.Start
  pub action_is : action ≡ action_of machine

pub due-action : (c : Connection) (machine : State) (action : Action) → Started c machine action
    → action ≡ action_of c.session
due-action c machine action st = st.action_is ∙ ap action_of (st.machine_is ∙ start-same c.session)

-- the view of the connection is that of the machine
pub on-machine : (P : Connection → Type 0) (c : Connection) (machine : State) (action : Action)
    → Started c machine action → P c → P (with_machine c machine)
on-machine P c machine action st = subst P (sym (restarted c machine st.machine_is))

other-than : {A : Type 0} (make : A → Action) (c : Connection) (machine : State) (action : Action)
    → Started c machine action → ((a : A) → action ≡ make a → ⊥) → (a : A) → action_of c.session ≡ make a → ⊥
other-than make c machine action st other a is = other a (due-action c machine action st ∙ is)

-- ---- nothing is due

pub settle-none : (proto : Proto) (log : List Op) (c : Connection) (s : SessionState) (machine : State)
    (action : Action)
    → Started c machine action → ((asked : Asked) → action ≡ Ask asked → ⊥) → Shows proto log c s
    → IsShown proto log (with_machine c machine) (begun proto log s)
settle-none proto log c s machine action st other shows =
    on-machine (λ (x : Connection). IsShown proto log x (begun proto log s)) c machine action st
    (shown-begun shows (asks-none c shows (other-than Ask c machine action st other)).0)

pub look-none : (proto : Proto) (log : List Op) (c : Connection) (s : SessionState) (number : ℕ) (machine : State)
    (action : Action) → Started c machine action → ((asked : Asked) → action ≡ Ask asked → ⊥) → IsShown proto log c s
    → IsShown proto log (with_machine c machine) (after proto log (Look number) s)
look-none proto log c s number machine action st other shown =
    on-machine (λ (x : Connection). IsShown proto log x (after proto log (Look number) s)) c machine action st
    (subst (IsShown proto log c) (sym (look-no proto log s number
    (asks-none c shown.shows (other-than Ask c machine action st other)).1)) shown)

-- ---- bytes are fed

pub feed-none : (proto : Proto) (log : List Op) (c : Connection) (s : SessionState) (number : ℕ) (piece : List ℕ)
    (machine : State) (action : Action) → Started c machine action → ((room : ℕ) → action ≡ Read room → ⊥)
    → IsShown proto log c s → IsShown proto log (with_machine c machine) (after proto log (Bytes number piece) s)
feed-none proto log c s number piece machine action st other shown =
    on-machine (λ (x : Connection). IsShown proto log x (after proto log (Bytes number piece) s)) c machine action st
    (subst (IsShown proto log c) (sym (feed-no proto log s number piece
    (waits-none c shown.shows (other-than Read c machine action st other)))) shown)

pub feed-misfit : (proto : Proto) (log : List Op) (c : Connection) (s : SessionState) (number room : ℕ)
    (piece : List ℕ) (machine : State) (action : Action) → Started c machine action → action ≡ Read room
    → (ltb 0 (length piece) && leb (length piece) room) ≡ false
    → IsShown proto log c s → IsShown proto log (with_machine c machine) (after proto log (Bytes number piece) s)
feed-misfit proto log c s number room piece machine action st is misfit shown =
    let r : Reads proto log c s room = reading shown.shows (sym (due-action c machine action st) ∙ is) in
    on-machine (λ (x : Connection). IsShown proto log x (after proto log (Bytes number piece) s)) c machine action st
    (subst (IsShown proto log c) (sym (feed-unfit number piece r.rests r.none
    (ap (λ (n : ℕ). ltb 0 (length piece) && leb (length piece) n) (sym r.room_is) ∙ misfit))) shown)

-- the view before a refusal that is due is begun
pub feed-fit : (proto : Proto) (log : List Op) (c : Connection) (s : SessionState) (room : ℕ) (piece : Bor (List ℕ))
    (machine : State) (action : Action) (after_it : State) → Started c machine action → action ≡ Read room
    → length piece.now ≤ room → after_it ≡ after_event machine (step.Bytes piece) → IsShown proto log c s
    → Shows proto log (with_machine c after_it) (fed_more s piece.now)
feed-fit proto log c s room piece machine action after_it st is fits then shown =
    shows-feed piece after_it shown.shows (reading shown.shows (sym (due-action c machine action st) ∙ is)) fits
    (then ∙ ap (λ (m : State). after_event m (step.Bytes piece)) (st.machine_is ∙ start-same c.session))

pub feed-after : (proto : Proto) (log : List Op) (c now : Connection) (s : SessionState) (number room : ℕ)
    (piece : List ℕ) (machine : State) (action : Action) → Started c machine action → action ≡ Read room
    → 0 < length piece → length piece ≤ room → IsShown proto log c s
    → IsShown proto log now (begun proto log (fed_more s piece))
    → IsShown proto log now (after proto log (Bytes number piece) s)
feed-after proto log c now s number room piece machine action st is some fits shown later =
    let r : Reads proto log c s room = reading shown.shows (sym (due-action c machine action st) ∙ is) in
    subst (IsShown proto log now) (sym (feeds number piece r.rests r.none some (omega (arith, fits, r.room_is)))) later

-- ---- bytes of a reply are sent

pub send-none : (proto : Proto) (log : List Op) (c : Connection) (s : SessionState) (number count : ℕ)
    (machine : State) (action : Action) → Started c machine action → ((from : ℕ) → action ≡ Send from → ⊥)
    → IsShown proto log c s → IsShown proto log (with_machine c machine) (after proto log (Sent number count) s)
send-none proto log c s number count machine action st other shown =
    on-machine (λ (x : Connection). IsShown proto log x (after proto log (Sent number count) s)) c machine action st
    (subst (IsShown proto log c) (sym (send-no proto log s number count
    (sends-none c shown.shows (other-than Send c machine action st other)))) shown)

sent-so : {proto : Proto} {log : List Op} (c : Connection) {s : SessionState} {from : ℕ} (machine : State)
    (action : Action) → Started c machine action → action ≡ Send from → IsShown proto log c s
    → Sends proto log c s from
sent-so c machine action st is shown = sending-so shown.shows (sym (due-action c machine action st) ∙ is)

-- a machine that sends has a reply
pub send-planned : (proto : Proto) (log : List Op) (c : Connection) (s : SessionState) (from : ℕ) (machine : State)
    (action : Action) → Started c machine action → action ≡ Send from → IsShown proto log c s → c.plan ≡ None → ⊥
send-planned proto log c s from machine action st is shown none =
    let r : Sends proto log c s from = sent-so c machine action st is shown in
    let clash : Some r.reply ≡ None = sym r.plan_is ∙ none in
    absurd (cc)

pub send-misfit : (proto : Proto) (log : List Op) (c : Connection) (s : SessionState) (number count from : ℕ)
    (reply : Parts) (machine : State) (action : Action) → Started c machine action → action ≡ Send from
    → c.plan ≡ Some reply → (ltb 0 count && leb count (length (bytes_of reply) - from)) ≡ false
    → IsShown proto log c s → IsShown proto log (with_machine c machine) (after proto log (Sent number count) s)
send-misfit proto log c s number count from reply machine action st is plan misfit shown =
    let r : Sends proto log c s from = sent-so c machine action st is shown in
    let same : r.reply ≡ reply = some-same (sym r.plan_is ∙ plan) in
    on-machine (λ (x : Connection). IsShown proto log x (after proto log (Sent number count) s)) c machine action st
    (subst (IsShown proto log c) (sym (send-unfit number count r.replies
    (ap (λ (p : Parts). ltb 0 count && leb count (length (bytes_of p) - from)) same ∙ misfit))) shown)
  where
    some-same : {A : Type 0} {a b : A} → Some a ≡ Some b → a ≡ b
    some-same is = cc

-- the view before a refusal that is due is begun
pub send-fit : (proto : Proto) (log : List Op) (c now : Connection) (s : SessionState) (number count from : ℕ)
    (reply : Parts) (machine : State) (action : Action) → Started c machine action → action ≡ Send from
    → c.plan ≡ Some reply → 0 < count → count ≤ length (bytes_of reply) - from
    → now.output ≡ c.output ++ take count (drop from (bytes_of reply)) → now.plan ≡ c.plan → now.seen ≡ c.seen
    → now.session ≡ after_event machine (step.Sent count)
    → IsShown proto log c s → Sending proto log now s (after proto log (Sent number count) s)
send-fit proto log c now s number count from reply machine action st is plan some fits output same_plan seen then
    shown =
    let r : Sends proto log c s from = sent-so c machine action st is shown in
    let same : r.reply ≡ reply = some-same (sym r.plan_is ∙ plan) in
    let given : Given proto log c now s from count r = record {
      output_is = output ∙ ap (λ (p : Parts). c.output ++ take count (drop from (bytes_of p))) (sym same);
      plan_is = same_plan;
      seen_is = seen;
      machine_is = then ∙ ap (λ (m : State). after_event m (step.Sent count))
          (st.machine_is ∙ start-same c.session);
    } in
    shows-sent now number count shown.shows r given some
    (omega (arith, fits, ap (λ (p : Parts). length (bytes_of p)) same))
  where
    some-same : {A : Type 0} {a b : A} → Some a ≡ Some b → a ≡ b
    some-same is = cc

-- ---- a session ends

pub end-none : (proto : Proto) (log : List Op) (c : Connection) (s : SessionState) (number : ℕ) (machine : State)
    (action : Action) → Started c machine action → ((room : ℕ) → action ≡ Read room → ⊥) → IsShown proto log c s
    → IsShown proto log (with_machine c machine) (after proto log (End number) s)
unfolding is_possible_to
end-none proto log c s number machine action st other shown =
    on-machine (λ (x : Connection). IsShown proto log x (after proto log (End number) s)) c machine action st
    (shown-same (End number) shown (waits-none c shown.shows (other-than Read c machine action st other)))

waiting-true : {proto : Proto} {log : List Op} (c : Connection) {s : SessionState} (room : ℕ) (machine : State)
    (action : Action) → Started c machine action → action ≡ Read room → IsShown proto log c s
    → waits proto log s ≡ true
waiting-true {proto} {log} c {s} room machine action st is shown =
    let r : Reads proto log c s room = reading shown.shows (sym (due-action c machine action st) ∙ is) in
    waits-rest r.rests ∙ ap (λ (o : Option _). is_none o) r.none

pub end-reads : (proto : Proto) (log : List Op) (c : Connection) (s : SessionState) (number room : ℕ)
    (machine after_it : State) (action : Action) → Started c machine action → action ≡ Read room
    → after_it ≡ after_event machine step.EndOfInput → IsShown proto log c s
    → IsShown proto log (with_machine c after_it) (after proto log (End number) s)
unfolding is_possible_to effect_of
end-reads proto log c s number room machine after_it action st is then shown =
    let ends = ends-machine machine room (sym st.action_is ∙ is) in
    shown-ended (End number) ends.0 after_it shown.shows (waiting-true c room machine action st is shown) refl
    (ap (λ (m : State). m.phase) then ∙ ends.1)

pub fail-none : (proto : Proto) (log : List Op) (c : Connection) (s : SessionState) (number : ℕ) (machine : State)
    (action : Action) → Started c machine action → ((room : ℕ) → action ≡ Read room → ⊥)
    → ((from : ℕ) → action ≡ Send from → ⊥) → IsShown proto log c s
    → IsShown proto log (with_machine c machine) (after proto log (Fault number) s)
unfolding is_possible_to
fail-none proto log c s number machine action st not_read not_send shown =
    on-machine (λ (x : Connection). IsShown proto log x (after proto log (Fault number) s)) c machine action st
    (shown-same (Fault number) shown
    (ap₂ (λ (a b : Bool). a || b) (waits-none c shown.shows (other-than Read c machine action st not_read))
    (sends-none c shown.shows (other-than Send c machine action st not_send))))

or-true : (a : Bool) → (a || true) ≡ true
or-true true = refl
or-true false = refl

pub fail-reads : (proto : Proto) (log : List Op) (c : Connection) (s : SessionState) (number room : ℕ)
    (machine after_it : State) (action : Action) → Started c machine action → action ≡ Read room
    → after_it ≡ after_event machine step.Fault → IsShown proto log c s
    → IsShown proto log (with_machine c after_it) (after proto log (Fault number) s)
unfolding is_possible_to effect_of
fail-reads proto log c s number room machine after_it action st is then shown =
    let ends = fails-reading machine room (sym st.action_is ∙ is) in
    shown-ended (Fault number) ends.0 after_it shown.shows
    (ap (λ (a : Bool). a || sends proto log s) (waiting-true c room machine action st is shown)) refl
    (ap (λ (m : State). m.phase) then ∙ ends.1)

pub fail-sends : (proto : Proto) (log : List Op) (c : Connection) (s : SessionState) (number from : ℕ)
    (machine after_it : State) (action : Action) → Started c machine action → action ≡ Send from
    → after_it ≡ after_event machine step.Fault → IsShown proto log c s
    → IsShown proto log (with_machine c after_it) (after proto log (Fault number) s)
unfolding is_possible_to effect_of
fail-sends proto log c s number from machine after_it action st is then shown =
    let ends = fails-sending machine from (sym st.action_is ∙ is) in
    let r : Sends proto log c s from = sent-so c machine action st is shown in
    shown-ended (Fault number) ends.0 after_it shown.shows
    (ap (λ (b : Bool). waits proto log s || b) (sends-reply r.replies) ∙ or-true (waits proto log s)) refl
    (ap (λ (m : State). m.phase) then ∙ ends.1)

-- ---- it learns

pub learn-none : (proto : Proto) (log : List Op) (c : Connection) (s : SessionState) (number count : ℕ)
    → length log < count → IsShown proto log c s → IsShown proto log c (after proto log (Learn number count) s)
unfolding is_possible_to
learn-none proto log c s number count past shown =
    shown-same (Learn number count) shown (lt-leb count (length log) past)
