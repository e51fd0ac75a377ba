-- The reply that is begun is the one to the next request. It is long, since a refusal and an answer are shown
-- apart, each for what is begun and for what is left.
use Rattle.std.proofs.Common.{◌≡◌, ℕ, ◌+◌, Bool, true, false, not, List, length, take, Some, Result, Ok, Err, refl, sym, ap, ap₂, subst, ◌∙◌, arith}
use Rattle.std.specs.Prelude.{is_ok}
use Rattle.std.proofs.lemmas.List.{take_all}
use Rattle.fm_base.specs.Chain.{◌>>=◌}
use Rattle.fm_model.specs.declared.loaded.Loaded.{Loaded}
use Rattle.fm_model.specs.declared.op.Op.{Op}
use Rattle.fm_model.specs.declared.proto.Proto.{Proto}
use Rattle.fm_model.specs.declared.site.Site.{Site}
use Rattle.fm_model.specs.Collection.{coll}
use Rattle.fm_edition.specs.Log.{held_of}
use Rattle.web_frame.specs.Items.{Item}
use Rattle.web_path.specs.declared.target.Target.{Target}
use Rattle.web_session.specs.declared.action.Action.{Action}
use Rattle.web_session.specs.declared.action.Action.TheVariants.{Ask}
use Rattle.web_session.specs.declared.action.Asked.{Asked}
use Rattle.web_session.specs.declared.event.Event.TheVariants as step
use Rattle.web_session.specs.declared.phase.Phase.{Phase}
use Rattle.web_session.specs.Event.{after_event}
use Rattle.web_session.specs.Run.{item_asked}
use Rattle.web_session.specs.State.{ends_link, resting, State}
use Rattle.web_session.proofs.StartLemmas.{start-same}
use Rattle.dap_reply.specs.declared.body.Answer.{Answer}
use Rattle.dap_reply.specs.declared.fault.DapFault.{DapFault}
use Rattle.dap_reply.specs.declared.wanted.Dap.{Dap}
use Rattle.dap_reply.specs.declared.wanted.Order.{Order}
use Rattle.dap_reply.specs.declared.wanted.Order.TheVariants.{Refused, Wanted}
use Rattle.dap_reply.specs.Body.{body_of}
use Rattle.dap_reply.specs.Order.{order_by, order_of}
use Rattle.dap_reply.specs.Parts.{bytes_of, Parts}
use Rattle.dap_reply.specs.Planned.{answer_over}
use Rattle.dap_reply.specs.Reply.{answer_to, answered, target_wanted, has_head_alone, is_last, refusal_of, reply_of, reply_text}
use Rattle.dap_reply.proofs.ServedLemmas.{last-ends}
use Rattle.pub_core.specs.declared.connection.Connection.{Connection}
use Rattle.pub_core.specs.declared.event.Event.TheVariants.{Look}
use Rattle.pub_core.specs.Happening.{after, begun}
use Rattle.pub_core.specs.Shown.{IsShown, Shows}
use Rattle.pub_core.specs.Standing.{first_item}
use Rattle.pub_core.specs.World.{is_refused_at, is_wanted_at, SessionState}
use Rattle.pub_core.proofs.ConnectionLemmas.{due-action, on-machine, Started}
use Rattle.pub_core.proofs.MachineLemmas.{item-said, phase-of}
use Rattle.pub_core.proofs.Resting.{asks-rest, due-rest}
use Rattle.pub_core.proofs.ShownLemmas.{asking, shown-begun, with_machine, Asks}
use Rattle.pub_core.proofs.ShownSteps.{shown-with-reply}
use Rattle.pub_core.proofs.SoFar.{with_reply}
use Rattle.pub_core.proofs.Steps.{begins, look-no, looks}

-- ---- the item of an order

-- the order for an item, whose reply has a number
abbrev pub OrderFor : Proto → Item → ℕ → Order → Type 0
OrderFor proto item number order = order ≡ order_of proto.site item (is_last item number)

refused-by : (result : Result Target DapFault) (alone end : Bool) (fault : DapFault) (head last : Bool)
    → order_by result alone end ≡ Refused fault head last
    → (result ≡ Err fault) × (alone ≡ head) × (end ≡ last)
refused-by (Ok target) alone end fault head last is = absurd (cc)
refused-by (Err why) alone end fault head last is = (cc, cc, cc)

wanted-by : (result : Result Target DapFault) (alone end : Bool) (dap : Dap)
    → order_by result alone end ≡ Wanted dap
    → (result ≡ Ok dap.target) × (alone ≡ dap.head) × (end ≡ dap.last)
wanted-by (Ok target) alone end dap is =
    let same : record { target = target; head = alone; last = end } ≡ dap = cc in
    (ap (λ (d : Dap). Ok d.target) same, ap (λ (d : Dap). d.head) same, ap (λ (d : Dap). d.last) same)
wanted-by (Err why) alone end dap is = absurd (cc)

-- the reply that refuses
refusal-is : (proto : Proto) (files : List Loaded) (revision number : ℕ) (item : Item) (fault : DapFault)
    (head last : Bool) → OrderFor proto item number (Refused fault head last)
    → (reply_text (refusal_of fault) revision head last ≡ reply_of proto files revision item number)
    × (is_ok (target_wanted proto.site item) ≡ false)
unfolding order_of reply_of answer_to
refusal-is proto files revision number item fault head last is =
    let parts = refused-by (target_wanted proto.site item) (has_head_alone item) (is_last item number) fault head last
    (sym is) in
    let answer : answer_to proto files item ≡ refusal_of fault =
    ap (λ (r : Result Target DapFault). answered (r >>= λ target. body_of proto files target)) parts.0 in (
      ap₂ (λ (a : Answer) (h : Bool). reply_text a revision h last) (sym answer) (sym parts.1)
          ∙ ap (reply_text (answer_to proto files item) revision (has_head_alone item)) (sym parts.2),
      ap (λ (r : Result Target DapFault). is_ok r) parts.0,
    )

-- the reply after a look
answer-is : (proto : Proto) (files : List Loaded) (revision number : ℕ) (item : Item) (dap : Dap)
    → OrderFor proto item number (Wanted dap)
    → (reply_text (answer_over (record { proto = proto; files = files }) dap) revision dap.head dap.last
    ≡ reply_of proto files revision item number) × (is_ok (target_wanted proto.site item) ≡ true)
unfolding order_of reply_of answer_to answer_over
answer-is proto files revision number item dap is =
    let parts = wanted-by (target_wanted proto.site item) (has_head_alone item) (is_last item number) dap (sym is) in
    let answer : answer_to proto files item ≡ answered (body_of proto files dap.target) =
    ap (λ (r : Result Target DapFault). answered (r >>= λ target. body_of proto files target)) parts.0 in (
      ap₂ (λ (a : Answer) (h : Bool). reply_text a revision h dap.last) (sym answer) (sym parts.1)
          ∙ ap (reply_text (answer_to proto files item) revision (has_head_alone item)) (sym parts.2),
      ap (λ (r : Result Target DapFault). is_ok r) parts.0,
    )

ok-by : (result : Result Target DapFault) (alone end : Bool)
    → ((fault : DapFault) (head last : Bool) → order_by result alone end ≡ Refused fault head last → ⊥)
    → is_ok result ≡ true
ok-by (Ok target) alone end other = refl
ok-by (Err fault) alone end other = absurd (other fault alone end refl)

err-by : (result : Result Target DapFault) (alone end : Bool)
    → ((dap : Dap) → order_by result alone end ≡ Wanted dap → ⊥) → is_ok result ≡ false
err-by (Ok target) alone end other = absurd (other (record { target = target; head = alone; last = end }) refl)
err-by (Err fault) alone end other = refl

not-refused : (proto : Proto) (item : Item) (number : ℕ) (order : Order) → OrderFor proto item number order
    → ((fault : DapFault) (head last : Bool) → order ≡ Refused fault head last → ⊥)
    → is_ok (target_wanted proto.site item) ≡ true
unfolding order_of
not-refused proto item number order is other =
    ok-by (target_wanted proto.site item) (has_head_alone item) (is_last item number)
    (λ fault head last e. other fault head last (is ∙ e))

not-wanted : (proto : Proto) (item : Item) (number : ℕ) (order : Order) → OrderFor proto item number order
    → ((dap : Dap) → order ≡ Wanted dap → ⊥) → is_ok (target_wanted proto.site item) ≡ false
unfolding order_of
not-wanted proto item number order is other =
    err-by (target_wanted proto.site item) (has_head_alone item) (is_last item number) (λ dap e. other dap (is ∙ e))

-- ---- the order for a machine's question

last-rest : (left : List ℕ) (count : ℕ) (item : Item) → first_item left ≡ Some item
    → ends_link (resting left count).phase count ≡ is_last item (count + 1)
unfolding ends_link
last-rest left count item is =
    ap (λ (p : Phase). ends_link p count) (phase-of left (Some item) is) ∙ sym (last-ends item count)

pub ordered : {proto : Proto} {log : List Op} {c : Connection} {s : SessionState} {asked : Asked} (site : Site)
    (machine : State) (order : Order) (a : Asks proto log c s asked) → proto.site ≡ site → machine ≡ c.session
    → order ≡ order_of site (item_asked asked machine.held) (ends_link machine.phase machine.before)
    → OrderFor proto a.item (length a.rests.done + 1) order
ordered {proto} {asked = asked} site machine order a same start is =
    let here : machine ≡ resting a.left (length a.rests.done) = start ∙ a.machine_is in
    let said : item_asked asked machine.held ≡ a.item =
    ap₂ (λ (w : Asked) (m : State). item_asked w m.held) (sym a.asked_is) here ∙ item-said a.left a.item a.item_is in
    let last : ends_link machine.phase machine.before ≡ is_last a.item (length a.rests.done + 1) =
    ap (λ (m : State). ends_link m.phase m.before) here ∙ last-rest a.left (length a.rests.done) a.item a.item_is in
    is
    ∙ ap (λ (x : Site). order_of x (item_asked asked machine.held) (ends_link machine.phase machine.before)) (sym same)
    ∙ ap₂ (order_of proto.site) said last

-- ---- a refusal that is due

-- the code before it begins a reply
pub record Orders (proto : Proto) (c : Connection) (machine : State) (action : Action) (asked : Asked) (order : Order)
    : Type 0 where
  pub started : Started c machine action
  pub action_is : action ≡ Ask asked
  pub site : Site
  pub site_is : proto.site ≡ site
  pub order_is : order ≡ order_of site (item_asked asked machine.held) (ends_link machine.phase machine.before)

asks-so : {proto : Proto} {log : List Op} {c : Connection} {s : SessionState} {machine : State} {action : Action}
    {asked : Asked} {order : Order} → Orders proto c machine action asked order → Shows proto log c s
    → Asks proto log c s asked
asks-so {c = c} {machine = machine} {action = action} o shows =
    asking shows (sym (due-action c machine action o.started) ∙ o.action_is)

order-so : {proto : Proto} {log : List Op} {c : Connection} {s : SessionState} {machine : State} {action : Action}
    {asked : Asked} {order : Order} → Orders proto c machine action asked order → (a : Asks proto log c s asked)
    → OrderFor proto a.item (length a.rests.done + 1) order
order-so {proto} {c = c} {machine = machine} {order = order} o a =
    ordered o.site machine order a o.site_is (o.started.machine_is ∙ start-same c.session) o.order_is

-- how a reply is begun
pub record Begins (c now : Connection) (machine : State) (reply : Parts) : Type 0 where
  pub machine_is : now.session ≡ after_event machine (step.Answer (length (bytes_of reply)))
  pub plan_is : now.plan ≡ Some reply
  pub output_is : now.output ≡ c.output

machine-begins : {c now : Connection} {machine : State} {action : Action} {reply : Parts} → Started c machine action
    → Begins c now machine reply → now.session ≡ after_event c.session (step.Answer (length (bytes_of reply)))
machine-begins {c} {reply = reply} st b =
    b.machine_is ∙ ap (λ (m : State). after_event m (step.Answer (length (bytes_of reply))))
    (st.machine_is ∙ start-same c.session)

pub settle-refused : (proto : Proto) (log : List Op) (c now : Connection) (s : SessionState) (machine : State)
    (action : Action) (asked : Asked) (fault : DapFault) (head last : Bool) (reply : Parts)
    → Orders proto c machine action asked (Refused fault head last)
    → bytes_of reply ≡ reply_text (refusal_of fault) c.seen head last → Begins c now machine reply
    → now.seen ≡ c.seen → Shows proto log c s → IsShown proto log now (begun proto log s)
settle-refused proto log c now s machine action asked fault head last reply o bytes b seen shows =
    let a : Asks proto log c s asked = asks-so o shows in
    let number : ℕ = length a.rests.done + 1 in
    let same : c.seen ≡ s.seen = shows.seen_is in
    let known : now.seen ≡ s.seen = seen ∙ same in
    let refusal = refusal-is proto (coll (take s.seen log)) c.seen number a.item fault head last (order-so o a) in
    let begins_it : begun proto log s ≡ with_reply s s.seen now.seen =
    begins a.item a.rests a.item_is (ap not refusal.1) ∙ ap (with_reply s s.seen) (sym known) in
    let later : IsShown proto log now (with_reply s s.seen now.seen) =
    shown-with-reply now reply s.seen shows a
    (bytes ∙ refusal.0 ∙ ap (λ (n : ℕ). reply_of proto (coll (take s.seen log)) n a.item number) same)
    shows.seen_within (omega (arith, known, shows.seen_within)) (machine-begins o.started b) b.plan_is b.output_is in
    subst (IsShown proto log now) (sym begins_it) later

pub settle-wanted : (proto : Proto) (log : List Op) (c : Connection) (s : SessionState) (machine : State)
    (action : Action) (asked : Asked) (order : Order) → Orders proto c machine action asked order
    → ((fault : DapFault) (head last : Bool) → order ≡ Refused fault head last → ⊥) → Shows proto log c s
    → IsShown proto log (with_machine c machine) (begun proto log s)
settle-wanted proto log c s machine action asked order o other shows =
    let a : Asks proto log c s asked = asks-so o shows in
    let wanted : is_ok (target_wanted proto.site a.item) ≡ true =
    not-refused proto a.item (length a.rests.done + 1) order (order-so o a) other in
    on-machine (λ (x : Connection). IsShown proto log x (begun proto log s)) c machine action o.started
    (shown-begun shows (due-rest a.rests ∙ ap (is_refused_at proto.site) a.item_is ∙ ap not wanted))

-- ---- a look

pub look-refused : (proto : Proto) (log : List Op) (c : Connection) (s : SessionState) (number : ℕ) (machine : State)
    (action : Action) (asked : Asked) (order : Order) → Orders proto c machine action asked order
    → ((dap : Dap) → order ≡ Wanted dap → ⊥) → IsShown proto log c s
    → IsShown proto log (with_machine c machine) (after proto log (Look number) s)
look-refused proto log c s number machine action asked order o other shown =
    let a : Asks proto log c s asked = asks-so o shown.shows in
    let refused : is_ok (target_wanted proto.site a.item) ≡ false =
    not-wanted proto a.item (length a.rests.done + 1) order (order-so o a) other in
    on-machine (λ (x : Connection). IsShown proto log x (after proto log (Look number) s)) c machine action o.started
    (subst (IsShown proto log c) (sym (look-no proto log s number
    (asks-rest a.rests ∙ ap (is_wanted_at proto.site) a.item_is ∙ refused))) shown)

pub look-wanted : (proto : Proto) (log : List Op) (c now : Connection) (s : SessionState) (number : ℕ)
    (machine : State) (action : Action) (asked : Asked) (dap : Dap) (reply : Parts) (revision : ℕ)
    → Orders proto c machine action asked (Wanted dap)
    → bytes_of reply ≡ reply_text (answer_over (held_of proto log) dap) revision dap.head dap.last
    → Begins c now machine reply → now.seen ≡ revision → revision ≡ length log → IsShown proto log c s
    → IsShown proto log now (after proto log (Look number) s)
look-wanted proto log c now s number machine action asked dap reply revision o bytes b seen known shown =
    let a : Asks proto log c s asked = asks-so o shown.shows in
    let reply_number : ℕ = length a.rests.done + 1 in
    let answer = answer-is proto (coll log) revision reply_number a.item dap (order-so o a) in
    let all : take (length log) log ≡ log = take_all (length log) log (omega arith) in
    let so_far : now.seen ≡ length log = seen ∙ known in
    subst (IsShown proto log now)
    (ap (with_reply s (length log)) so_far
    ∙ sym (looks number a.item a.rests a.item_is answer.1))
    (shown-with-reply now reply (length log) shown.shows a
    (bytes ∙ answer.0
    ∙ ap₂ (λ (l : List Op) (n : ℕ). reply_of proto (coll l) n a.item reply_number) (sym all) known)
    (omega arith) (omega (arith, so_far)) (machine-begins o.started b) b.plan_is b.output_is)
