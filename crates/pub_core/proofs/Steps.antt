-- What each event does to a session, by where it stands. It is long, since there is a part for each event.
use Rattle.std.proofs.Common.{◌≡◌, ◌≤◌, ◌<◌, ℕ, ◌+◌, ◌-◌, Bool, true, false, not, ◌&&◌, cond, leb, ltb, List, [], ◌∷◌, ◌++◌, length, take, Option, Some, None, refl, ap, ap₂, ◌∙◌, arith}
use Rattle.std.specs.Prelude.{is_none}
use Rattle.std.proofs.lemmas.Bool.{le-leb, lt-ltb}
use Rattle.fm_model.specs.declared.op.Op.{Op}
use Rattle.fm_model.specs.declared.proto.Proto.{Proto}
use Rattle.fm_model.specs.Collection.{coll}
use Rattle.web_frame.specs.Limit.{MAX_HEAD}
use Rattle.web_frame.specs.Items.{Item}
use Rattle.dap_reply.specs.Reply.{is_last}
use Rattle.pub_core.specs.declared.event.Event.{Event}
use Rattle.pub_core.specs.declared.event.Event.TheVariants.{Look, Bytes, Sent}
use Rattle.pub_core.specs.World.{asks, is_due, is_idle, is_refused_at, is_wanted_at, next_item, rest_fed, rests, sends, unsent, waits, SessionState}
use Rattle.pub_core.specs.Happening.{after, begun, effect_of, is_possible_to, settled}
use Rattle.pub_core.specs.Standing.{first_item, Replies, Rests}
use Rattle.pub_core.proofs.ItemLemmas.{rest-none}
use Rattle.pub_core.proofs.SoFar.{fed_more, some-reply, with_reply}
use Rattle.pub_core.proofs.Resting.{asks-rest, begin-rest, closed-rest, due-rest, feed-rest, waits-rest, and-false}
use Rattle.pub_core.proofs.Replying.{closed-reply, due-reply, sent_more, send-last, send-part, send-whole, sends-reply, unsent-reply}

-- ---- an event that is possible, and one that isn't

pub after-yes : (proto : Proto) (log : List Op) (event : Event) (s : SessionState)
    → is_possible_to proto log event s ≡ true → after proto log event s ≡ settled proto log (effect_of log event s)
unfolding after
after-yes proto log event s is =
    ap (λ (b : Bool). cond b (settled proto log (effect_of log event s)) s) is

pub after-no : (proto : Proto) (log : List Op) (event : Event) (s : SessionState)
    → is_possible_to proto log event s ≡ false → after proto log event s ≡ s
unfolding after
after-no proto log event s is =
    ap (λ (b : Bool). cond b (settled proto log (effect_of log event s)) s) is

-- ---- what is due

pub begun-no : (proto : Proto) (log : List Op) (s : SessionState) → is_due proto log s ≡ false → begun proto log s ≡ s
unfolding begun
begun-no proto log s is = ap (λ (b : Bool). cond b (record s { revs = s.revs ++ s.seen ∷ [] }) s) is

pub begun-yes : (proto : Proto) (log : List Op) (s : SessionState) → is_due proto log s ≡ true
    → begun proto log s ≡ with_reply s s.seen s.seen
unfolding begun
begun-yes proto log s is = ap (λ (b : Bool). cond b (record s { revs = s.revs ++ s.seen ∷ [] }) s) is

pub settled-rest : {proto : Proto} {log : List Op} {s : SessionState} {left : List ℕ} → Rests proto log s left
    → settled proto log s ≡ begun proto log s
unfolding settled
settled-rest {proto} {log} r = ap (begun proto log) (closed-rest r)

pub settled-reply : {proto : Proto} {log : List Op} {s : SessionState} {left before reply : List ℕ}
    {item : Item} {from : ℕ}
    → Replies proto log s left item before reply from → settled proto log s ≡ s
unfolding settled
settled-reply {proto} {log} {s} r =
    ap (begun proto log) (closed-reply r) ∙ begun-no proto log s (due-reply r)

-- nothing is due of a session that ended
pub due-ended : (proto : Proto) (log : List Op) (s : SessionState) → s.ended ≡ true → is_due proto log s ≡ false
unfolding is_due is_idle
due-ended proto log s is =
    ap (λ (b : Bool). (rests proto log s && not b) && is_refused_at proto.site (next_item s)) is
    ∙ ap (λ (b : Bool). b && is_refused_at proto.site (next_item s)) (and-false (rests proto log s))

-- ---- bytes are fed

pub feed-no : (proto : Proto) (log : List Op) (s : SessionState) (number : ℕ) (piece : List ℕ)
    → waits proto log s ≡ false → after proto log (Bytes number piece) s ≡ s
unfolding is_possible_to
feed-no proto log s number piece busy =
    after-no proto log (Bytes number piece) s
    (ap (λ (b : Bool). b && (ltb 0 (length piece) && leb (length piece) (MAX_HEAD - length (rest_fed s)))) busy)

pub feed-unfit : {proto : Proto} {log : List Op} {s : SessionState} {left : List ℕ} (number : ℕ) (piece : List ℕ)
    → Rests proto log s left → first_item left ≡ None
    → (ltb 0 (length piece) && leb (length piece) (MAX_HEAD - length left)) ≡ false
    → after proto log (Bytes number piece) s ≡ s
unfolding is_possible_to
feed-unfit {proto} {log} {s} {left} number piece r none unfit =
    after-no proto log (Bytes number piece) s
    (ap₂ (λ (b : Bool) (l : List ℕ). b && (ltb 0 (length piece) && leb (length piece) (MAX_HEAD - length l)))
    (waits-rest r ∙ ap (λ (o : Option Item). is_none o) none) (rest-none r.reads none) ∙ unfit)

pub feeds : {proto : Proto} {log : List Op} {s : SessionState} {left : List ℕ} (number : ℕ) (piece : List ℕ)
    → Rests proto log s left → first_item left ≡ None → 0 < length piece → length piece ≤ MAX_HEAD - length left
    → after proto log (Bytes number piece) s ≡ begun proto log (fed_more s piece)
unfolding is_possible_to effect_of
feeds {proto} {log} {s} {left} number piece r none some fits =
    let fit : (ltb 0 (length piece) && leb (length piece) (MAX_HEAD - length left)) ≡ true =
    ap₂ (λ (a b : Bool). a && b) (lt-ltb 0 (length piece) some) (le-leb (length piece) (MAX_HEAD - length left) fits) in
    after-yes proto log (Bytes number piece) s
    (ap₂ (λ (b : Bool) (l : List ℕ). b && (ltb 0 (length piece) && leb (length piece) (MAX_HEAD - length l)))
    (waits-rest r ∙ ap (λ (o : Option Item). is_none o) none) (rest-none r.reads none) ∙ fit)
    ∙ settled-rest (feed-rest piece r)

-- ---- a reply is begun

-- over the whole log, where a collection is looked at
pub look-no : (proto : Proto) (log : List Op) (s : SessionState) (number : ℕ)
    → asks proto log s ≡ false → after proto log (Look number) s ≡ s
unfolding is_possible_to
look-no proto log s number is = after-no proto log (Look number) s is

pub looks : {proto : Proto} {log : List Op} {s : SessionState} {left : List ℕ} (number : ℕ) (item : Item)
    → Rests proto log s left → first_item left ≡ Some item → is_wanted_at proto.site (Some item) ≡ true
    → after proto log (Look number) s ≡ with_reply s (length log) (length log)
unfolding is_possible_to effect_of
looks {proto} {log} {s} {left} number item r first wanted =
    after-yes proto log (Look number) s (asks-rest r ∙ ap (is_wanted_at proto.site) first ∙ wanted)
    ∙ settled-reply (begin-rest item (length log) (length log) r first
    (some-reply proto (coll (take (length log) log)) (length log) item (length s.revs + 1)))

-- at once, where none is looked at
pub begins : {proto : Proto} {log : List Op} {s : SessionState} {left : List ℕ} (item : Item)
    → Rests proto log s left → first_item left ≡ Some item → is_refused_at proto.site (Some item) ≡ true
    → begun proto log s ≡ with_reply s s.seen s.seen
begins {proto} {log} {s} {left} item r first refused =
    begun-yes proto log s (due-rest r ∙ ap (is_refused_at proto.site) first ∙ refused)

-- ---- bytes of it are sent

pub send-no : (proto : Proto) (log : List Op) (s : SessionState) (number count : ℕ)
    → sends proto log s ≡ false → after proto log (Sent number count) s ≡ s
unfolding is_possible_to
send-no proto log s number count busy =
    after-no proto log (Sent number count) s
    (ap (λ (b : Bool). b && (ltb 0 count && leb count (unsent proto log s))) busy)

pub send-unfit : {proto : Proto} {log : List Op} {s : SessionState} {left before reply : List ℕ}
    {item : Item} {from : ℕ}
    (number count : ℕ) → Replies proto log s left item before reply from
    → (ltb 0 count && leb count (length reply - from)) ≡ false → after proto log (Sent number count) s ≡ s
unfolding is_possible_to
send-unfit {proto} {log} {s} {left} {before} {reply} {item} {from} number count r unfit =
    after-no proto log (Sent number count) s
    (ap₂ (λ (b : Bool) (n : ℕ). b && (ltb 0 count && leb count n)) (sends-reply r) (unsent-reply r) ∙ unfit)

send-yes : {proto : Proto} {log : List Op} {s : SessionState} {left before reply : List ℕ} {item : Item} {from : ℕ}
    (number count : ℕ) → Replies proto log s left item before reply from → 0 < count → count ≤ length reply - from
    → after proto log (Sent number count) s ≡ settled proto log (sent_more s count)
unfolding is_possible_to effect_of
send-yes {proto} {log} {s} {left} {before} {reply} {item} {from} number count r some fits =
    let fit : (ltb 0 count && leb count (length reply - from)) ≡ true =
    ap₂ (λ (a b : Bool). a && b) (lt-ltb 0 count some) (le-leb count (length reply - from) fits) in
    after-yes proto log (Sent number count) s
    (ap₂ (λ (b : Bool) (n : ℕ). b && (ltb 0 count && leb count n)) (sends-reply r) (unsent-reply r) ∙ fit)

pub sends-part : {proto : Proto} {log : List Op} {s : SessionState} {left before reply : List ℕ}
    {item : Item} {from : ℕ}
    (number count : ℕ) → Replies proto log s left item before reply from → 0 < count → from + count < length reply
    → after proto log (Sent number count) s ≡ sent_more s count
sends-part number count r some below =
    send-yes number count r some (omega arith) ∙ settled-reply (send-part count r below)

pub sends-last : {proto : Proto} {log : List Op} {s : SessionState} {left before reply : List ℕ}
    {item : Item} {from : ℕ}
    (number count : ℕ) → Replies proto log s left item before reply from → 0 < count → from + count ≡ length reply
    → is_last item (length s.revs) ≡ true
    → after proto log (Sent number count) s ≡ record s { sent = s.sent + count; ended = true }
unfolding settled
sends-last {proto} {log} {s} number count r some all last =
    send-yes number count r some (omega arith)
    ∙ ap (begun proto log) (send-last count r all last)
    ∙ begun-no proto log (record s { sent = s.sent + count; ended = true })
    (due-ended proto log (record s { sent = s.sent + count; ended = true }) refl)

pub sends-whole : {proto : Proto} {log : List Op} {s : SessionState} {left before reply : List ℕ}
    {item : Item} {from : ℕ}
    (number count : ℕ) → Replies proto log s left item before reply from → 0 < count → from + count ≡ length reply
    → is_last item (length s.revs) ≡ false
    → after proto log (Sent number count) s ≡ begun proto log (sent_more s count)
sends-whole number count r some all goes =
    send-yes number count r some (omega arith) ∙ settled-rest (send-whole count r all goes)
