-- A session that sends a reply, and what can happen to it.
use Rattle.std.proofs.Common.{◌≡◌, ◌<◌, suc, ℕ, ◌+◌, ◌-◌, Bool, true, false, not, ◌&&◌, cond, List, [], ◌∷◌, ◌++◌, length, Option, Some, None, refl, sym, ap, ap₂, ◌∙◌, arith, length-append}
use Rattle.std.specs.Prelude.{slice_get, is_none}
use Rattle.std.proofs.lemmas.Bool.{le-leb, lt-leb}
use Rattle.fm_model.specs.declared.op.Op.{Op}
use Rattle.fm_model.specs.declared.proto.Proto.{Proto}
use Rattle.web_frame.specs.Items.{Item}
use Rattle.web_frame.specs.Stream.{held_after}
use Rattle.dap_reply.specs.Reply.{is_last}
use Rattle.pub_core.specs.World.{asks, is_due, is_idle, is_refused_at, is_wanted_at, items_fed, next_item, rests, script_in, sends, unsent, waits, SessionState}
use Rattle.pub_core.specs.Happening.{closed, is_last_before}
use Rattle.pub_core.specs.Standing.{Replies, Rests}
use Rattle.pub_core.proofs.ItemLemmas.{next-there, passes}

-- how many bytes there are in all
long-reply : {proto : Proto} {log : List Op} {s : SessionState} {left before reply : List ℕ} {item : Item} {from : ℕ}
    (r : Replies proto log s left item before reply from)
    → length (script_in proto log s) ≡ length before + length reply
long-reply {before = before} {reply = reply} r = ap length r.script_is ∙ length-append before reply

rests-reply : {proto : Proto} {log : List Op} {s : SessionState} {left before reply : List ℕ} {item : Item} {from : ℕ}
    → Replies proto log s left item before reply from → rests proto log s ≡ false
unfolding rests
rests-reply {proto} {log} {s} r =
    lt-leb (length (script_in proto log s)) s.sent (omega (arith, long-reply r, r.sent_is, r.some))

pub idle-reply : {proto : Proto} {log : List Op} {s : SessionState} {left before reply : List ℕ}
    {item : Item} {from : ℕ}
    → Replies proto log s left item before reply from → is_idle proto log s ≡ false
unfolding is_idle
idle-reply {proto} {log} {s} r = ap (λ (a : Bool). a && not s.ended) (rests-reply r)

pub waits-reply : {proto : Proto} {log : List Op} {s : SessionState} {left before reply : List ℕ}
    {item : Item} {from : ℕ}
    → Replies proto log s left item before reply from → waits proto log s ≡ false
unfolding waits
waits-reply {proto} {log} {s} r = ap (λ (a : Bool). a && is_none (next_item s)) (idle-reply r)

pub asks-reply : {proto : Proto} {log : List Op} {s : SessionState} {left before reply : List ℕ}
    {item : Item} {from : ℕ}
    → Replies proto log s left item before reply from → asks proto log s ≡ false
unfolding asks
asks-reply {proto} {log} {s} r = ap (λ (a : Bool). a && is_wanted_at proto.site (next_item s)) (idle-reply r)

pub due-reply : {proto : Proto} {log : List Op} {s : SessionState} {left before reply : List ℕ} {item : Item} {from : ℕ}
    → Replies proto log s left item before reply from → is_due proto log s ≡ false
unfolding is_due
due-reply {proto} {log} {s} r = ap (λ (a : Bool). a && is_refused_at proto.site (next_item s)) (idle-reply r)

pub sends-reply : {proto : Proto} {log : List Op} {s : SessionState} {left before reply : List ℕ}
    {item : Item} {from : ℕ}
    → Replies proto log s left item before reply from → sends proto log s ≡ true
unfolding sends
sends-reply r = ap₂ (λ (a b : Bool). not a && not b) (rests-reply r) r.stays

pub unsent-reply : {proto : Proto} {log : List Op} {s : SessionState} {left before reply : List ℕ}
    {item : Item} {from : ℕ}
    → Replies proto log s left item before reply from → unsent proto log s ≡ length reply - from
unsent-reply r = omega (arith, long-reply r, r.sent_is)

pub closed-reply : {proto : Proto} {log : List Op} {s : SessionState} {left before reply : List ℕ}
    {item : Item} {from : ℕ}
    → Replies proto log s left item before reply from → closed proto log s ≡ s
unfolding closed
closed-reply {proto} {log} {s} r =
    ap (λ (b : Bool). cond (b && is_last_before (items_fed s) (length s.revs)) (record s { ended = true }) s)
    (rests-reply r)

-- whether the reply is a connection's last
pub last-reply : {proto : Proto} {log : List Op} {s : SessionState} {left before reply : List ℕ}
    {item : Item} {from : ℕ}
    → Replies proto log s left item before reply from
    → is_last_before (items_fed s) (length s.revs) ≡ is_last item (length s.revs)
last-reply {s = s} {item = item} r =
    let there : slice_get (items_fed s) (length r.done) ≡ Some item = next-there r.reads ∙ r.item_is in
    ap (is_last_before (items_fed s)) r.count
    ∙ ap (λ (o : Option Item). elim o [ None ↦ false | Some i ↦ is_last i (suc (length r.done)) ]) there
    ∙ ap (is_last item) (sym r.count)

-- ---- bytes of it are sent

-- a session that is sent more
abbrev pub sent_more : SessionState → ℕ → SessionState
sent_more s count = record s { sent = s.sent + count }

script-sent : (proto : Proto) (log : List Op) (s : SessionState) (count : ℕ)
    → script_in proto log (sent_more s count) ≡ script_in proto log s
unfolding script_in
script-sent proto log s count = refl

pub send-part : {proto : Proto} {log : List Op} {s : SessionState} {left before reply : List ℕ} {item : Item} {from : ℕ}
    (count : ℕ) → Replies proto log s left item before reply from → from + count < length reply
    → Replies proto log (sent_more s count) left item before reply (from + count)
send-part {proto} {log} {s} count r some = record {
  done = r.done;
  reads = r.reads;
  item_is = r.item_is;
  count = r.count;
  script_is = script-sent proto log s count ∙ r.script_is;
  sent_is = omega (arith, r.sent_is);
  some = some;
  stays = r.stays;
}

rests-whole : {proto : Proto} {log : List Op} {s : SessionState} {left before reply : List ℕ} {item : Item} {from : ℕ}
    (count : ℕ) → Replies proto log s left item before reply from → from + count ≡ length reply
    → rests proto log (sent_more s count) ≡ true
unfolding rests
rests-whole {proto} {log} {s} count r all =
    le-leb (length (script_in proto log (sent_more s count))) (s.sent + count)
    (omega (arith, ap length (script-sent proto log s count), long-reply r, r.sent_is, all))

-- the last one ends the session
pub send-last : {proto : Proto} {log : List Op} {s : SessionState} {left before reply : List ℕ} {item : Item} {from : ℕ}
    (count : ℕ) → Replies proto log s left item before reply from → from + count ≡ length reply
    → is_last item (length s.revs) ≡ true
    → closed proto log (sent_more s count) ≡ record s { sent = s.sent + count; ended = true }
unfolding closed
send-last {proto} {log} {s} count r all last =
    ap₂ (λ (a b : Bool). cond (a && b) (record s { sent = s.sent + count; ended = true }) (sent_more s count))
    (rests-whole count r all) (last-reply r ∙ last)

-- after another one it rests with the bytes behind the request
pub send-whole : {proto : Proto} {log : List Op} {s : SessionState} {left before reply : List ℕ}
    {item : Item} {from : ℕ}
    (count : ℕ) → Replies proto log s left item before reply from → from + count ≡ length reply
    → is_last item (length s.revs) ≡ false
    → Rests proto log (sent_more s count) (held_after left).rest
send-whole {proto} {log} {s} {item = item} count r all goes = record {
  done = r.done ++ item ∷ [];
  reads = passes item (length s.revs) r.reads r.item_is goes;
  count = omega (arith, r.count, length-append r.done (item ∷ []));
  all_sent = omega (arith, ap length (script-sent proto log s count), long-reply r, r.sent_is, all);
  goes_on = last-reply r ∙ goes;
  stays = r.stays;
}
