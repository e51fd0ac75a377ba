-- A session that rests, and what can happen to it.
use Rattle.std.proofs.Common.{◌≡◌, ◌≤◌, ◌<◌, ℕ, ◌+◌, Bool, true, false, not, ◌&&◌, cond, List, [], ◌∷◌, ◌++◌, length, take, Option, Some, refl, sym, ap, ap₂, ◌∙◌, arith, length-append}
use Rattle.std.specs.Prelude.{slice_get, is_none}
use Rattle.std.proofs.lemmas.Bool.{le-leb}
use Rattle.fm_model.specs.declared.op.Op.{Op}
use Rattle.fm_model.specs.declared.proto.Proto.{Proto}
use Rattle.fm_model.specs.Collection.{coll}
use Rattle.web_frame.specs.Items.{heads_of, Heads, Item}
use Rattle.web_frame.proofs.ItemLemmas.{ReadsTo-feed}
use Rattle.dap_reply.specs.Reply.{reply_of}
use Rattle.pub_core.specs.World.{asks, is_due, is_idle, is_refused_at, is_wanted_at, items_fed, next_item, rests, script_in, sends, waits, SessionState}
use Rattle.pub_core.specs.Happening.{closed}
use Rattle.pub_core.specs.Standing.{first_item, Replies, Rests}
use Rattle.pub_core.proofs.ItemLemmas.{heads-read, next-there}
use Rattle.pub_core.proofs.SoFar.{fed_more, last-fed, script-begun, script-fed, with_reply}

pub and-false : (b : Bool) → (b && false) ≡ false
and-false true = refl
and-false false = refl

-- ---- a session that rests

-- the replies that were begun are to requests that it was fed
pub few-rest : {proto : Proto} {log : List Op} {s : SessionState} {left : List ℕ} → Rests proto log s left
    → length s.revs ≤ length (items_fed s)
few-rest {proto} {log} {s} {left} r =
    omega (
      arith,
      r.count,
      ap (λ (h : Heads). length h.items) (heads-read r.reads),
      length-append r.done (heads_of left).items,
    )

rests-rest : {proto : Proto} {log : List Op} {s : SessionState} {left : List ℕ} → Rests proto log s left
    → rests proto log s ≡ true
unfolding rests
rests-rest {proto} {log} {s} r = le-leb (length (script_in proto log s)) s.sent (omega (arith, r.all_sent))

pub idle-rest : {proto : Proto} {log : List Op} {s : SessionState} {left : List ℕ} → Rests proto log s left
    → is_idle proto log s ≡ true
unfolding is_idle
idle-rest r = ap₂ (λ (a b : Bool). a && not b) (rests-rest r) r.stays

pub next-rest : {proto : Proto} {log : List Op} {s : SessionState} {left : List ℕ} → Rests proto log s left
    → next_item s ≡ first_item left
unfolding next_item
next-rest {proto} {log} {s} r = ap (slice_get (items_fed s)) r.count ∙ next-there r.reads

pub waits-rest : {proto : Proto} {log : List Op} {s : SessionState} {left : List ℕ} → Rests proto log s left
    → waits proto log s ≡ is_none (first_item left)
unfolding waits
waits-rest r = ap₂ (λ (a : Bool) (o : Option Item). a && is_none o) (idle-rest r) (next-rest r)

pub asks-rest : {proto : Proto} {log : List Op} {s : SessionState} {left : List ℕ} → Rests proto log s left
    → asks proto log s ≡ is_wanted_at proto.site (first_item left)
unfolding asks
asks-rest {proto} r =
    ap₂ (λ (a : Bool) (o : Option Item). a && is_wanted_at proto.site o) (idle-rest r) (next-rest r)

pub due-rest : {proto : Proto} {log : List Op} {s : SessionState} {left : List ℕ} → Rests proto log s left
    → is_due proto log s ≡ is_refused_at proto.site (first_item left)
unfolding is_due
due-rest {proto} r =
    ap₂ (λ (a : Bool) (o : Option Item). a && is_refused_at proto.site o) (idle-rest r) (next-rest r)

pub sends-rest : {proto : Proto} {log : List Op} {s : SessionState} {left : List ℕ} → Rests proto log s left
    → sends proto log s ≡ false
unfolding sends
sends-rest {proto} {log} {s} r = ap (λ (a : Bool). not a && not s.ended) (rests-rest r)

pub closed-rest : {proto : Proto} {log : List Op} {s : SessionState} {left : List ℕ} → Rests proto log s left
    → closed proto log s ≡ s
unfolding closed
closed-rest {proto} {log} {s} r =
    ap (λ (b : Bool). cond (rests proto log s && b) (record s { ended = true }) s) r.goes_on
    ∙ ap (λ (b : Bool). cond b (record s { ended = true }) s) (and-false (rests proto log s))

-- it is fed more
pub feed-rest : {proto : Proto} {log : List Op} {s : SessionState} {left : List ℕ} (piece : List ℕ)
    → Rests proto log s left → Rests proto log (fed_more s piece) (left ++ piece)
feed-rest {proto} {log} {s} {left} piece r = record {
  done = r.done;
  reads = ReadsTo-feed piece r.reads;
  count = r.count;
  all_sent = r.all_sent ∙ ap length (sym (script-fed proto log s piece (few-rest r)));
  goes_on = last-fed s piece (few-rest r) ∙ r.goes_on;
  stays = r.stays;
}

-- a reply is begun
pub begin-rest : {proto : Proto} {log : List Op} {s : SessionState} {left : List ℕ} (item : Item) (revision seen : ℕ)
    → Rests proto log s left → first_item left ≡ Some item
    → 0 < length (reply_of proto (coll (take revision log)) revision item (length s.revs + 1))
    → Replies proto log (with_reply s revision seen) left item (script_in proto log s)
    (reply_of proto (coll (take revision log)) revision item (length s.revs + 1)) 0
begin-rest {proto} {log} {s} {left} item revision seen r first some = record {
  done = r.done;
  reads = r.reads;
  item_is = first;
  count = omega (arith, r.count, length-append s.revs (revision ∷ []));
  script_is = script-begun proto log s revision seen item (next-rest r ∙ first);
  sent_is = omega (arith, r.all_sent);
  some = some;
  stays = r.stays;
}
