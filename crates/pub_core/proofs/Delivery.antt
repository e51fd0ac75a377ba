-- The bytes that a session was sent, once bytes of a reply were sent.
use Rattle.std.proofs.Common.{◌≡◌, ◌≤◌, ◌<◌, zero, suc, ℕ, ◌+◌, Bool, true, false, cond, ltb, List, [], ◌∷◌, ◌++◌, length, take, Option, Some, None, refl, sym, ap, ap₂, ◌∙◌, arith}
use Rattle.std.proofs.lemmas.Bool.{lt-ltb, ltb-true, ltb-false}
use Rattle.std.proofs.lemmas.List.{take_all, take-append-le}
use Rattle.std.proofs.Math.Seq.{take-append-add}
use Rattle.fm_model.specs.declared.op.Op.{Op}
use Rattle.fm_model.specs.declared.proto.Proto.{Proto}
use Rattle.fm_model.specs.Collection.{coll}
use Rattle.web_frame.specs.Items.{Item}
use Rattle.dap_reply.specs.declared.served.Mark.{Mark}
use Rattle.dap_reply.specs.Reply.{is_last, reply_of}
use Rattle.pub_core.specs.declared.event.Event.TheVariants.{Sent}
use Rattle.pub_core.specs.World.{is_refused_at, output_of, script_in, SessionState}
use Rattle.pub_core.specs.Happening.{after, begun, run}
use Rattle.pub_core.specs.Running.{first_output, sending}
use Rattle.pub_core.specs.Standing.{first_item, Replies, Rests}
use Rattle.pub_core.proofs.OneSession.{happens-sent, one, output-one, run-none, run-one}
use Rattle.pub_core.proofs.Replying.{sent_more, send-whole}
use Rattle.pub_core.proofs.Resting.{due-rest, next-rest}
use Rattle.pub_core.proofs.SoFar.{script-begun}
use Rattle.pub_core.proofs.Steps.{begins, begun-no, sends-last, sends-part, sends-whole}

-- ---- a session that rests was sent all

output-rest : {proto : Proto} {log : List Op} {s : SessionState} {left : List ℕ} → Rests proto log s left
    → output_of proto log s ≡ script_in proto log s
unfolding output_of
output-rest {proto} {log} {s} r = take_all s.sent (script_in proto log s) (omega (arith, r.all_sent))

output-by : {proto : Proto} {log : List Op} {s : SessionState} {left : List ℕ} (front : Option Item) (refused : Bool)
    → Rests proto log s left → first_item left ≡ front → is_refused_at proto.site front ≡ refused
    → output_of proto log (begun proto log s) ≡ script_in proto log s
unfolding output_of
output-by {proto} {log} {s} front false r first is =
    ap (output_of proto log) (begun-no proto log s (due-rest r ∙ ap (is_refused_at proto.site) first ∙ is))
    ∙ output-rest r
output-by {proto} {log} {s} None true r first is = absurd (cc)
output-by {proto} {log} {s} (Some item) true r first is =
    let reply : List ℕ = reply_of proto (coll (take s.seen log)) s.seen item (length s.revs + 1) in
    ap (output_of proto log) (begins item r first is)
    ∙ ap (take s.sent) (script-begun proto log s s.seen s.seen item (next-rest r ∙ first))
    ∙ take-append-le s.sent (script_in proto log s) reply (omega (arith, r.all_sent))
    ∙ output-rest r

-- also where a reply that is due is begun
pub output-begun : {proto : Proto} {log : List Op} {s : SessionState} {left : List ℕ} → Rests proto log s left
    → output_of proto log (begun proto log s) ≡ script_in proto log s
output-begun {proto} {left = left} r =
    output-by (first_item left) (is_refused_at proto.site (first_item left)) r refl refl

-- ---- bytes of a reply are sent

pub output-sent : {proto : Proto} {log : List Op} {s : SessionState} {left before reply : List ℕ} {item : Item}
    {from : ℕ} (count : ℕ) → Replies proto log s left item before reply from
    → output_of proto log (sent_more s count) ≡ before ++ take (from + count) reply
unfolding output_of script_in
output-sent {s = s} {before = before} {reply = reply} {from = from} count r =
    let sent_to : s.sent + count ≡ length before + (from + count) = omega (arith, r.sent_is) in
    ap₂ take sent_to r.script_is ∙ take-append-add before reply (from + count)

output-start : {proto : Proto} {log : List Op} {s : SessionState} {left before reply : List ℕ} {item : Item}
    (count : ℕ) → Replies proto log s left item before reply 0
    → output_of proto log (sent_more s count) ≡ before ++ take count reply
output-start {before = before} {reply = reply} count r =
    let same : 0 + count ≡ count = omega arith in
    output-sent count r ∙ ap (λ (n : ℕ). before ++ take n reply) same

output-ended : (proto : Proto) (log : List Op) (s : SessionState) (count : ℕ)
    → output_of proto log (record s { sent = s.sent + count; ended = true }) ≡ output_of proto log (sent_more s count)
unfolding output_of script_in
output-ended proto log s count = refl

output-whole : {proto : Proto} {log : List Op} {s : SessionState} {left before reply : List ℕ} {item : Item}
    (count : ℕ) (last : Bool) → Replies proto log s left item before reply 0 → 0 < count → count ≡ length reply
    → is_last item (length s.revs) ≡ last
    → output_of proto log (after proto log (Sent 0 count) s) ≡ before ++ take count reply
output-whole {proto} {log} {s} count true r some all last =
    ap (output_of proto log) (sends-last 0 count r some (omega (arith, all)) last)
    ∙ output-ended proto log s count ∙ output-start count r
output-whole {proto} {log} {s} {reply = reply} count false r some all last =
    let whole : 0 + count ≡ length reply = omega (arith, all) in
    ap (output_of proto log) (sends-whole 0 count r some whole last)
    ∙ output-begun (send-whole count r whole last)
    ∙ sym (output-rest (send-whole count r whole last)) ∙ output-start count r

output-some : {proto : Proto} {log : List Op} {s : SessionState} {left before reply : List ℕ} {item : Item}
    (count : ℕ) (part : Bool) → ltb count (length reply) ≡ part → Replies proto log s left item before reply 0
    → 0 < count → count ≤ length reply
    → output_of proto log (after proto log (Sent 0 count) s) ≡ before ++ take count reply
output-some {proto} {log} {s} {reply = reply} count true is r some within =
    let below : 0 + count < length reply = omega (arith, ltb-true count (length reply) is) in
    ap (output_of proto log) (sends-part 0 count r some below) ∙ output-start count r
output-some {proto} {log} {s} {reply = reply} {item = item} count false is r some within =
    output-whole count (is_last item (length s.revs)) r some (omega (arith, ltb-false count (length reply) is)) refl

sending-none : (mark : Mark) → mark.sent ≡ 0 → sending mark ≡ []
unfolding sending
sending-none mark is = ap (λ (n : ℕ). cond (ltb 0 n) (Sent 0 mark.sent ∷ []) []) is

pub sending-some : (mark : Mark) → 0 < mark.sent → sending mark ≡ Sent 0 mark.sent ∷ []
unfolding sending
sending-some mark some = ap (λ (b : Bool). cond b (Sent 0 mark.sent ∷ []) []) (lt-ltb 0 mark.sent some)

output-mark : {proto : Proto} {log : List Op} {s : SessionState} {left before reply : List ℕ} {item : Item}
    (mark : Mark) (count : ℕ) → mark.sent ≡ count → Replies proto log s left item before reply 0
    → count ≤ length reply
    → first_output proto (run proto (one log s) (sending mark)) ≡ before ++ take count reply
output-mark {proto} {log} {s} mark zero is r within =
    let same : s ≡ sent_more s 0 = ap (λ (n : ℕ). record s { sent = n }) (zero-added s.sent) in
    ap (λ (l : _). first_output proto (run proto (one log s) l)) (sending-none mark is)
    ∙ ap (first_output proto) (run-none proto (one log s)) ∙ output-one proto log s
    ∙ ap (output_of proto log) same ∙ output-start 0 r
  where
    zero-added : (n : ℕ) → n ≡ n + 0
    zero-added n = omega arith
output-mark {proto} {log} {s} {reply = reply} mark (suc n) is r within =
    let one_event : sending mark ≡ Sent 0 (suc n) ∷ [] =
    sending-some mark (omega (arith, is)) ∙ ap (λ (k : ℕ). Sent 0 k ∷ []) is in
    ap (λ (l : _). first_output proto (run proto (one log s) l)) one_event
    ∙ ap (first_output proto) (run-one proto (one log s) (Sent 0 (suc n)) ∙ happens-sent proto log s (suc n))
    ∙ output-one proto log (after proto log (Sent 0 (suc n)) s)
    ∙ output-some (suc n) (ltb (suc n) (length reply)) refl r (omega arith) within

-- as much of a reply is sent as its mark says
pub output-marked : {proto : Proto} {log : List Op} {s : SessionState} {left before reply : List ℕ} {item : Item}
    (mark : Mark) → Replies proto log s left item before reply 0 → mark.sent ≤ length reply
    → first_output proto (run proto (one log s) (sending mark)) ≡ before ++ take mark.sent reply
output-marked mark r within = output-mark mark mark.sent refl r within

-- a whole reply that isn't a connection's last leads on
pub whole-marked : {proto : Proto} {log : List Op} {s : SessionState} {left before reply : List ℕ} {item : Item}
    (mark : Mark) → Replies proto log s left item before reply 0 → mark.sent ≡ length reply
    → is_last item (length s.revs) ≡ false
    → run proto (one log s) (sending mark) ≡ one log (begun proto log (sent_more s mark.sent))
whole-marked {proto} {log} {s} mark r all goes =
    let some : 0 < mark.sent = omega (arith, r.some, all) in
    ap (run proto (one log s)) (sending-some mark some)
    ∙ run-one proto (one log s) (Sent 0 mark.sent) ∙ happens-sent proto log s mark.sent
    ∙ ap (one log) (sends-whole 0 mark.sent r some (omega (arith, all)) goes)
