-- What a connection shows after bytes are fed, after a reply is begun, and after bytes of it are sent. It is long,
-- since bytes that are sent leave a reply unfinished, finish it, or finish the last one.
use Rattle.std.proofs.Common.{◌≡◌, ◌≤◌, ◌<◌, ℕ, ◌+◌, ◌-◌, Bool, true, false, ltb, Bor, List, [], ◌∷◌, ◌++◌, length, take, drop, Option, Some, refl, sym, ap, ap₂, subst, ◌∙◌, arith, length-append, take-add}
use Rattle.std.specs.List.{All}
use Rattle.std.proofs.lemmas.Bool.{ltb-true, ltb-false}
use Rattle.std.proofs.lemmas.List.{take-append-le}
use Rattle.std.proofs.lemmas.List.Elements.{All-append, All-cons, All-nil}
use Rattle.std.proofs.Math.Seq.{drop-append-add}
use Rattle.fm_model.specs.declared.op.Op.{Op}
use Rattle.fm_model.specs.declared.proto.Proto.{Proto}
use Rattle.fm_model.specs.Collection.{coll}
use Rattle.web_frame.specs.Items.{Item}
use Rattle.web_frame.specs.Stream.{held_after}
use Rattle.web_session.specs.declared.action.End.{End as Ending}
use Rattle.web_session.specs.declared.event.Event.TheVariants as step
use Rattle.web_session.specs.declared.phase.Phase.TheVariants.{Ended}
use Rattle.web_session.specs.Event.{after_event}
use Rattle.web_session.specs.State.{resting, State}
use Rattle.dap_reply.specs.Parts.{bytes_of, Parts}
use Rattle.dap_reply.specs.Reply.{is_last, reply_of}
use Rattle.pub_core.specs.declared.connection.Connection.{Connection}
use Rattle.pub_core.specs.declared.event.Event.TheVariants.{Sent}
use Rattle.pub_core.specs.Happening.{after, begun}
use Rattle.pub_core.specs.Shown.{sending_reply, IsShown, Shows, Stands}
use Rattle.pub_core.specs.Shown.Stands.{at_end, at_rest, in_reply}
use Rattle.pub_core.specs.Standing.{Replies, Rests}
use Rattle.pub_core.specs.World.{items_fed, next_item, output_of, script_in, SessionState}
use Rattle.pub_core.proofs.MachineLemmas.{begins-machine, feeds-machine, sends-last-machine, sends-part-machine, sends-whole-machine}
use Rattle.pub_core.proofs.Replying.{due-reply, sent_more, send-part, send-whole}
use Rattle.pub_core.proofs.Resting.{begin-rest, feed-rest, few-rest, next-rest}
use Rattle.pub_core.proofs.SoFar.{fed_more, script-begun, script-fed, some-reply, with_reply}
use Rattle.pub_core.proofs.Steps.{begun-no, due-ended, sends-last, sends-part, sends-whole}
use Rattle.pub_core.proofs.ShownLemmas.{with_machine, Asks, Reads, Sends}

pub stands-rest : {proto : Proto} {log : List Op} {s : SessionState} {left : List ℕ} {machine : State}
    {plan : Option Parts} → Rests proto log s left → machine ≡ resting left (length s.revs)
    → Stands proto log s machine plan
stands-rest {left = left} r is = at_rest left r (is ∙ ap (resting left) r.count)

pub stands-reply : {proto : Proto} {log : List Op} {s : SessionState} {left before : List ℕ} {item : Item}
    {reply : Parts} {from : ℕ} {machine : State} {plan : Option Parts} (index : ℕ)
    → Replies proto log s left item before (bytes_of reply) from → plan ≡ Some reply → length s.revs ≡ index + 1
    → machine ≡ sending_reply left index item from (length (bytes_of reply)) → Stands proto log s machine plan
stands-reply {left = left} {before = before} {item = item} {reply = reply} {from = from} index r plan number is =
    let same : index ≡ length r.done = omega (arith, number, r.count) in
    in_reply left item before reply from r plan
    (is ∙ ap (λ (n : ℕ). sending_reply left n item from (length (bytes_of reply))) same)

-- ---- bytes are fed

output-same : (proto : Proto) (log : List Op) (s : SessionState) (piece : List ℕ)
    → length s.revs ≤ length (items_fed s) → output_of proto log (fed_more s piece) ≡ output_of proto log s
unfolding output_of
output-same proto log s piece few = ap (take s.sent) (script-fed proto log s piece few)

pub shows-feed : {proto : Proto} {log : List Op} {c : Connection} {s : SessionState} {room : ℕ}
    (piece : Bor (List ℕ)) (machine : State) → Shows proto log c s → (r : Reads proto log c s room)
    → length piece.now ≤ room → machine ≡ after_event c.session (step.Bytes piece)
    → Shows proto log (with_machine c machine) (fed_more s piece.now)
shows-feed {proto} {log} {c} {s} piece machine shows r fits is = record {
  output_is = shows.output_is ∙ sym (output-same proto log s piece.now (few-rest r.rests));
  seen_is = shows.seen_is;
  seen_within = shows.seen_within;
  revs_within = shows.revs_within;
  stands = stands-rest (feed-rest piece.now r.rests)
      (is ∙ ap (λ (m : State). after_event m (step.Bytes piece)) r.machine_is
      ∙ feeds-machine r.left (length r.rests.done) piece r.none (omega (arith, fits, r.room_is))
      ∙ ap (resting (r.left ++ piece.now)) (sym r.rests.count));
}

-- ---- a reply is begun

output-begun : (proto : Proto) (log : List Op) (s : SessionState) (revision seen : ℕ) (item : Item)
    → next_item s ≡ Some item → s.sent ≤ length (script_in proto log s)
    → output_of proto log (with_reply s revision seen) ≡ output_of proto log s
unfolding output_of
output-begun proto log s revision seen item is within =
    ap (take s.sent) (script-begun proto log s revision seen item is)
    ∙ take-append-le s.sent (script_in proto log s)
    (reply_of proto (coll (take revision log)) revision item (length s.revs + 1)) within

pub shown-with-reply : {proto : Proto} {log : List Op} {c : Connection} {s : SessionState} {asked : _}
    (now : Connection) (reply : Parts) (revision : ℕ) → Shows proto log c s → (a : Asks proto log c s asked)
    → bytes_of reply ≡ reply_of proto (coll (take revision log)) revision a.item (length a.rests.done + 1)
    → revision ≤ length log → now.seen ≤ length log
    → now.session ≡ after_event c.session (step.Answer (length (bytes_of reply)))
    → now.plan ≡ Some reply → now.output ≡ c.output
    → IsShown proto log now (with_reply s revision now.seen)
shown-with-reply {proto} {log} {c} {s} now reply revision shows a bytes known within machine plan output =
    let number : length a.rests.done + 1 ≡ length s.revs + 1 = omega (arith, a.rests.count) in
    let same : bytes_of reply ≡ reply_of proto (coll (take revision log)) revision a.item (length s.revs + 1) =
    bytes ∙ ap (reply_of proto (coll (take revision log)) revision a.item) number in
    let some : 0 < length (bytes_of reply) =
    omega (
      arith,
      ap length same,
      some-reply proto (coll (take revision log)) revision a.item (length s.revs + 1),
    ) in
    let begins : Replies proto log (with_reply s revision now.seen) a.left a.item (script_in proto log s)
    (reply_of proto (coll (take revision log)) revision a.item (length s.revs + 1)) 0 =
    begin-rest a.item revision now.seen a.rests a.item_is
    (some-reply proto (coll (take revision log)) revision a.item (length s.revs + 1)) in
    record {
      shows = record {
        output_is = output ∙ shows.output_is ∙ sym (output-begun proto log s revision now.seen a.item
            (next-rest a.rests ∙ a.item_is) (omega (arith, a.rests.all_sent)));
        seen_is = refl;
        seen_within = within;
        revs_within = All-append (λ (n : ℕ). n ≤ length log) s.revs (revision ∷ []) shows.revs_within
            (All-cons (λ (n : ℕ). n ≤ length log) revision [] known (All-nil (λ (n : ℕ). n ≤ length log)));
        stands = stands-begun same begins some;
      };
      due = due-reply begins;
    }
  where
    stands-begun : {front : List ℕ} → bytes_of reply ≡ front
        → Replies proto log (with_reply s revision now.seen) a.left a.item (script_in proto log s) front 0
        → 0 < length (bytes_of reply) → Stands proto log (with_reply s revision now.seen) now.session now.plan
    stands-begun {front} same begins some =
        let r : Replies proto log (with_reply s revision now.seen) a.left a.item (script_in proto log s)
        (bytes_of reply) 0 =
        subst (λ (l : List ℕ). Replies proto log (with_reply s revision now.seen) a.left a.item
        (script_in proto log s) l 0) (sym same) begins in
        stands-reply (length a.rests.done) r plan
        (omega (arith, a.rests.count, length-append s.revs (revision ∷ [])))
        (machine ∙ ap (λ (m : State). after_event m (step.Answer (length (bytes_of reply)))) a.machine_is
        ∙ begins-machine a.left (length a.rests.done) (length (bytes_of reply)) a.item a.item_is some)

-- ---- bytes of it are sent

-- a session after bytes are sent, before a reply that is due is begun
pub record Sending (proto : Proto) (log : List Op) (now : Connection) (s after_it : SessionState) : Type 0 where
  pub here : SessionState
  pub shows : Shows proto log now here
  pub after_is : after_it ≡ begun proto log here

output-more : {proto : Proto} {log : List Op} {s : SessionState} {left before reply : List ℕ} {item : Item}
    {from : ℕ} (count : ℕ) → Replies proto log s left item before reply from
    → output_of proto log (sent_more s count) ≡ output_of proto log s ++ take count (drop from reply)
unfolding output_of script_in
output-more {proto} {log} {s} {before = before} {reply = reply} {from = from} count r =
    take-add s.sent count (script_in proto log s)
    ∙ ap (λ (l : List ℕ). take s.sent (script_in proto log s) ++ take count l)
    (ap₂ drop r.sent_is r.script_is ∙ drop-append-add before reply from)

-- a connection that was sent more bytes
pub record Given (proto : Proto) (log : List Op) (c now : Connection) (s : SessionState) (from count : ℕ)
    (r : Sends proto log c s from) : Type 0 where
  pub output_is : now.output ≡ c.output ++ take count (drop from (bytes_of r.reply))
  pub plan_is : now.plan ≡ c.plan
  pub seen_is : now.seen ≡ c.seen
  pub machine_is : now.session ≡ after_event c.session (step.Sent count)

shows-sent-by : {proto : Proto} {log : List Op} {c : Connection} {s : SessionState} {from : ℕ} (now : Connection)
    (count : ℕ) → Shows proto log c s → (r : Sends proto log c s from) → Given proto log c now s from count r
    → Stands proto log (sent_more s count) now.session now.plan → Shows proto log now (sent_more s count)
shows-sent-by {proto} {log} {c} {s} {from} now count shows r given stands = record {
  output_is = given.output_is
      ∙ ap (λ (l : List ℕ). l ++ take count (drop from (bytes_of r.reply))) shows.output_is
      ∙ sym (output-more count r.replies);
  seen_is = given.seen_is ∙ shows.seen_is;
  seen_within = shows.seen_within;
  revs_within = shows.revs_within;
  stands = stands;
}

machine-sent : {proto : Proto} {log : List Op} {c now : Connection} {s : SessionState} {from count : ℕ}
    (r : Sends proto log c s from) → Given proto log c now s from count r
    → now.session ≡ after_event (sending_reply r.left (length r.replies.done) r.item from (length (bytes_of r.reply)))
    (step.Sent count)
machine-sent {count = count} r given =
    given.machine_is ∙ ap (λ (m : State). after_event m (step.Sent count)) r.machine_is

sent-part : {proto : Proto} {log : List Op} {c : Connection} {s : SessionState} {from : ℕ} (now : Connection)
    (number count : ℕ) → Shows proto log c s → (r : Sends proto log c s from) → Given proto log c now s from count r
    → 0 < count → from + count < length (bytes_of r.reply)
    → Sending proto log now s (after proto log (Sent number count) s)
sent-part {proto} {log} {c} {s} {from} now number count shows r given some below =
    let part : Replies proto log (sent_more s count) r.left r.item r.before (bytes_of r.reply) (from + count) =
    send-part count r.replies below in
    record {
      here = sent_more s count;
      shows = shows-sent-by now count shows r given
          (stands-reply (length r.replies.done) part (given.plan_is ∙ r.plan_is) (omega (arith, r.replies.count))
          (machine-sent r given
          ∙ sends-part-machine r.left (length r.replies.done) count from (length (bytes_of r.reply)) r.item below));
      after_is = sends-part number count r.replies some below
          ∙ sym (begun-no proto log (sent_more s count) (due-reply part));
    }

ended-same : (proto : Proto) (log : List Op) (s : SessionState) (ended : Bool)
    → output_of proto log (record s { ended = ended }) ≡ output_of proto log s
unfolding output_of script_in
ended-same proto log s ended = refl

-- a connection whose machine ended shows a session that did
pub shows-ended : {proto : Proto} {log : List Op} (c : Connection) (s : SessionState) (end : Ending) (machine : State)
    → c.output ≡ output_of proto log s → c.seen ≡ s.seen → s.seen ≤ length log
    → All (λ (revision : ℕ). revision ≤ length log) s.revs
    → machine.phase ≡ Ended end → Shows proto log (with_machine c machine) (record s { ended = true })
shows-ended {proto} {log} c s end machine output seen known revs phase = record {
  output_is = output ∙ sym (ended-same proto log s true);
  seen_is = seen;
  seen_within = known;
  revs_within = revs;
  stands = at_end end phase refl;
}

sent-last : {proto : Proto} {log : List Op} {c : Connection} {s : SessionState} {from : ℕ} (now : Connection)
    (number count : ℕ) → Shows proto log c s → (r : Sends proto log c s from) → Given proto log c now s from count r
    → 0 < count → from + count ≡ length (bytes_of r.reply) → is_last r.item (length s.revs) ≡ true
    → Sending proto log now s (after proto log (Sent number count) s)
sent-last {proto} {log} {c} {s} {from} now number count shows r given some all last =
    let numbered : length s.revs ≡ length r.replies.done + 1 = omega (arith, r.replies.count) in
    let ends = sends-last-machine r.left (length r.replies.done) count from (length (bytes_of r.reply)) r.item
    (omega (arith, all)) (ap (is_last r.item) (sym numbered) ∙ last) in
    let output : now.output ≡ output_of proto log (sent_more s count) =
    given.output_is ∙ ap (λ (l : List ℕ). l ++ take count (drop from (bytes_of r.reply))) shows.output_is
    ∙ sym (output-more count r.replies) in
    record {
      here = record s { sent = s.sent + count; ended = true };
      shows = shows-ended now (sent_more s count) ends.0 now.session output
          (given.seen_is ∙ shows.seen_is) shows.seen_within shows.revs_within (ap (λ (m : State). m.phase)
          (machine-sent r given) ∙ ends.1);
      after_is = sends-last number count r.replies some all last
          ∙ sym (begun-no proto log (record s { sent = s.sent + count; ended = true })
          (due-ended proto log (record s { sent = s.sent + count; ended = true }) refl));
    }

sent-whole : {proto : Proto} {log : List Op} {c : Connection} {s : SessionState} {from : ℕ} (now : Connection)
    (number count : ℕ) → Shows proto log c s → (r : Sends proto log c s from) → Given proto log c now s from count r
    → 0 < count → from + count ≡ length (bytes_of r.reply) → is_last r.item (length s.revs) ≡ false
    → Sending proto log now s (after proto log (Sent number count) s)
sent-whole {proto} {log} {c} {s} {from} now number count shows r given some all goes =
    let numbered : length s.revs ≡ length r.replies.done + 1 = omega (arith, r.replies.count) in
    record {
      here = sent_more s count;
      shows = shows-sent-by now count shows r given
          (stands-rest (send-whole count r.replies all goes)
          (machine-sent r given
          ∙ sends-whole-machine r.left (length r.replies.done) count from (length (bytes_of r.reply)) r.item
          (omega (arith, all)) (ap (is_last r.item) (sym numbered) ∙ goes)
          ∙ ap (resting (held_after r.left).rest) (sym numbered)));
      after_is = sends-whole number count r.replies some all goes;
    }

sent-by : {proto : Proto} {log : List Op} {c : Connection} {s : SessionState} {from : ℕ} (now : Connection)
    (number count : ℕ) (part last : Bool) → Shows proto log c s → (r : Sends proto log c s from)
    → Given proto log c now s from count r → 0 < count → count ≤ length (bytes_of r.reply) - from
    → ltb (from + count) (length (bytes_of r.reply)) ≡ part → is_last r.item (length s.revs) ≡ last
    → Sending proto log now s (after proto log (Sent number count) s)
sent-by {from = from} now number count true last shows r given some within part_is last_is =
    sent-part now number count shows r given some (ltb-true (from + count) (length (bytes_of r.reply)) part_is)
sent-by {from = from} now number count false true shows r given some within part_is last_is =
    sent-last now number count shows r given some
    (omega (arith, within, ltb-false (from + count) (length (bytes_of r.reply)) part_is, r.replies.some)) last_is
sent-by {from = from} now number count false false shows r given some within part_is last_is =
    sent-whole now number count shows r given some
    (omega (arith, within, ltb-false (from + count) (length (bytes_of r.reply)) part_is, r.replies.some)) last_is

pub shows-sent : {proto : Proto} {log : List Op} {c : Connection} {s : SessionState} {from : ℕ} (now : Connection)
    (number count : ℕ) → Shows proto log c s → (r : Sends proto log c s from) → Given proto log c now s from count r
    → 0 < count → count ≤ length (bytes_of r.reply) - from
    → Sending proto log now s (after proto log (Sent number count) s)
shows-sent {s = s} {from = from} now number count shows r given some within =
    sent-by now number count (ltb (from + count) (length (bytes_of r.reply))) (is_last r.item (length s.revs)) shows r
    given some within refl refl
