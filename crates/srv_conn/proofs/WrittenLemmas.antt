-- Where the reply to a request stands in the bytes that were written.
use Rattle.std.proofs.Common.{◌≡◌, ◌≢◌, ◌<◌, ℕ, zero, suc, ◌+◌, List, [], ◌∷◌, ◌++◌, length, take, Some, sym, ap, ap₂, subst, ◌∙◌, append_assoc, arith}
use Rattle.std.specs.Prelude.{slice_get}
use Rattle.std.proofs.lemmas.List.{take_all}
use Rattle.std.proofs.lemmas.Option.{same_Some}
use Rattle.fm_model.specs.declared.op.Op.{Op}
use Rattle.fm_model.specs.Collection.{coll}
use Rattle.web_frame.specs.Items.{Item}
use Rattle.web_session.specs.declared.action.End.TheVariants as ends
use Rattle.dap_reply.specs.declared.served.Mark.{Mark}
use Rattle.dap_reply.specs.declared.served.Stop.TheVariants as stops
use Rattle.dap_reply.specs.Collections.{proto_for, Collections}
use Rattle.dap_reply.specs.Reply.{fine_with, has_head_alone, is_last, reply_text}
use Rattle.dap_reply.specs.Served.{items_of, number_at, HasFailed, LinkCall, Served}
use Rattle.dap_reply.specs.ServedMany.{all_items, as_many, call_in, reply_for, sent_for, ManyCall, ServedMany}
use Rattle.dap_reply.proofs.ManyLemmas.{one-of-many, sent-same}
use Rattle.dap_reply.proofs.WellFormedLemmas.{well-replied}
use Rattle.srv_conn.specs.Answered.{GoesOnBefore, IsAnsweredFor}
use Rattle.srv_conn.specs.WrittenAt.{GetsData, GetsDataFor, IsWrittenFor}
use Rattle.srv_conn.proofs.LawLemmas.{all-answered-for}

-- the bytes of the replies are those before an index, the reply there, and others
sent-at : (them : Collections) (seen : ℕ → List Op) (marks : List Mark) (items : List Item) (before index : ℕ)
    (mark : Mark) (item : Item) → slice_get marks index ≡ Some mark → slice_get items index ≡ Some item
    → (after : List ℕ) × (sent_for them seen marks items before
    ≡ sent_for them seen (take index marks) items before
    ++ take mark.sent (reply_for them seen mark item (before + index + 1)) ++ after)
unfolding sent_for
sent-at them seen [] items before index mark item at is = absurd (cc)
sent-at them seen (m ∷ marks) [] before index mark item at is = absurd (cc)
sent-at them seen (m ∷ marks) (i ∷ items) before zero mark item at is =
    let after : List ℕ = sent_for them seen marks items (before + 1) in
    let number : before + 1 ≡ before + 0 + 1 = omega arith in (
      after,
      ap₂ (λ (x : Mark) (y : Item). take x.sent (reply_for them seen x y (before + 1)) ++ after)
          (same_Some m mark at) (same_Some i item is)
          ∙ ap (λ (n : ℕ). take mark.sent (reply_for them seen mark item n) ++ after) number,
    )
sent-at them seen (m ∷ marks) (i ∷ items) before (suc index) mark item at is =
    let first : List ℕ = take m.sent (reply_for them seen m i (before + 1)) in
    let rest = sent-at them seen marks items (before + 1) index mark item at is in
    let front : List ℕ = sent_for them seen (take index marks) items (before + 1) in
    let reply : List ℕ = take mark.sent (reply_for them seen mark item (before + suc index + 1)) in
    let number : before + 1 + index + 1 ≡ before + suc index + 1 = omega arith in (
      rest.0,
      ap (λ (l : List ℕ). first ++ l) (rest.1
          ∙ ap (λ (n : ℕ). front ++ take mark.sent (reply_for them seen mark item n) ++ rest.0) number)
          ∙ sym (append_assoc first (front ++ reply) rest.0)
          ∙ ap (λ (l : List ℕ). l ++ rest.0) (sym (append_assoc first front reply)),
    )

-- a whole reply is written behind those before it
written-for : (call : ManyCall) → ServedMany call → (index : ℕ) (mark : Mark) (item : Item)
    → slice_get call.trail index ≡ Some mark → slice_get (all_items call) index ≡ Some item
    → mark.sent ≡ length (reply_for call.them call.after.seen mark item (number_at (call_in call 0) index))
    → IsWrittenFor call index (reply_for call.them call.after.seen mark item (number_at (call_in call 0) index))
written-for call served index mark item there is whole =
    let reply : List ℕ = reply_for call.them call.after.seen mark item (number_at (call_in call 0) index) in
    let front : List ℕ =
    sent_for call.them call.after.seen (take index call.trail) (all_items call) call.session.before in
    let at = sent-at call.them call.after.seen call.trail (all_items call) call.session.before index mark item there
    is in
    record {
      after = at.0 ++ served.writes.farewell;
      written_is = served.writes.written_is ∙ ap (λ (l : List ℕ). l ++ served.writes.farewell) (at.1
          ∙ ap (λ (l : List ℕ). front ++ l ++ at.0) (take_all mark.sent reply (omega (arith, whole))))
          ∙ append_assoc (front ++ reply) at.0 served.writes.farewell;
    }

pub gets-data-for : (call : ManyCall) → ServedMany call → ¬ (HasFailed (call_in call 0))
    → call.stop ≢ stops.Ended ends.NoMemory
    → (index : ℕ) (item : Item) → index < call.most → slice_get (all_items call) index ≡ Some item
    → GoesOnBefore (call_in call 0) index → GetsDataFor call index item
gets-data-for call served sound ample index item below is goes =
    let a : IsAnsweredFor call index item = all-answered-for call served sound ample index item below is goes in
    record {
      mark = a.mark;
      mark_is = a.mark_is;
      gets = λ target body formed.
          subst (IsWrittenFor call index)
          (well-replied (proto_for call.them item)
          (coll (take a.mark.revision (call.after.seen (call.them.choice item))))
          item target body a.mark.revision (number_at (call_in call 0) index) formed)
          (written-for call served index a.mark item a.mark_is is a.whole);
    }

-- over one collection
pub gets-data : (call : LinkCall) → Served call → ¬ (HasFailed call) → call.stop ≢ stops.Ended ends.NoMemory
    → (index : ℕ) (item : Item) → index < call.most → slice_get (items_of call) index ≡ Some item
    → GoesOnBefore call index → GetsData call index item
gets-data call served sound ample index item below is goes =
    let g = gets-data-for (as_many call) ((one-of-many call).0 served) sound ample index item below is goes in
    record {
      mark = g.mark;
      mark_is = g.mark_is;
      gets = λ target body formed.
          let w = g.gets target body formed in
          record {
            after = w.after;
            written_is = w.written_is ∙ ap (λ (l : List ℕ). l ++ reply_text (fine_with body) g.mark.revision
                (has_head_alone item) (is_last item (number_at call index)) ++ w.after)
                (sent-same call.proto call.still call.seen_after (take index call.trail) (items_of call)
                call.session.before);
          };
    }

pub ruleset data_laws = (gets-data, gets-data-for)
