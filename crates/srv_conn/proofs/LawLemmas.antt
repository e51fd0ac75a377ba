-- What is answered, where no call of the link failed.
use Rattle.std.proofs.Common.{◌≡◌, ◌≢◌, ◌<◌, ⊎_elim, ℕ, ◌+◌, length, true, false, Some, refl, sym, ap, subst, ◌∙◌, arith}
use Rattle.std.specs.Prelude.{is_some, slice_get}
use Rattle.std.proofs.lemmas.Bool.{cases_lt}
use Rattle.std.proofs.lemmas.Option.{slice_get_cases, slice_get_within}
use Rattle.web_frame.specs.Items.{Item}
use Rattle.web_session.specs.declared.action.End.{End}
use Rattle.web_session.specs.declared.action.End.TheVariants as ends
use Rattle.dap_reply.specs.declared.served.Mark.{Mark}
use Rattle.dap_reply.specs.declared.served.Stop.{Stop}
use Rattle.dap_reply.specs.declared.served.Stop.TheVariants as stops
use Rattle.dap_reply.specs.Reply.{is_last}
use Rattle.dap_reply.specs.Served.{items_of, marked_reply, number_at, EndsAfterReply, EndsBy, HasFailed, LinkCall, Served, StopsBy}
use Rattle.dap_reply.specs.ServedMany.{all_items, as_many, call_in, reply_for, ManyCall, ServedMany}
use Rattle.dap_reply.proofs.ManyLemmas.{one-of-many}
use Rattle.dap_reply.proofs.ServedLemmas.{last-ends}
use Rattle.srv_conn.specs.Answered.{GoesOnBefore, IsAnswered, IsAnsweredFor}

-- a link fault is the link's
fault-failed : (call : ManyCall) → ServedMany call → call.stop ≡ stops.Ended ends.LinkFault
    → HasFailed (call_in call 0)
unfolding StopsBy EndsBy
fault-failed call served is = (subst (StopsBy (call_in call 0)) is served.stops).1

pub whole-for : (call : ManyCall) → ServedMany call → ¬ (HasFailed (call_in call 0)) → (index : ℕ) (mark : Mark)
    (item : Item) → slice_get call.trail index ≡ Some mark → slice_get (all_items call) index ≡ Some item
    → mark.sent ≡ length (reply_for call.them call.after.seen mark item (number_at (call_in call 0) index))
whole-for call served sound index mark item there is =
    ⊎_elim (λ whole. whole) (λ cut. absurd (sound (fault-failed call served cut.0)))
    (served.writes.whole index mark item there is)

-- the reply after which a connection ends is its last
last-there : (call : LinkCall) (end : End) (a : EndsAfterReply call end)
    → is_last a.item (number_at call a.index) ≡ false → ⊥
last-there call end a goes =
    let last : is_last a.item (number_at call a.index) ≡ true =
    last-ends a.item (call.session.before + a.index) ∙ ap is_some a.end_is in
    cc

-- a request that is read is answered
reached : (call : LinkCall) → ¬ (HasFailed call) → call.stop ≢ stops.Ended ends.NoMemory → (index : ℕ) (item : Item)
    → index < call.most → slice_get (items_of call) index ≡ Some item → GoesOnBefore call index
    → (stop : Stop) → StopsBy call stop → stop ≡ call.stop → index < length call.trail
unfolding StopsBy EndsBy
reached call sound ample index item below is goes = by_stop
  where
    all_read : length call.trail ≡ length (items_of call) → index < length call.trail
    all_read all = omega (arith, all, slice_get_within (items_of call) index item is)

    after_reply : (end : End) → EndsAfterReply call end → index < length call.trail
    after_reply end a = ⊎_elim (λ here. here)
        (λ past. absurd (last-there call end a (goes a.index a.item (omega (arith, past, a.index_is)) a.item_is)))
        (cases_lt index (length call.trail))

    by_end : (end : End) → EndsBy call end → stops.Ended end ≡ call.stop → index < length call.trail
    by_end ends.Closed why same = all_read why.1.all
    by_end (ends.Cut left) why same = all_read why.1.all
    by_end ends.LinkFault why same = absurd (sound why)
    by_end ends.NoMemory why same = absurd (ample (sym same))
    by_end ends.Asked why same = after_reply ends.Asked why
    by_end ends.BadHead why same = after_reply ends.BadHead why
    by_end ends.HeadTooLong why same = after_reply ends.HeadTooLong why
    by_end ends.BodyNotTaken why same = after_reply ends.BodyNotTaken why
    by_end ends.RequestLimit why same = after_reply ends.RequestLimit why

    by_stop : (stop : Stop) → StopsBy call stop → stop ≡ call.stop → index < length call.trail
    by_stop stops.Enough why same = omega (arith, below, why.all)
    by_stop (stops.Ended end) why same = by_end end why.1 same

pub all-answered-for : (call : ManyCall) → ServedMany call → ¬ (HasFailed (call_in call 0))
    → call.stop ≢ stops.Ended ends.NoMemory → (index : ℕ) (item : Item) → index < call.most
    → slice_get (all_items call) index ≡ Some item → GoesOnBefore (call_in call 0) index
    → IsAnsweredFor call index item
all-answered-for call served sound ample index item below is goes =
    let there : index < length call.trail =
    reached (call_in call 0) sound ample index item below is goes call.stop served.stops refl in
    ⊎_elim (λ found. record {
      mark = found.0;
      mark_is = found.2;
      whole = whole-for call served sound index found.0 item found.2 is;
    }) (λ past. absurd (omega (arith, there, past.0))) (slice_get_cases call.trail index).1

-- ---- over one collection

pub whole-unless : (call : LinkCall) → Served call → ¬ (HasFailed call) → (index : ℕ) (mark : Mark) (item : Item)
    → slice_get call.trail index ≡ Some mark → slice_get (items_of call) index ≡ Some item
    → mark.sent ≡ length (marked_reply call.proto call.seen_after mark item (number_at call index))
whole-unless call served = whole-for (as_many call) ((one-of-many call).0 served)

pub all-answered : (call : LinkCall) → Served call → ¬ (HasFailed call) → call.stop ≢ stops.Ended ends.NoMemory
    → (index : ℕ) (item : Item) → index < call.most → slice_get (items_of call) index ≡ Some item
    → GoesOnBefore call index → IsAnswered call index item
all-answered call served sound ample index item below is goes =
    let a = all-answered-for (as_many call) ((one-of-many call).0 served) sound ample index item below is goes in
    record { mark = a.mark; mark_is = a.mark_is; whole = a.whole }

pub ruleset laws = (whole-unless, all-answered, whole-for, all-answered-for)
