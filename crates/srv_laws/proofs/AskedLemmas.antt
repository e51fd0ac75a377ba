-- The outcome of an ask whose requests are there.
use Rattle.std.proofs.Common.{◌≡◌, ◌⊎◌, inl, inr, ◌<◌, ℕ, ◌+◌, List, [], ◌++◌, length, true, false, Some, sym, ap, subst, ◌∙◌, arith}
use Rattle.std.specs.Prelude.{is_some, slice_get}
use Rattle.dev_traits.specs.Link.{Wire}
use Rattle.dev_traits.specs.Shown.{LinkShown}
use Rattle.web_frame.specs.declared.frame.Next.{Next}
use Rattle.web_frame.specs.declared.frame.Next.TheVariants as next
use Rattle.web_frame.specs.Items.{heads_of, Item, ReadsTo}
use Rattle.web_frame.specs.Stream.{next_of}
use Rattle.web_session.specs.declared.action.End.{End as LinkEnd}
use Rattle.web_session.specs.declared.action.End.TheVariants as ends
use Rattle.web_session.specs.declared.phase.Phase.TheVariants.{Ended}
use Rattle.web_session.specs.State.{phase_after, State}
use Rattle.dap_reply.specs.declared.served.Stop.{Stop}
use Rattle.dap_reply.specs.declared.served.Stop.TheVariants as stops
use Rattle.dap_reply.specs.Reply.{is_last}
use Rattle.dap_reply.specs.Served.{held_bytes, input_of, items_of, EndsAfterReply, EndsBy, HasEnough, IsAtRest, LinkCall, Served, StopsBy}
use Rattle.dap_reply.proofs.ServedLemmas.{last-ends}
use Rattle.srv_alone.specs.declared.end.End.TheVariants.{InputEnded}
use Rattle.srv_alone.specs.Steps.{end_of_stop, HasEnded}
use Rattle.srv_laws.specs.WellFormed.{GoesOnAfter, HasRequests}
use Rattle.srv_laws.proofs.RequestLemmas.{Reads, Reads-all, Reads-there}

-- a connection goes on, whose input was read as far as this many replies
pub record IsOpen (input : List ℕ) (before : ℕ) (link : LinkShown) (session : State) : Type 0 where
  pub so_far : List ℕ
  pub wire : Wire
  pub wire_is : link.held ≡ Some wire
  pub input_is : input ≡ so_far ++ wire.left
  pub done : List Item
  pub reads : ReadsTo so_far done (held_bytes session)
  pub count : length done ≡ before
  pub counted : session.before ≡ before
  pub rests : IsAtRest session

-- a reply before this many was a connection's last
pub record HasLast (input : List ℕ) (before : ℕ) : Type 0 where
  pub index : ℕ
  pub item : Item
  pub below : index < before
  pub item_is : slice_get (heads_of input).items index ≡ Some item
  pub last_is : is_last item (index + 1) ≡ true

-- a connection that goes on after these replies had no last one
pub no-last : {input : List ℕ} {before : ℕ} → HasLast input before → GoesOnAfter input before → ⊥
no-last last goes_on =
    let goes : is_last last.item (last.index + 1) ≡ false = goes_on last.index last.item last.below last.item_is in
    apart (sym last.last_is ∙ goes)
  where
    apart : true ≡ false → ⊥
    apart same = cc

-- a session that rests has not ended
pub rests-goes_on : (session : State) → IsAtRest session → HasEnded session → ⊥
rests-goes_on session rests ended =
    by_next (next_of (held_bytes session)) (sym (ap (λ (s : State). s.phase) rests.session_is) ∙ ended.1)
  where
    by_next : (next : Next) → phase_after next ≡ Ended ended.0 → ⊥
    by_next next.Need is = cc
    by_next (next.Head r) is = cc
    by_next next.BadHead is = cc
    by_next next.HeadTooLong is = cc

-- ---- what a call that serves the link found

-- a call that serves a link, after this many replies, found the next of the input
pub record Finds (input : List ℕ) (before : ℕ) (call : LinkCall) : Type 0 where
  pub reads : Reads input before (input_of call)
  pub over : call.over ≡ true → reads.later ≡ []
  pub counted : call.session.before ≡ before
  pub served : Served call

-- the reply after which a connection ended
ended-last : {input : List ℕ} {before : ℕ} (call : LinkCall) (end : LinkEnd) → Finds input before call
    → EndsAfterReply call end → HasLast input (before + length call.trail)
ended-last {input} {before} call end finds after = record {
  index = before + after.index;
  item = after.item;
  below = omega (arith, after.index_is);
  item_is = Reads-there after.index after.item finds.reads after.item_is;
  last_is = ap (λ (n : ℕ). is_last after.item (n + after.index + 1)) (sym finds.counted)
      ∙ last-ends after.item (call.session.before + after.index) ∙ ap is_some after.end_is;
}

-- where the link stopped short of its replies, no request was left for them
pub short-lacks : {input : List ℕ} {before : ℕ} (call : LinkCall) (stop : Stop) → Finds input before call
    → StopsBy call stop → length call.trail < call.most → HasRequests input before call.most
    → end_of_stop stop ≡ InputEnded → ⊥
unfolding StopsBy EndsBy
short-lacks {input} {before} call stop finds why short has calm = by_stop stop why calm
  where
    by_last : HasLast input (before + length call.trail) → ⊥
    by_last last = no-last last
        (λ index item below is. has.goes_on index item (omega (arith, below, short)) is)

    by_input : call.over ≡ true → length call.trail ≡ length (items_of call) → ⊥
    by_input over all = omega (arith, Reads-all finds.reads (finds.over over), all, short, has.enough)

    by_stop : (stop : Stop) → StopsBy call stop → end_of_stop stop ≡ InputEnded → ⊥
    by_stop stops.Enough why calm = omega (arith, why.all, short)
    by_stop (stops.Ended ends.Closed) why calm = by_input why.1.0 why.1.1.all
    by_stop (stops.Ended (ends.Cut left)) why calm = by_input why.1.0 why.1.1.all
    by_stop (stops.Ended ends.LinkFault) why calm = cc
    by_stop (stops.Ended ends.NoMemory) why calm = cc
    by_stop (stops.Ended ends.Asked) why calm = by_last (ended-last call ends.Asked finds why.1)
    by_stop (stops.Ended ends.BadHead) why calm = by_last (ended-last call ends.BadHead finds why.1)
    by_stop (stops.Ended ends.HeadTooLong) why calm = by_last (ended-last call ends.HeadTooLong finds why.1)
    by_stop (stops.Ended ends.BodyNotTaken) why calm = by_last (ended-last call ends.BodyNotTaken finds why.1)
    by_stop (stops.Ended ends.RequestLimit) why calm = by_last (ended-last call ends.RequestLimit finds why.1)

-- where all replies were written, there were as many as were asked for, or a connection's last
pub whole-goes : {input : List ℕ} {before : ℕ} (call : LinkCall) (stop : Stop) → Finds input before call
    → StopsBy call stop → length call.trail ≡ call.most → end_of_stop stop ≡ InputEnded
    → HasEnough call ⊎ HasLast input (before + call.most)
unfolding StopsBy EndsBy
whole-goes {input} {before} call stop finds why all calm = by_stop stop why calm
  where
    by_last : (end : LinkEnd) → EndsAfterReply call end → HasEnough call ⊎ HasLast input (before + call.most)
    by_last end after =
        inr (subst (λ (n : ℕ). HasLast input (before + n)) all (ended-last call end finds after))

    by_stop : (stop : Stop) → StopsBy call stop → end_of_stop stop ≡ InputEnded
        → HasEnough call ⊎ HasLast input (before + call.most)
    by_stop stops.Enough why calm = inl why
    by_stop (stops.Ended ends.Closed) why calm = absurd (omega (arith, why.1.1.more, all))
    by_stop (stops.Ended (ends.Cut left)) why calm = absurd (omega (arith, why.1.1.more, all))
    by_stop (stops.Ended ends.LinkFault) why calm = absurd cc
    by_stop (stops.Ended ends.NoMemory) why calm = absurd cc
    by_stop (stops.Ended ends.Asked) why calm = by_last ends.Asked why.1
    by_stop (stops.Ended ends.BadHead) why calm = by_last ends.BadHead why.1
    by_stop (stops.Ended ends.HeadTooLong) why calm = by_last ends.HeadTooLong why.1
    by_stop (stops.Ended ends.BodyNotTaken) why calm = by_last ends.BodyNotTaken why.1
    by_stop (stops.Ended ends.RequestLimit) why calm = by_last ends.RequestLimit why.1
