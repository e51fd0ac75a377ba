-- The parts of a served link, by the items to which replies were begun.
use Rattle.std.proofs.Common.{◌≡◌, ◌<◌, ◌≤◌, ◌⊎◌, inl, inr, zero, suc, ℕ, ◌+◌, List, [], ◌∷◌, ◌++◌, length, Bool, true, false, cond, Some, None, sym, ap, subst, ◌∙◌, arith, length-append}
use Rattle.std.specs.Prelude.{slice_get}
use Rattle.std.proofs.lemmas.Option.{none-some, same_Some, slice_get_within}
use Rattle.dev_traits.specs.Cause.{one_more}
use Rattle.web_frame.specs.Items.{Item}
use Rattle.web_session.specs.declared.action.Asked.{Asked}
use Rattle.web_session.specs.declared.action.Asked.TheVariants as says
use Rattle.web_session.specs.declared.action.End.{End}
use Rattle.web_session.specs.declared.action.End.TheVariants as ends
use Rattle.web_session.specs.State.{end_after, end_of_input}
use Rattle.dap_reply.specs.declared.served.Mark.{Mark}
use Rattle.dap_reply.specs.declared.served.Stop.TheVariants as stops
use Rattle.dap_reply.specs.Reply.{is_last}
use Rattle.dap_reply.specs.Served.{number_at, AnswersInOrder, EndsAfterReply, EndsBy, HasFailed, InputEnds, LinkCall}
use Rattle.dap_reply.specs.ServedMany.{all_items, call_in, reply_for, IsWholeOrCutFor, ManyCall}
use Rattle.srv_conn.proofs.EachLemmas.{Each-at, Each-item, Each-map}
use Rattle.srv_conn.specs.SoFar.{Each, GoesOn}

-- an item at an index within a front
pub front-at : (done others : List Item) (index : ℕ) (item : Item) → index < length done
    → slice_get (done ++ others) index ≡ Some item → slice_get done index ≡ Some item
front-at [] others index item below is = absurd (omega arith)
front-at (i ∷ done) others zero item below is = is
front-at (i ∷ done) others (suc index) item below is = front-at done others index item (omega arith) is

-- a reply is whole, or the last one where the link failed
abbrev pub WholeOrCut : ManyCall → ℕ → Mark → Item → Type 0
WholeOrCut call number mark item =
    (mark.sent ≡ length (reply_for call.them call.after.seen mark item number))
    ⊎ ((call.stop ≡ stops.Ended ends.LinkFault) × (number ≡ call.session.before + length call.trail)
    × (mark.sent ≤ length (reply_for call.them call.after.seen mark item number)))

-- a reply that isn't the last one is no connection's last
abbrev pub LastAtEnd : ManyCall → ℕ → Item → Type 0
LastAtEnd call number item = number < call.session.before + length call.trail → is_last item number ≡ false

-- what holds of each reply at the end
abbrev pub Ended : ManyCall → ℕ → Mark → Item → Type 0
Ended call number mark item = WholeOrCut call number mark item × LastAtEnd call number item

-- replies were begun to the first items
pub record Answered (call : ManyCall) (done others : List Item) : Type 0 where
  pub items_are : all_items call ≡ done ++ others
  pub count : length call.trail ≡ length done
  pub few : length call.trail ≤ call.most
  pub each : Each (Ended call) call.trail done (call.session.before + 1)

-- replies that go on are so
pub ended-of : (call : ManyCall) (marks : List Mark) (items : List Item) (number : ℕ)
    → Each (GoesOn call.them call.after.seen) marks items number → Each (Ended call) marks items number
ended-of call marks items number each =
    Each-map (GoesOn call.them call.after.seen) (Ended call) marks items number
    (λ n mark item goes. (inl goes.1, λ _. goes.2)) each

pub answers-part : (call : ManyCall) (done others : List Item) → Answered call done others
    → AnswersInOrder (call_in call 0)
answers-part call done others a = record {
  few = a.few;
  read = subst (λ (l : List Item). length call.trail ≤ length l) (sym a.items_are)
      (omega (arith, a.count, length-append done others));
  goes_on = λ index item below is.
      let here : slice_get done index ≡ Some item = front-at done others index item (omega (arith, a.count))
      (ap (λ (l : List Item). slice_get l index) (sym a.items_are) ∙ is) in
      let number : call.session.before + 1 + index ≡ number_at (call_in call 0) index = omega arith in
      subst (λ (n : ℕ). is_last item n ≡ false) number
      (Each-item (LastAtEnd call) call.trail done (call.session.before + 1) index item a.count
      (Each-map (Ended call) (λ n _ i. LastAtEnd call n i) call.trail done (call.session.before + 1)
      (λ n mark i holds. holds.1) a.each) here (omega (arith, below)));
}

pub whole-part : (call : ManyCall) (done others : List Item) → Answered call done others
    → (index : ℕ) (mark : Mark) (item : Item) → slice_get call.trail index ≡ Some mark
    → slice_get (all_items call) index ≡ Some item → IsWholeOrCutFor call index mark item
whole-part call done others a index mark item there is =
    by_case (subst (λ (n : ℕ). WholeOrCut call n mark item) number
    (Each-at (Ended call) call.trail done (call.session.before + 1) index mark item a.each there here).0)
  where
    below : index < length call.trail
    below = slice_get_within call.trail index mark there

    here : slice_get done index ≡ Some item
    here = front-at done others index item (omega (arith, below, a.count))
        (ap (λ (l : List Item). slice_get l index) (sym a.items_are) ∙ is)

    number : call.session.before + 1 + index ≡ number_at (call_in call 0) index
    number = omega arith

    by_case : WholeOrCut call (number_at (call_in call 0) index) mark item → IsWholeOrCutFor call index mark item
    by_case (inl whole) = inl whole
    by_case (inr cut) = inr (cut.0, omega (arith, cut.1), cut.2)

-- ---- why it ended

-- a link whose input is over ends as its last bytes say
pub ends-input : (call : LinkCall) (left : List ℕ) → InputEnds call (end_of_input left)
    → EndsBy call (end_of_input left)
unfolding EndsBy end_of_input
ends-input call left is = by_test _ _ is
  where
    by_test : (none : Bool) (count : ℕ) → InputEnds call (cond none ends.Closed (ends.Cut count))
        → EndsBy call (cond none ends.Closed (ends.Cut count))
    by_test true count is = is
    by_test false count is = is

-- a link that ends after a reply ends as the reply says
pub ends-reply : (call : LinkCall) (asked : Asked) (before : ℕ) (end : End) → end_after asked before ≡ Some end
    → EndsAfterReply call end → EndsBy call end
unfolding EndsBy
ends-reply call says.BadHead before end is after =
    subst (λ (e : End). EndsAfterReply call e → EndsBy call e) (same_Some ends.BadHead end is) (λ a. a) after
ends-reply call says.HeadTooLong before end is after =
    subst (λ (e : End). EndsAfterReply call e → EndsBy call e) (same_Some ends.HeadTooLong end is) (λ a. a) after
ends-reply call (says.Head r) before end is after = by_tests r.close r.has_body _ is
  where
    by_tests : (close body limit : Bool) → cond close (Some ends.Asked) (cond body (Some ends.BodyNotTaken)
        (cond limit (Some ends.RequestLimit) None)) ≡ Some end → EndsBy call end
    by_tests true body limit same =
        subst (λ (e : End). EndsAfterReply call e → EndsBy call e) (same_Some ends.Asked end same) (λ a. a) after
    by_tests false true limit same =
        subst (λ (e : End). EndsAfterReply call e → EndsBy call e) (same_Some ends.BodyNotTaken end same) (λ a. a) after
    by_tests false false true same =
        subst (λ (e : End). EndsAfterReply call e → EndsBy call e) (same_Some ends.RequestLimit end same) (λ a. a) after
    by_tests false false false same = absurd (none-some end same)

-- a count that stands one higher shows that a call failed
pub failed : (call : LinkCall) → call.faults_after ≡ one_more call.faults → HasFailed call
failed call is = omega (arith, is)
