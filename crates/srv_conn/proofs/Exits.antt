-- A link is served where enough replies were written, or where it ends while it is read from.
use Rattle.std.proofs.Common.{◌≡◌, ◌<◌, ⊎_elim, ℕ, ◌+◌, List, [], ◌++◌, length, take, drop, Bool, true, false, cond, Some, refl, sym, ap, subst, ◌∙◌, append-nil, arith}
use Rattle.std.specs.Prelude.{slice_get}
use Rattle.std.proofs.lemmas.Option.{slice_get_within}
use Rattle.dev_traits.specs.Cause.{one_more}
use Rattle.dev_traits.specs.Shown.{LinkShown}
use Rattle.web_frame.specs.Items.{bytes_after, heads_of, Heads, Item, ReadsTo}
use Rattle.web_frame.proofs.LeftLemmas.{left-is}
use Rattle.web_session.specs.declared.action.End.{End}
use Rattle.web_session.specs.declared.action.End.TheVariants as ends
use Rattle.web_session.specs.State.{end_of_input, State}
use Rattle.web_session.proofs.LookLemmas.{first_read}
use Rattle.dap_reply.specs.declared.served.Stop.TheVariants as stops
use Rattle.dap_reply.specs.Collections.{Collections}
use Rattle.dap_reply.specs.Reply.{is_last}
use Rattle.dap_reply.specs.Served.{held_bytes, number_at, AnswersAll, EndsBy, HasFailed, StopsBy}
use Rattle.dap_reply.specs.ServedMany.{all_items, call_in, ManyCall}
use Rattle.dev_traits.specs.Moved.{IsOver}
use Rattle.srv_conn.specs.ServesMany.{many_call, Point, ServesMany}
use Rattle.srv_conn.specs.Turn.{FindsNone}
use Rattle.srv_conn.proofs.EachLemmas.{Each-item, Each-map}
use Rattle.srv_conn.proofs.HeadLemmas.{none-left, rest_of}
use Rattle.srv_conn.proofs.Ran.{moves_of, no-farewell, no_more, serves-so, Ran-begun}
use Rattle.srv_conn.proofs.ServedParts.{ended-of, ends-input, failed, front-at, Answered}
use Rattle.srv_conn.specs.SoFar.{Begun, Each, GoesOn, Serving}
use Rattle.srv_conn.proofs.Serving.{reads-more, with_taken, Begun-takes}
use Rattle.srv_action.proofs.SessionLemmas.{rests-at, waiting-cut}

-- no reply that goes on is a connection's last
pub goes-on-at : (call : ManyCall) (done others : List Item) → all_items call ≡ done ++ others
    → length call.trail ≡ length done
    → Each (GoesOn call.them call.after.seen) call.trail done (call.session.before + 1)
    → (index : ℕ) (item : Item) → index < length call.trail → slice_get (all_items call) index ≡ Some item
    → is_last item (number_at (call_in call 0) index) ≡ false
goes-on-at call done others items count each index item below is =
    let here : slice_get done index ≡ Some item = front-at done others index item (omega (arith, count, below))
    (ap (λ (l : List Item). slice_get l index) (sym items) ∙ is) in
    let number : call.session.before + 1 + index ≡ number_at (call_in call 0) index = omega arith in
    subst (λ (n : ℕ). is_last item n ≡ false) number
    (Each-item (λ n i. is_last i n ≡ false) call.trail done (call.session.before + 1) index item count
    (Each-map (GoesOn call.them call.after.seen) (λ n _ i. is_last i n ≡ false) call.trail done
    (call.session.before + 1) (λ n mark i goes. goes.2) each) here)

-- ---- enough

pub serves-enough : (them : Collections) (start now : Point) (most : ℕ) → Serving them start now
    → length now.trail ≡ most → ServesMany them start now most stops.Enough
unfolding StopsBy
serves-enough them start now most s all =
    serves-so them start now s.taken s.written [] no_more false most stops.Enough s.done others
    (Ran-begun them start now s.taken s.written s.done s.begun)
    (record {
      items_are = items;
      count = s.begun.count;
      few = omega (arith, all);
      each = ended-of call now.trail s.done (start.session.before + 1) s.each;
    })
    (no-farewell call (λ is. absurd (cc)))
    (record {
      all = all;
      goes_on = goes-on-at call s.done others items s.begun.count s.each;
      rests = rests-at now.session (held_bytes now.session) (start.session.before + length s.done) s.session_is;
      held_is = left-is s.leaves
          ∙ ap (λ (n : ℕ). bytes_after n (held_bytes start.session ++ s.taken)) (sym counted);
      left = subst (λ (l : List Item). ReadsTo (held_bytes start.session ++ s.taken) l (held_bytes now.session))
          (sym (ap (λ (n : ℕ). take n (all_items call)) counted ∙ first_read s.reads)) s.reads;
      counted = ap (λ (x : State). x.before) s.session_is ∙ ap (λ (n : ℕ). start.session.before + n) (sym counted);
    })
    (λ over. absurd (cc))
    (λ _ _. s.faults_are)
  where
    call : ManyCall
    call = many_call them start now (moves_of s.taken (s.written ++ []) false) most stops.Enough

    others : List Item
    others = drop (length s.done) (all_items call)

    items : all_items call ≡ s.done ++ others
    items = rest_of s.done (all_items call) (first_read s.reads)

    counted : most ≡ length s.done
    counted = sym all ∙ s.begun.count

-- ---- no more requests

-- memory that runs out ends no input
not-short : (left : List ℕ) → end_of_input left ≡ ends.NoMemory → ⊥
unfolding end_of_input
not-short left is = by_test _ _ is
  where
    by_test : (none : Bool) (count : ℕ) → cond none ends.Closed (ends.Cut count) ≡ ends.NoMemory → ⊥
    by_test true count same = cc
    by_test false count same = cc

-- the session has ended where reading ended
pub serves-none : (them : Collections) (start now : Point) (link : LinkShown) (session : State) (most : ℕ)
    (end : End) → Serving them start now → length now.trail < most
    → FindsNone now.link link now.session session end
    → ServesMany them start (with_taken now link session) most (stops.Ended end)
unfolding StopsBy EndsBy
serves-none them start now link session most end s more f = ⊎_elim at_fault at_end f.why
  where
    after : Point
    after = with_taken now link session

    taken : List ℕ
    taken = s.taken ++ f.taken

    call : Bool → ManyCall
    call over = many_call them start after (moves_of taken (s.written ++ []) over) most (stops.Ended end)

    left : List ℕ
    left = held_bytes now.session ++ f.taken

    heads : heads_of (held_bytes start.session ++ taken) ≡ record { items = s.done; rest = left }
    heads = none-left (held_bytes start.session ++ taken) left s.done
        (reads-more start.session now.session s.taken f.taken s.done s.reads) (waiting-cut left f.waiting)

    items : (over : Bool) → all_items (call over) ≡ s.done ++ []
    items over = ap (λ (h : Heads). h.items) heads ∙ sym (append-nil s.done)

    answered : (over : Bool) → Answered (call over) s.done []
    answered over = record {
      items_are = items over;
      count = s.begun.count;
      few = omega (arith, more);
      each = ended-of (call over) now.trail s.done (start.session.before + 1) s.each;
    }

    ran : Begun them start after taken s.written s.done
    ran = Begun-takes them start now link session s.taken f.taken s.written s.done s.begun f.moved_is f.next

    at_fault : (end ≡ ends.LinkFault) × (link.faults ≡ one_more now.link.faults)
        → ServesMany them start after most (stops.Ended end)
    at_fault why =
        let has : HasFailed (call_in (call false) 0) =
        failed (call_in (call false) 0) (why.1 ∙ ap one_more s.faults_are) in
        serves-so them start after taken s.written [] no_more false most (stops.Ended end) s.done []
        (Ran-begun them start after taken s.written s.done ran) (answered false)
        (no-farewell (call false) (λ _. has))
        (f.ended, subst (EndsBy (call_in (call false) 0)) (sym why.0) has)
        (λ over. absurd (cc))
        (λ no _. absurd (no (ap stops.Ended why.0)))

    at_end : (end ≡ end_of_input left) × (link.faults ≡ now.link.faults) × IsOver link.held
        → ServesMany them start after most (stops.Ended end)
    at_end why =
        let every : length now.trail ≡ length (all_items (call true)) =
        s.begun.count ∙ ap length (sym (ap (λ (h : Heads). h.items) heads)) in
        let all : AnswersAll (call_in (call true) 0) = record {
          all = every;
          more = more;
          goes_on = λ index item is.
              goes-on-at (call true) s.done [] (items true) s.begun.count s.each index item
              (omega (arith, every, slice_get_within (all_items (call true)) index item is)) is;
        } in
        let rest : (heads_of (held_bytes start.session ++ taken)).rest ≡ left = ap (λ (h : Heads). h.rest) heads in
        serves-so them start after taken s.written [] no_more true most (stops.Ended end) s.done []
        (Ran-begun them start after taken s.written s.done ran) (answered true)
        (no-farewell (call true) (λ is. let same : end ≡ ends.NoMemory = cc in
        absurd (not-short left (sym why.0 ∙ same)))) (
          f.ended,
          subst (EndsBy (call_in (call true) 0)) (sym why.0)
              (ends-input (call_in (call true) 0) left (refl, all, ap end_of_input (sym rest))),
        )
        (λ _. why.2)
        (λ _ _. why.1 ∙ s.faults_are)
