-- A link is served where it ends with a reply, whole or cut.
use Rattle.std.proofs.Common.{◌≡◌, ◌≢◌, ◌<◌, inl, inr, ℕ, ◌+◌, List, [], ◌∷◌, ◌++◌, length, take, drop, Bool, true, false, cond, Option, Some, None, refl, sym, ap, subst, ◌∙◌, arith, length-append}
use Rattle.std.specs.Prelude.{slice_get}
use Rattle.std.proofs.lemmas.Option.{same_Some}
use Rattle.dev_traits.specs.Cause.{one_more}
use Rattle.web_frame.specs.Items.{Item}
use Rattle.web_session.specs.declared.action.Asked.{Asked}
use Rattle.web_session.specs.declared.action.Asked.TheVariants as says
use Rattle.web_session.specs.declared.action.End.{End}
use Rattle.web_session.specs.declared.action.End.TheVariants as ends
use Rattle.web_session.specs.declared.phase.Phase.TheVariants.{Asking, Ended as Over}
use Rattle.web_session.specs.State.{end_after, replied, replied_by, State}
use Rattle.dap_reply.specs.declared.served.Mark.{Mark}
use Rattle.dap_reply.specs.declared.served.Stop.{Stop}
use Rattle.dap_reply.specs.declared.served.Stop.TheVariants as stops
use Rattle.dap_reply.specs.Collections.{Collections}
use Rattle.dap_reply.specs.Served.{EndsBy, StopsBy}
use Rattle.dap_reply.specs.ServedMany.{all_items, call_in, ManyCall}
use Rattle.srv_conn.specs.Serves.{IsCalm}
use Rattle.srv_conn.specs.ServesMany.{many_call, Point, ServesMany}
use Rattle.srv_conn.specs.Turn.{item_of_turn, reply_of_turn, IsCut, IsWhole, IsBegun}
use Rattle.srv_conn.proofs.EachLemmas.{Each-append}
use Rattle.srv_conn.proofs.GoingOn.{asked-back, asked-now}
use Rattle.srv_conn.proofs.HeadLemmas.{rest_of}
use Rattle.srv_conn.proofs.Ran.{moves_of, no-farewell, no_more, serves-so, Ran-begun}
use Rattle.srv_conn.proofs.ServedParts.{ended-of, ends-reply, failed, Ended, WholeOrCut}
use Rattle.srv_conn.specs.SoFar.{Begun, Each, Serving}
use Rattle.srv_conn.proofs.Serving.{begun-grows, each-later, Begun-replies}

-- the item at the seam
seam : (done : List Item) (item : Item) (others : List Item) (index : ℕ) → index ≡ length done
    → slice_get ((done ++ item ∷ []) ++ others) index ≡ Some item
seam done item others index is =
    ap (slice_get ((done ++ item ∷ []) ++ others)) is ∙ at_seam done item others
  where
    at_seam : (front : List Item) (here : Item) (back : List Item)
        → slice_get ((front ++ here ∷ []) ++ back) (length front) ≡ Some here
    at_seam [] here back = refl
    at_seam (i ∷ front) here back = at_seam front here back

-- the call that stops with the reply of a mark
abbrev last_call : (them : Collections) (start now after : Point) (asked : Asked) (most : ℕ) (stop : Stop)
    (mark : Mark) → Serving them start now → ManyCall
last_call them start now after asked most stop mark s = many_call them start after (moves_of s.taken
    ((s.written ++ take mark.sent (reply_of_turn them now after asked mark)) ++ []) false) most stop

-- the reply that was begun last, whole or cut
record Last (them : Collections) (start now after : Point) (asked : Asked) (most : ℕ) (stop : Stop)
    (mark : Mark) (s : Serving them start now) : Type 0 where
  replies : IsBegun them now after asked mark
  asking : now.session.phase ≡ Asking asked
  few : length now.trail < most
  last : WholeOrCut (last_call them start now after asked most stop mark s)
      (now.session.before + 1) mark (item_of_turn now asked)

serves-last : (them : Collections) (start now after : Point) (asked : Asked) (most : ℕ) (stop : Stop)
    (mark : Mark) (s : Serving them start now) → Last them start now after asked most stop mark s
    → stop ≢ stops.Ended ends.NoMemory
    → ((others : List Item) → all_items (last_call them start now after asked most stop mark s)
    ≡ (s.done ++ item_of_turn now asked ∷ []) ++ others
    → StopsBy (call_in (last_call them start now after asked most stop mark s) 0) stop)
    → IsCalm start.link after.link stop
    → ServesMany them start after most stop
serves-last them start now after asked most stop mark s l ample why calm =
    serves-so them start after s.taken written [] no_more false most stop done others
    (Ran-begun them start after s.taken written done begun)
    (record {
      items_are = items;
      count = begun.count;
      few = omega (arith, l.few, longer);
      each = subst (λ (marks : List Mark). Each (Ended call) marks done (start.session.before + 1))
          (sym l.replies.trail_is)
          (Each-append (Ended call) now.trail (mark ∷ []) s.done (item ∷ []) (start.session.before + 1) s.begun.count
          (ended-of call now.trail s.done (start.session.before + 1)
          (each-later them now.views.seen after.views.seen now.trail s.done (start.session.before + 1)
          (begun-grows them now after asked mark l.replies) s.each)) (
            (
              subst (λ (n : ℕ). WholeOrCut call n mark item) number l.last,
              λ below. absurd (omega (arith, below, longer)),
            ),
            tt,
          ));
    })
    (no-farewell call (λ is. absurd (ample is)))
    (why others items)
    (λ over. absurd (cc))
    calm
  where
    item : Item
    item = item_of_turn now asked

    written : List ℕ
    written = s.written ++ take mark.sent (reply_of_turn them now after asked mark)

    done : List Item
    done = s.done ++ item ∷ []

    begun : Begun them start after s.taken written done
    begun = Begun-replies them start now after asked mark s l.replies

    call : ManyCall
    call = many_call them start after (moves_of s.taken (written ++ []) false) most stop

    others : List Item
    others = drop (length done) (all_items call)

    items : all_items call ≡ done ++ others
    items = rest_of done (all_items call) (asked-now them start now asked s l.asking)

    longer : length after.trail ≡ length now.trail + 1
    longer = ap length l.replies.trail_is ∙ length-append now.trail (mark ∷ [])

    number : now.session.before + 1 ≡ start.session.before + 1 + length now.trail
    number = omega (arith, ap (λ (x : State). x.before) s.session_is, s.begun.count)

-- a connection that ends after a reply says so
ends-on : (s : State) (asked : Asked) (end : End) → Some end ≡ end_after asked s.before
    → (replied s asked).phase ≡ Over end
unfolding replied
ends-on s asked end is = ap (λ (e : Option End). (replied_by e s).phase) (sym is)

-- memory that runs out ends no reply
not-short : (asked : Asked) (before : ℕ) → Some ends.NoMemory ≡ end_after asked before → ⊥
not-short says.BadHead before is = cc
not-short says.HeadTooLong before is = cc
not-short (says.Head r) before is = by_tests r.close r.has_body _ is
  where
    by_tests : (close body limit : Bool) → Some ends.NoMemory ≡ cond close (Some ends.Asked)
        (cond body (Some ends.BodyNotTaken) (cond limit (Some ends.RequestLimit) None)) → ⊥
    by_tests true body limit same = cc
    by_tests false true limit same = cc
    by_tests false false true same = cc
    by_tests false false false same = cc

pub serves-whole : (them : Collections) (start now after : Point) (asked : Asked) (most : ℕ) (end : End)
    → Serving them start now → length now.trail < most → now.session.phase ≡ Asking asked
    → IsWhole them now after asked (Some end) → ServesMany them start after most (stops.Ended end)
unfolding StopsBy
serves-whole them start now after asked most end s few asking w =
    serves-last them start now after asked most (stops.Ended end) w.mark s (record {
      replies = w.replies;
      asking = asking;
      few = few;
      last = inl w.whole;
    })
    (λ is. let same : end ≡ ends.NoMemory = cc in
    not-short asked now.session.before (ap Some (sym same) ∙ w.end_is))
    (λ others items. (
      ap (λ (x : State). x.phase) w.session_is ∙ ends-on now.session asked end w.end_is,
      ends-reply _ asked now.session.before end (sym w.end_is) (record {
        index = length now.trail;
        item = item_of_turn now asked;
        index_is = sym (ap length w.replies.trail_is ∙ length-append now.trail (w.mark ∷ []));
        item_is = ap (λ (l : List Item). slice_get l (length now.trail)) items
            ∙ seam s.done (item_of_turn now asked) others (length now.trail) s.begun.count;
        end_is = ap (λ (a : Asked). end_after a (start.session.before + length now.trail))
            (asked-back asked now.session.held) ∙ ap (end_after asked) number ∙ sym w.end_is;
      }),
    ))
    (λ _ _. w.faults_are ∙ s.faults_are)
  where
    number : start.session.before + length now.trail ≡ now.session.before
    number = omega (arith, ap (λ (x : State). x.before) s.session_is, s.begun.count)

pub serves-cut : (them : Collections) (start now after : Point) (asked : Asked) (most : ℕ) (end : End)
    → Serving them start now → length now.trail < most → now.session.phase ≡ Asking asked
    → IsCut them now after asked (Some end) → ServesMany them start after most (stops.Ended end)
unfolding StopsBy EndsBy
serves-cut them start now after asked most end s few asking w =
    subst (λ (e : End). ServesMany them start after most (stops.Ended e))
    (same_Some ends.LinkFault end (sym w.end_is))
    (serves-last them start now after asked most (stops.Ended ends.LinkFault) w.mark s (record {
      replies = w.replies;
      asking = asking;
      few = few;
      last = inr (refl, number, w.cut);
    })
    (λ is. cc)
    (λ others items. (w.ended, failed (call_in call 0) (w.faults_are ∙ ap one_more s.faults_are)))
    (λ no _. absurd (no refl)))
  where
    call : ManyCall
    call = many_call them start after
        (moves_of s.taken ((s.written ++ take w.mark.sent (reply_of_turn them now after asked w.mark)) ++ [])
        false) most (stops.Ended ends.LinkFault)

    number : now.session.before + 1 ≡ start.session.before + length after.trail
    number = omega (
      arith,
      ap (λ (x : State). x.before) s.session_is,
      s.begun.count,
      ap length w.replies.trail_is,
      length-append now.trail (w.mark ∷ []),
    )
