-- A link is served where memory runs out.
use Rattle.std.proofs.Common.{◌≡◌, ◌<◌, ◌⊎◌, inl, inr, ⊎_elim, ℕ, ◌+◌, List, [], ◌∷◌, ◌++◌, length, take, drop, Bool, false, Option, Some, refl, sym, ap, subst, ◌∙◌, append-nil, length-append, arith}
use Rattle.std.proofs.lemmas.List.{take_all, length-take}
use Rattle.std.proofs.lemmas.Option.{same_Some}
use Rattle.pub_look.specs.History.{Continues}
use Rattle.pub_look.proofs.HistoryLemmas.{continues_length}
use Rattle.dev_traits.specs.Cause.{one_more}
use Rattle.dev_traits.specs.Link.{after_put}
use Rattle.web_frame.specs.Items.{Item}
use Rattle.web_session.specs.declared.action.Asked.{Asked}
use Rattle.web_session.specs.declared.action.End.{End}
use Rattle.web_session.specs.declared.action.End.TheVariants as ends
use Rattle.web_session.specs.declared.phase.Phase.TheVariants.{Asking}
use Rattle.web_session.proofs.LookLemmas.{first_read}
use Rattle.dap_reply.specs.declared.served.Mark.{Mark}
use Rattle.dap_reply.specs.declared.served.Stop.TheVariants as stops
use Rattle.dap_reply.specs.Collections.{Collections}
use Rattle.dap_reply.specs.Head.{no_memory_reply}
use Rattle.dap_reply.specs.Served.{wanted_revisions, EndsBy, RepeatsUnwanted, Rises, StopsBy}
use Rattle.dap_reply.specs.ServedMany.{all_items, call_in, items_for, marks_for, sent_for, ManyCall}
use Rattle.srv_conn.specs.ServesMany.{many_call, Point, ServesMany}
use Rattle.srv_conn.specs.Sight.{IsBehind, OthersStay}
use Rattle.srv_conn.specs.Turn.{item_of_turn, IsShort}
use Rattle.srv_conn.proofs.Exits.{goes-on-at}
use Rattle.srv_conn.proofs.GoingOn.{asked-now}
use Rattle.srv_conn.proofs.HeadLemmas.{rest_of}
use Rattle.dev_traits.proofs.MovedLemmas.{moved-put}
use Rattle.srv_conn.proofs.Ran.{moves_of, serves-so, RanOf}
use Rattle.srv_conn.proofs.ScriptLemmas.{rises-append, rises-none}
use Rattle.srv_conn.proofs.ServedParts.{ended-of, failed}
use Rattle.srv_conn.proofs.Serving.{each-later, same-sent}
use Rattle.srv_conn.proofs.ViewLemmas.{all-behind, behind-one, looks-each, looks_at, looks_at-other, looks_at-own}
use Rattle.srv_conn.specs.SoFar.{Each, GoesOf, GoesOn, Serving}

-- of each collection, where a look may have been made at one
ran-short : (them : Collections) (start now after : Point) (done : List Item) (number : ℕ) (more : List ℕ)
    → ((n : ℕ) → GoesOf them start now done n) → after.trail ≡ now.trail
    → IsBehind (them.still number) (now.views.seen number) (after.views.seen number)
    → OthersStay number now.views after.views → after.views.looks number ≡ now.views.looks number ++ more
    → (n : ℕ) → RanOf them start after (looks_at number more n) done n
ran-short them start now after done number more goes trail behind others looks n = record {
  behind = behind-one (them.still n) (start.views.seen n) (now.views.seen n) (after.views.seen n) g.behind later;
  rises = subst (λ (l : List Mark). Rises (length (start.views.seen n)) l (length (after.views.seen n)))
      (append-nil (marks_for them n now.trail done) ∙ marks)
      (rises-append (length (start.views.seen n)) (length (now.views.seen n)) (length (after.views.seen n))
      (marks_for them n now.trail done) [] g.rises
      (rises-none (length (now.views.seen n)) (length (after.views.seen n))
      (continues_length (now.views.seen n) (after.views.seen n) later.grows)));
  repeats = subst (λ (l : List Mark). RepeatsUnwanted (them.proto n) (length (start.views.seen n)) l
      (items_for them n done)) marks g.repeats;
  looks_are = looks-each number now.views after.views more others looks n
      ∙ ap (λ (l : List ℕ). l ++ looks_at number more n) g.looks_are
      ∙ ap (λ (l : List Mark). start.views.looks n ++ wanted_revisions (them.proto n) l (items_for them n done)
      ++ looks_at number more n) marks;
}
  where
    g : GoesOf them start now done n
    g = goes n

    later : IsBehind (them.still n) (now.views.seen n) (after.views.seen n)
    later = all-behind them number now.views after.views others behind n

    marks : marks_for them n now.trail done ≡ marks_for them n after.trail done
    marks = ap (λ (l : List Mark). marks_for them n l done) (sym trail)

serves-said : (them : Collections) (start now after : Point) (asked : Asked) (most number : ℕ)
    (end : Option End) (more : List ℕ) → Serving them start now → length now.trail < most
    → now.session.phase ≡ Asking asked → IsShort them now after number end
    → after.views.looks number ≡ now.views.looks number ++ more
    → (more ≡ []) ⊎ (more ≡ length (after.views.seen number) ∷ [])
    → ServesMany them start after most (stops.Ended ends.NoMemory)
unfolding StopsBy EndsBy
serves-said them start now after asked most number end more s few asking w looks one =
    serves-so them start after s.taken s.written farewell (looks_at number more) false most (stops.Ended ends.NoMemory)
    s.done others
    (record {
      moved_is = w.put_is ∙ ap (after_put farewell) s.begun.moved_is
          ∙ moved-put s.taken s.written farewell start.link.held;
      next = s.begun.next;
      ran_of = ran-short them start now after s.done number more s.begun.goes_of w.trail_is w.behind w.others looks;
      written_is = s.begun.written_is
          ∙ same-sent them now.views.seen after.views.seen now.trail s.done start.session.before grows s.each
          ∙ ap (λ (l : List Mark). sent_for them after.views.seen l s.done start.session.before) (sym w.trail_is);
    })
    (record {
      items_are = items;
      count = count;
      few = omega (arith, few, ap length w.trail_is);
      each = ended-of call after.trail s.done (start.session.before + 1) each;
    })
    (record {
      last = number;
      only_short = λ ample. absurd (ample refl);
      front = ap (λ (n : ℕ). take n no_memory_reply) said_is;
      said = λ _. ⊎_elim
          (λ all. inl (ap (λ (n : ℕ). take n no_memory_reply) all.0
          ∙ take_all (length no_memory_reply) no_memory_reply (omega arith)))
          (λ broke. inr (failed (call_in call 0) (broke ∙ ap one_more s.faults_are))) w.whole;
      at_most_one = ⊎_elim (λ none. inl (looks_at-own number more ∙ none))
          (λ look. inr (looks_at-own number more ∙ look)) one;
      elsewhere = λ other differs. looks_at-other number other more differs;
    }) (
      w.ended,
      record {
        unanswered = omega (
          arith,
          s.begun.count,
          ap length w.trail_is,
          ap length unanswered,
          length-append (s.done ++ item ∷ []) later,
          length-append s.done (item ∷ []),
        );
        few = omega (arith, few, ap length w.trail_is);
        goes_on = goes-on-at call s.done others items count each;
      },
    )
    (λ over. absurd (cc))
    (λ _ no. absurd (no refl))
  where
    farewell : List ℕ
    farewell = take w.said no_memory_reply

    said_is : w.said ≡ length farewell
    said_is = omega (arith, w.within, length-take w.said no_memory_reply)

    call : ManyCall
    call = many_call them start after (moves_of s.taken (s.written ++ farewell) false) most
        (stops.Ended ends.NoMemory)

    others : List Item
    others = drop (length s.done) (all_items call)

    items : all_items call ≡ s.done ++ others
    items = rest_of s.done (all_items call) (first_read s.reads)

    count : length after.trail ≡ length s.done
    count = ap length w.trail_is ∙ s.begun.count

    grows : (n : ℕ) → Continues (now.views.seen n) (after.views.seen n)
    grows n = (all-behind them number now.views after.views w.others w.behind n).grows

    each : Each (GoesOn them after.views.seen) after.trail s.done (start.session.before + 1)
    each = subst (λ (l : List Mark). Each (GoesOn them after.views.seen) l s.done (start.session.before + 1))
        (sym w.trail_is)
        (each-later them now.views.seen after.views.seen now.trail s.done (start.session.before + 1) grows s.each)

    -- the request that has no reply
    item : Item
    item = item_of_turn now asked

    later : List Item
    later = drop (length (s.done ++ item ∷ [])) (all_items call)

    unanswered : all_items call ≡ (s.done ++ item ∷ []) ++ later
    unanswered = rest_of (s.done ++ item ∷ []) (all_items call) (asked-now them start now asked s asking)

pub serves-short : (them : Collections) (start now after : Point) (asked : Asked) (most number : ℕ) (end : End)
    → Serving them start now → length now.trail < most → now.session.phase ≡ Asking asked
    → IsShort them now after number (Some end) → ServesMany them start after most (stops.Ended end)
serves-short them start now after asked most number end s few asking w =
    subst (λ (e : End). ServesMany them start after most (stops.Ended e))
    (same_Some ends.NoMemory end (sym w.end_is))
    (⊎_elim
    (λ none. serves-said them start now after asked most number (Some end) [] s few asking w
    (none ∙ sym (append-nil (now.views.looks number))) (inl refl))
    (λ one. serves-said them start now after asked most number (Some end) (length (after.views.seen number) ∷ []) s few
    asking w one (inr refl))
    w.looks_are)
