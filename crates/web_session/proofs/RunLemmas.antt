-- Over any events that answer, what a session asked for are the first heads of what it was fed.
use Rattle.std.proofs.Common.{◌≡◌, ℕ, List, [], ◌∷◌, ◌++◌, refl, sym, ap, subst, ◌∙◌, append_assoc, append-nil}
use Rattle.web_frame.specs.Cut.{Cut, none_yet, whole, too_long, cut_of}
use Rattle.web_frame.specs.Items.{Item, Heads, heads_of, items_before, AreFirst}
use Rattle.web_frame.specs.Stream.{Held}
use Rattle.web_frame.proofs.ItemLemmas.{heads_of-cut, ReadsTo-start}
use Rattle.web_session.specs.declared.event.Event.{Event}
use Rattle.web_session.specs.declared.phase.Phase.{Phase}
use Rattle.web_session.specs.declared.phase.Phase.TheVariants.{Waiting, Asking, Sending, Ended}
use Rattle.web_session.specs.State.{State, fresh}
use Rattle.web_session.specs.Event.{after_event}
use Rattle.web_session.specs.Run.{AllAnswer, after_events, fed_in, fed, asks_after, asks}
use Rattle.web_session.proofs.LookLemmas.{FollowsIn, Follows, first_read, first_asked}
use Rattle.web_session.proofs.StepLemmas.{step_follows}

run_follows : (events : List Event) (s : State) (text : List ℕ) (items : List Item) → AllAnswer s events
    → Follows s text items
    → Follows (after_events s events) (text ++ fed s events) (items ++ asks s events)
run_follows [] s text items answer follows =
    subst (λ (t : List ℕ). Follows s t (items ++ [])) (sym (append-nil text))
    (subst (λ (l : List Item). Follows s text l) (sym (append-nil items)) follows)
run_follows (event ∷ events) s text items answer follows =
    let next : State = after_event s event in
    let first : List ℕ = fed_in s.phase event in
    let asked : List Item = asks_after event next in
    let all : Follows (after_events next events) ((text ++ first) ++ fed next events)
    ((items ++ asked) ++ asks next events) =
    run_follows events next (text ++ first) (items ++ asked) answer.1
    (step_follows s event text items answer.0 follows) in
    subst (λ (t : List ℕ). Follows (after_events next events) t (items ++ (asked ++ asks next events)))
    (append_assoc text first (fed next events))
    (subst (λ (l : List Item). Follows (after_events next events) ((text ++ first) ++ fed next events) l)
    (append_assoc items asked (asks next events)) all)

fresh_follows : Follows fresh [] []
unfolding cut_of Rattle.web_frame.specs.Cut.head_len
fresh_follows = (ReadsTo-start [], (refl, refl))

follows_first : (phase : Phase) (text : List ℕ) (items : List Item) (held : Held) → FollowsIn phase text items held
    → AreFirst items (heads_of text).items
follows_first Waiting text items held follows = first_read follows.0
follows_first (Asking what) text items held p = first_asked text items what held p
follows_first (Sending what from len) text items held p = first_asked text items what held p
follows_first (Ended end) text items held first = first

-- what a session asked for are the first heads of what it was fed
pub asks_first : (events : List Event) → AllAnswer fresh events
    → AreFirst (asks fresh events) (heads_of (fed fresh events)).items
asks_first events answer =
    follows_first (after_events fresh events).phase (fed fresh events) (asks fresh events)
    (after_events fresh events).held (run_follows events fresh [] [] answer fresh_follows)

waiting_has_all : (text : List ℕ) (items : List Item) (held : Held) → FollowsIn Waiting text items held
    → heads_of text ≡ record { items = items; rest = held.rest }
waiting_has_all text items held follows =
    let none : heads_of (held.rest ++ []) ≡ record { items = []; rest = held.rest } =
    ap heads_of (append-nil held.rest) ∙ heads_of-cut held.rest none_yet follows.1.0 in
    ap heads_of (sym (append-nil text)) ∙ follows.0.reads [] ∙ ap (items_before items) none
    ∙ ap (λ (l : List Item). as_heads l held.rest) (append-nil items)
  where
    as_heads : List Item → List ℕ → Heads
    as_heads items rest = record { items = items; rest = rest }

-- a session that waits has asked for all of them
pub waiting_asked_all : (events : List Event) → AllAnswer fresh events → (after_events fresh events).phase ≡ Waiting
    → heads_of (fed fresh events) ≡ record { items = asks fresh events; rest = (after_events fresh events).held.rest }
waiting_asked_all events answer is =
    waiting_has_all (fed fresh events) (asks fresh events) (after_events fresh events).held
    (subst (λ (p : Phase). FollowsIn p (fed fresh events) (asks fresh events) (after_events fresh events).held) is
    (run_follows events fresh [] [] answer fresh_follows))
