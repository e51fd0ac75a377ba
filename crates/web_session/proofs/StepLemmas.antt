-- What a session asked for, after one event: the first heads of what it was fed.
use Rattle.std.proofs.Common.{◌≡◌, ℕ, ◌+◌, ◌-◌, List, [], ◌++◌, take, refl, sym, ap, subst, ◌∙◌, append-nil}
use Rattle.std.proofs.lemmas.List.{take_all}
use Rattle.web_frame.specs.Limit.{MAX_HEAD}
use Rattle.web_frame.specs.Items.{Item, heads_of, ReadsTo, AreFirst}
use Rattle.web_frame.specs.Stream.{held_len, with_bytes}
use Rattle.web_frame.proofs.ItemLemmas.{ReadsTo-feed}
use Rattle.web_session.specs.declared.action.Asked.{Asked}
use Rattle.web_session.specs.declared.action.End.{End}
use Rattle.web_session.specs.declared.event.Event.{Event}
use Rattle.web_session.specs.declared.event.Event.TheVariants.{Start, Bytes, Answer, Sent, EndOfInput, NoAnswer, Fault}
use Rattle.web_session.specs.declared.phase.Phase.{Phase}
use Rattle.web_session.specs.declared.phase.Phase.TheVariants.{Waiting, Asking, Sending, Ended}
use Rattle.web_session.specs.State.{State, sent}
use Rattle.web_session.specs.Event.{after_in, after_event, IsAnswerIn, IsAnswer}
use Rattle.web_session.specs.Run.{fed_in, asks_in, asks_after}
use Rattle.web_session.proofs.LookLemmas.{FollowsIn, Follows, look_follows, first_read, first_asked}
use Rattle.web_session.proofs.ReplyLemmas.{ended_first, sent_follows}

-- nothing more was fed or asked for
stays : (s : State) (phase : Phase) (text : List ℕ) (items : List Item) → s.phase ≡ phase
    → FollowsIn phase text items s.held → FollowsIn s.phase (text ++ []) (items ++ []) s.held
stays s phase text items is follows =
    subst (λ (t : List ℕ). FollowsIn s.phase t (items ++ []) s.held) (sym (append-nil text))
    (subst (λ (l : List Item). FollowsIn s.phase text l s.held) (sym (append-nil items))
    (subst (λ (p : Phase). FollowsIn p text items s.held) (sym is) follows))

same_text : (s : State) (text : List ℕ) (items : List Item) → Follows s text items → Follows s (text ++ []) items
same_text s text items follows = subst (λ (t : List ℕ). Follows s t items) (sym (append-nil text)) follows

first_longer : (text : List ℕ) (items : List Item) → AreFirst items (heads_of text).items
    → AreFirst (items ++ []) (heads_of (text ++ [])).items
first_longer text items first = subst (λ (t : List ℕ). AreFirst (items ++ []) (heads_of t).items)
    (sym (append-nil text)) (ended_first text items first)

step_waiting : (s : State) (event : Event) (text : List ℕ) (items : List Item) → s.phase ≡ Waiting
    → IsAnswerIn Waiting s event → FollowsIn Waiting text items s.held
    → Follows (after_in Waiting s event) (text ++ fed_in Waiting event)
    (items ++ asks_after event (after_in Waiting s event))
step_waiting s Start text items is answers follows = stays s Waiting text items is follows
step_waiting s (Bytes piece) text items is answers follows =
    let all : take (MAX_HEAD - held_len s.held) piece.now ≡ piece.now =
    take_all (MAX_HEAD - held_len s.held) piece.now answers in
    let fed : ReadsTo (text ++ piece.now) items (s.held.rest ++ take (MAX_HEAD - held_len s.held) piece.now) =
    subst (λ (l : List ℕ). ReadsTo (text ++ piece.now) items (s.held.rest ++ l)) (sym all)
    (ReadsTo-feed piece.now follows.0) in
    look_follows (with_bytes (take (MAX_HEAD - held_len s.held) piece.now) s.held) s.before
    (text ++ piece.now) items fed
step_waiting s (Answer len) text items is answers follows = absurd answers
step_waiting s (Sent count) text items is answers follows = absurd answers
step_waiting s EndOfInput text items is answers follows = first_longer text items (first_read follows.0)
step_waiting s NoAnswer text items is answers follows = absurd answers
step_waiting s Fault text items is answers follows = first_longer text items (first_read follows.0)

step_asking : (s : State) (what : Asked) (event : Event) (text : List ℕ) (items : List Item) → s.phase ≡ Asking what
    → IsAnswerIn (Asking what) s event → FollowsIn (Asking what) text items s.held
    → Follows (after_in (Asking what) s event) (text ++ fed_in (Asking what) event)
    (items ++ asks_after event (after_in (Asking what) s event))
step_asking s what Start text items is answers p = stays s (Asking what) text items is p
step_asking s what (Bytes piece) text items is answers p = absurd answers
step_asking s what (Answer len) text items is answers p =
    same_text (sent s what 0 len) text _ (sent_follows s what 0 len text items p)
step_asking s what (Sent count) text items is answers p = absurd answers
step_asking s what EndOfInput text items is answers p = absurd answers
step_asking s what NoAnswer text items is answers p = first_longer text items (first_asked text items what s.held p)
step_asking s what Fault text items is answers p = absurd answers

step_sending : (s : State) (what : Asked) (from len : ℕ) (event : Event) (text : List ℕ) (items : List Item)
    → s.phase ≡ Sending what from len → IsAnswerIn (Sending what from len) s event
    → FollowsIn (Sending what from len) text items s.held
    → Follows (after_in (Sending what from len) s event) (text ++ fed_in (Sending what from len) event)
    (items ++ asks_after event (after_in (Sending what from len) s event))
step_sending s what from len Start text items is answers p = absurd answers
step_sending s what from len (Bytes piece) text items is answers p = absurd answers
step_sending s what from len (Answer more) text items is answers p = absurd answers
step_sending s what from len (Sent count) text items is answers p =
    same_text (sent s what (from + count) len) text _ (sent_follows s what (from + count) len text items p)
step_sending s what from len EndOfInput text items is answers p = absurd answers
step_sending s what from len NoAnswer text items is answers p = absurd answers
step_sending s what from len Fault text items is answers p =
    first_longer text items (first_asked text items what s.held p)

ended_asks : (s : State) (end : End) (items : List Item) → s.phase ≡ Ended end → items ++ asks_in s.phase s.held ≡ items
ended_asks s end items is = ap (λ (p : Phase). items ++ asks_in p s.held) is ∙ append-nil items

ended_stays : (s : State) (end : End) (text : List ℕ) (items : List Item) → s.phase ≡ Ended end
    → AreFirst items (heads_of text).items
    → Follows s (text ++ []) (items ++ asks_in s.phase s.held)
ended_stays s end text items is first =
    subst (λ (l : List Item). Follows s (text ++ []) l) (sym (ended_asks s end items is))
    (subst (λ (p : Phase). FollowsIn p (text ++ []) items s.held) (sym is)
    (subst (λ (t : List ℕ). AreFirst items (heads_of t).items) (sym (append-nil text)) first))

step_ended : (s : State) (end : End) (event : Event) (text : List ℕ) (items : List Item) → s.phase ≡ Ended end
    → FollowsIn (Ended end) text items s.held
    → Follows (after_in (Ended end) s event) (text ++ fed_in (Ended end) event)
    (items ++ asks_after event (after_in (Ended end) s event))
step_ended s end Start text items is first = stays s (Ended end) text items is first
step_ended s end (Bytes piece) text items is first = ended_stays s end text items is first
step_ended s end (Answer len) text items is first = ended_stays s end text items is first
step_ended s end (Sent count) text items is first = ended_stays s end text items is first
step_ended s end EndOfInput text items is first = ended_stays s end text items is first
step_ended s end NoAnswer text items is first = ended_stays s end text items is first
step_ended s end Fault text items is first = ended_stays s end text items is first

step_in : (phase : Phase) (s : State) (event : Event) (text : List ℕ) (items : List Item) → s.phase ≡ phase
    → IsAnswerIn phase s event → FollowsIn phase text items s.held
    → Follows (after_in phase s event) (text ++ fed_in phase event) (items ++ asks_after event (after_in phase s event))
step_in Waiting s event text items is answers follows = step_waiting s event text items is answers follows
step_in (Asking what) s event text items is answers follows = step_asking s what event text items is answers follows
step_in (Sending what from len) s event text items is answers follows =
    step_sending s what from len event text items is answers follows
step_in (Ended end) s event text items is answers follows = step_ended s end event text items is follows

pub step_follows : (s : State) (event : Event) (text : List ℕ) (items : List Item) → IsAnswer s event
    → Follows s text items
    → Follows (after_event s event) (text ++ fed_in s.phase event) (items ++ asks_after event (after_event s event))
unfolding IsAnswer after_event
step_follows s event text items answers follows = step_in s.phase s event text items refl answers follows
