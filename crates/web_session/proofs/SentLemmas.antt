-- What counts that were sent make of a session: it sends on from their sum, until the reply is whole.
use Rattle.std.proofs.Common.{◌≡◌, ◌<◌, ◌≤◌, ℕ, ◌+◌, Bool, true, false, if◌then◌else◌, ltb, List, [], ◌∷◌, map, Option, Some, None, refl, sym, ap, ◌∙◌, arith}
use Rattle.std.specs.List.{sum}
use Rattle.std.proofs.lemmas.Bool.{le-ltb, lt-ltb, ltb-false, ltb-true}
use Rattle.std.proofs.lemmas.List.Sums.{sum_by-cons}
use Rattle.web_frame.specs.declared.frame.Next.{Next}
use Rattle.web_frame.specs.declared.frame.Next.TheVariants as next
use Rattle.web_frame.specs.Stream.{next_of}
use Rattle.web_session.specs.declared.action.Action.TheVariants.{Send}
use Rattle.web_session.specs.declared.action.Asked.{Asked}
use Rattle.web_session.specs.declared.action.End.{End}
use Rattle.web_session.specs.declared.event.Event.{Event}
use Rattle.web_session.specs.declared.event.Event.TheVariants.{Start, Bytes, Answer, Sent, EndOfInput, NoAnswer, Fault}
use Rattle.web_session.specs.declared.phase.Phase.{Phase}
use Rattle.web_session.specs.declared.phase.Phase.TheVariants.{Asking, Sending, Ended}
use Rattle.web_session.specs.Event.{after_event, after_in}
use Rattle.web_session.specs.Run.{after_events}
use Rattle.web_session.specs.State.{action_at, action_of, end_after, looked, phase_after, replied, replied_by, sent, State}

-- a session in another phase
abbrev pub at_phase : State → Phase → State
at_phase s phase = record s { phase = phase }

replied_by-same : (s : State) (phase : Phase) (end : Option End) → replied_by end (at_phase s phase) ≡ replied_by end s
unfolding looked
replied_by-same s phase (Some end) = refl
replied_by-same s phase None = refl

-- a reply that is whole leads on whatever the phase was
pub replied-same : (s : State) (phase : Phase) (asked : Asked) → replied (at_phase s phase) asked ≡ replied s asked
unfolding replied
replied-same s phase asked = replied_by-same s phase (end_after asked s.before)

-- a session that looked for the next head isn't sending
sent-next : (next : Next) (s : State) (count : ℕ) → after_in (phase_after next) s (Sent count) ≡ s
sent-next next.Need s count = refl
sent-next (next.Head r) s count = refl
sent-next next.BadHead s count = refl
sent-next next.HeadTooLong s count = refl

-- where the reply is whole, a count changes nothing
pub sent-replied_by : (s : State) (end : Option End) (count : ℕ)
    → after_event (replied_by end s) (Sent count) ≡ replied_by end s
unfolding after_event looked
sent-replied_by s (Some end) count = refl
sent-replied_by s None count = sent-next (next_of s.held.rest) (looked s.held (s.before + 1)) count

sent-replied : (s : State) (asked : Asked) (count : ℕ) → after_event (replied s asked) (Sent count) ≡ replied s asked
unfolding replied
sent-replied s asked count = sent-replied_by s (end_after asked s.before) count

sent-less : (s : State) (asked : Asked) (from len : ℕ) → from < len
    → sent s asked from len ≡ at_phase s (Sending asked from len)
unfolding sent
sent-less s asked from len less =
    ap (λ (b : Bool). if b then at_phase s (Sending asked from len) else replied s asked) (lt-ltb from len less)

sent-whole : (s : State) (asked : Asked) (from len : ℕ) → len ≤ from → sent s asked from len ≡ replied s asked
unfolding sent
sent-whole s asked from len all =
    ap (λ (b : Bool). if b then at_phase s (Sending asked from len) else replied s asked) (le-ltb from len all)

-- one count more
sent-same : (s : State) (asked : Asked) (from upto len : ℕ)
    → sent (at_phase s (Sending asked from len)) asked upto len ≡ sent s asked upto len
unfolding sent
sent-same s asked from upto len =
    ap (λ (other : State). if ltb upto len then at_phase s (Sending asked upto len) else other)
    (replied-same s (Sending asked from len) asked)

sent-once : (s : State) (asked : Asked) (from len count : ℕ)
    → after_event (sent s asked from len) (Sent count) ≡ sent s asked (from + count) len
unfolding after_event
sent-once s asked from len count = by_test (ltb from len) refl
  where
    by_test : (b : Bool) → ltb from len ≡ b → after_event (sent s asked from len) (Sent count)
        ≡ sent s asked (from + count) len
    by_test true is =
        ap (λ (x : State). after_event x (Sent count)) (sent-less s asked from len (ltb-true from len is))
        ∙ sent-same s asked from (from + count) len
    by_test false is =
        let all : len ≤ from = ltb-false from len is in
        ap (λ (x : State). after_event x (Sent count)) (sent-whole s asked from len all)
        ∙ sent-replied s asked count
        ∙ sym (sent-whole s asked (from + count) len (omega (arith, all)))

-- some counts more
sent-counts : (counts : List ℕ) (s : State) (asked : Asked) (from len : ℕ)
    → after_events (sent s asked from len) (map Sent counts) ≡ sent s asked (from + sum counts) len
sent-counts [] s asked from len = ap (λ (n : ℕ). sent s asked n len) (omega arith)
sent-counts (count ∷ counts) s asked from len =
    ap (λ (x : State). after_events x (map Sent counts)) (sent-once s asked from len count)
    ∙ sent-counts counts s asked (from + count) len
    ∙ ap (λ (n : ℕ). sent s asked n len) (omega (arith, sum_by-cons (λ (n : ℕ). n) count counts))

-- a reply of some length, and the counts that were sent of it
after-counts : (s : State) (asked : Asked) (len : ℕ) (counts : List ℕ) → s.phase ≡ Asking asked
    → after_events s (Answer len ∷ map Sent counts) ≡ sent s asked (sum counts) len
unfolding after_event
after-counts s asked len counts is =
    let told : after_event s (Answer len) ≡ sent s asked 0 len =
    ap (λ (p : Phase). after_in p s (Answer len)) is in
    let all : 0 + sum counts ≡ sum counts = omega arith in
    ap (λ (x : State). after_events x (map Sent counts)) told ∙ sent-counts counts s asked 0 len
    ∙ ap (λ (n : ℕ). sent s asked n len) all

pub sends-on : (s : State) (asked : Asked) (len : ℕ) (counts : List ℕ) → s.phase ≡ Asking asked → sum counts < len
    → action_of (after_events s (Answer len ∷ map Sent counts)) ≡ Send (sum counts)
unfolding action_of
sends-on s asked len counts is less =
    ap (λ (x : State). action_at x.phase x.held)
    (after-counts s asked len counts is ∙ sent-less s asked (sum counts) len less)

pub sends-all : (s : State) (asked : Asked) (len : ℕ) (counts : List ℕ) → s.phase ≡ Asking asked → len ≤ sum counts
    → after_events s (Answer len ∷ map Sent counts) ≡ replied s asked
sends-all s asked len counts is all =
    after-counts s asked len counts is ∙ sent-whole s asked (sum counts) len all

-- ---- a session that has ended

ended-in : (end : End) (s : State) (event : Event) → after_in (Ended end) s event ≡ s
ended-in end s Start = refl
ended-in end s (Bytes piece) = refl
ended-in end s (Answer len) = refl
ended-in end s (Sent count) = refl
ended-in end s EndOfInput = refl
ended-in end s NoAnswer = refl
ended-in end s Fault = refl

pub ended-stays : (events : List Event) (s : State) (end : End) → s.phase ≡ Ended end → after_events s events ≡ s
unfolding after_event
ended-stays [] s end is = refl
ended-stays (event ∷ events) s end is =
    ap (λ (x : State). after_events x events) (ap (λ (p : Phase). after_in p s event) is ∙ ended-in end s event)
    ∙ ended-stays events s end is
