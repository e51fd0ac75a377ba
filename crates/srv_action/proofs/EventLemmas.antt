-- Where what happens on a link takes a session.
use Rattle.std.proofs.Common.{◌≡◌, ◌<◌, ◌≤◌, ℕ, ◌-◌, Bor, List, [], ◌∷◌, ◌++◌, length, take, Bool, cond, Option, Some, None, refl, ap, ◌∙◌, arith, ltb}
use Rattle.std.proofs.lemmas.List.{take_all}
use Rattle.std.proofs.lemmas.Bool.{lt-ltb}
use Rattle.web_frame.specs.declared.frame.Next.{Next}
use Rattle.web_frame.specs.declared.frame.Next.TheVariants as next
use Rattle.web_frame.specs.Limit.{MAX_HEAD}
use Rattle.web_frame.specs.Stream.{held_after, held_len, next_of, Held}
use Rattle.web_session.specs.declared.action.Action.{Action}
use Rattle.web_session.specs.declared.action.Asked.{Asked}
use Rattle.web_session.specs.declared.action.End.{End}
use Rattle.web_session.specs.declared.action.End.TheVariants as ends
use Rattle.web_session.specs.declared.event.Event.TheVariants.{Bytes, Answer, Sent, EndOfInput, NoAnswer, Fault}
use Rattle.web_session.specs.declared.phase.Phase.{Phase}
use Rattle.web_session.specs.declared.phase.Phase.TheVariants.{Waiting, Asking, Sending, Ended}
use Rattle.web_session.specs.Event.{after_event, after_in}
use Rattle.web_session.specs.State.{action_at, action_of, end_after, end_of_input, looked, phase_after, replied, replied_by, resting, sent, State}
use Rattle.web_session.proofs.SentLemmas.{at_phase, sends-all}
use Rattle.dap_reply.specs.Served.{held_bytes, IsAtRest}
use Rattle.srv_action.specs.Acts.{end_said}
use Rattle.srv_action.proofs.SessionLemmas.{ends-so, waiting-held}

-- ---- while it waits

pub feeds : (s : State) (piece : Bor (List ℕ)) → IsAtRest s → s.phase ≡ Waiting
    → length piece.now ≤ MAX_HEAD - held_len s.held
    → after_event s (Bytes piece) ≡ resting (held_bytes s ++ piece.now) s.before
unfolding after_event looked
feeds s piece rests is fits =
    let same : s.held ≡ record { head = []; rest = held_bytes s } = waiting-held s rests is in
    let fed : List ℕ = take (MAX_HEAD - held_len s.held) piece.now in
    ap (λ (p : Phase). after_in p s (Bytes piece)) is
    ∙ ap (λ (h : Held). resting (h.rest ++ fed) s.before) same
    ∙ ap (λ (l : List ℕ). resting (held_bytes s ++ l) s.before)
    (take_all (MAX_HEAD - held_len s.held) piece.now fits)

pub input-ends : (s : State) → IsAtRest s → s.phase ≡ Waiting
    → (after_event s EndOfInput).phase ≡ Ended (end_of_input (held_bytes s))
unfolding after_event
input-ends s rests is =
    let same : s.held ≡ record { head = []; rest = held_bytes s } = waiting-held s rests is in
    ap (λ (p : Phase). (after_in p s EndOfInput).phase) is
    ∙ ap (λ (h : Held). Ended (end_of_input h.rest)) same

pub fault-ends : (s : State) → s.phase ≡ Waiting → (after_event s Fault).phase ≡ Ended ends.LinkFault
unfolding after_event
fault-ends s is = ap (λ (p : Phase). (after_in p s Fault).phase) is

-- ---- while it replies

-- the session gets the length of a reply
told : (s : State) (asked : Asked) (len : ℕ) → s.phase ≡ Asking asked
    → after_event s (Answer len) ≡ cond (ltb 0 len) (at_phase s (Sending asked 0 len)) (replied s asked)
unfolding after_event sent
told s asked len is = ap (λ (p : Phase). after_in p s (Answer len)) is

pub tell-whole : (s : State) (asked : Asked) (len : ℕ) → s.phase ≡ Asking asked
    → after_event (after_event s (Answer len)) (Sent len) ≡ replied s asked
tell-whole s asked len is = sends-all s asked len (len ∷ []) is (omega arith)

pub tell-cut : (s : State) (asked : Asked) (len : ℕ) → s.phase ≡ Asking asked → 0 < len
    → (after_event (after_event s (Answer len)) Fault).phase ≡ Ended ends.LinkFault
unfolding after_event
tell-cut s asked len is some =
    ap (λ (x : State). (after_event x Fault).phase) (told s asked len is
    ∙ ap (λ (b : Bool). cond b (at_phase s (Sending asked 0 len)) (replied s asked)) (lt-ltb 0 len some))

pub tell-short : (s : State) (asked : Asked) → s.phase ≡ Asking asked
    → (after_event s NoAnswer).phase ≡ Ended ends.NoMemory
unfolding after_event
tell-short s asked is = ap (λ (p : Phase). (after_in p s NoAnswer).phase) is

pub tell-before : (s : State) (asked : Asked) → s.phase ≡ Asking asked → (after_event s NoAnswer).before ≡ s.before
unfolding after_event
tell-before s asked is = ap (λ (p : Phase). (after_in p s NoAnswer).before) is

-- the end that a session says after a whole reply
said-next : (next : Next) (held : Held) → end_said (action_at (phase_after next) held) ≡ None
said-next next.Need held = refl
said-next (next.Head r) held = refl
said-next next.BadHead held = refl
said-next next.HeadTooLong held = refl

said-by : (s : State) (end : Option End) → end_said (action_of (replied_by end s)) ≡ end
unfolding action_of looked
said-by s (Some end) = refl
said-by s None = said-next (next_of s.held.rest) (held_after s.held.rest)

pub said-replied : (s : State) (asked : Asked) → end_said (action_of (replied s asked)) ≡ end_after asked s.before
unfolding replied
said-replied s asked = said-by s (end_after asked s.before)

-- the events of a reply, and the session's actions
pub tells-whole : (s told after : State) (asked : Asked) (len : ℕ) (action : Action) → s.phase ≡ Asking asked
    → told ≡ after_event s (Answer len) → after ≡ after_event told (Sent len) → action ≡ action_of after
    → (after ≡ replied s asked) × (end_said action ≡ end_after asked s.before)
tells-whole s told after asked len action phase is then due =
    let whole : after ≡ replied s asked =
    then ∙ ap (λ (x : State). after_event x (Sent len)) is ∙ tell-whole s asked len phase in
    (whole, ap end_said due ∙ ap (λ (x : State). end_said (action_of x)) whole ∙ said-replied s asked)

pub tells-cut : (s told after : State) (asked : Asked) (len : ℕ) (action : Action) → s.phase ≡ Asking asked → 0 < len
    → told ≡ after_event s (Answer len) → after ≡ after_event told Fault → action ≡ action_of after
    → (after.phase ≡ Ended ends.LinkFault) × (end_said action ≡ Some ends.LinkFault)
tells-cut s told after asked len action phase some is then due =
    let cut : after.phase ≡ Ended ends.LinkFault =
    ap (λ (x : State). x.phase) (then ∙ ap (λ (x : State). after_event x Fault) is) ∙ tell-cut s asked len phase some in
    (cut, ap end_said (due ∙ ends-so after ends.LinkFault cut))
