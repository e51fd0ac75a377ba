-- Where events take a session that rests.
use Rattle.std.proofs.Common.{◌≡◌, ◌⊎◌, inl, inr, ℕ, ◌-◌, List, [], ◌++◌, take, refl, sym, ap, subst, ◌∙◌}
use Rattle.std.proofs.lemmas.List.{take-append-drop}
use Rattle.web_frame.specs.declared.frame.Next.{Next}
use Rattle.web_frame.specs.declared.frame.Next.TheVariants as next
use Rattle.web_frame.specs.Limit.{MAX_HEAD}
use Rattle.web_frame.specs.Cut.{cut_of, Cut, none_yet, whole, too_long}
use Rattle.web_frame.specs.Items.{Item, request, bad_head, head_too_long, item_of}
use Rattle.web_frame.specs.Stream.{held_after, held_by, held_len, next_by, next_by_item, next_of, Held}
use Rattle.web_session.specs.declared.action.Action.TheVariants.{Read, Ask, Close}
use Rattle.web_session.specs.declared.action.Asked.{Asked}
use Rattle.web_session.specs.declared.action.End.{End}
use Rattle.web_session.specs.declared.phase.Phase.{Phase}
use Rattle.web_session.specs.declared.phase.Phase.TheVariants.{Waiting, Asking, Sending, Ended}
use Rattle.web_session.specs.State.{action_at, action_of, phase_after, resting, State}
use Rattle.web_session.proofs.LookLemmas.{held_after-cut, next_of-cut}
use Rattle.dap_reply.specs.Served.{held_bytes, IsAtRest}

-- ---- a session at rest

held-cut : (bytes : List ℕ) (cut : Cut) → (held_by cut bytes).head ++ (held_by cut bytes).rest ≡ bytes
held-cut bytes none_yet = refl
held-cut bytes (whole len) = take-append-drop len bytes
held-cut bytes too_long = refl

-- a session holds all the bytes that it looked at
pub held-whole : (bytes : List ℕ) → (held_after bytes).head ++ (held_after bytes).rest ≡ bytes
held-whole bytes =
    ap (λ (h : Held). h.head ++ h.rest) (held_after-cut bytes (cut_of bytes) refl) ∙ held-cut bytes (cut_of bytes)

pub rests : (bytes : List ℕ) (before : ℕ) → IsAtRest (resting bytes before)
rests bytes before = record { session_is = ap (λ (l : List ℕ). resting l before) (sym (held-whole bytes)) }

pub rests-at : (s : State) (bytes : List ℕ) (before : ℕ) → s ≡ resting bytes before → IsAtRest s
rests-at s bytes before is = subst IsAtRest (sym is) (rests bytes before)

pub held-at : (s : State) (bytes : List ℕ) (before : ℕ) → s ≡ resting bytes before → held_bytes s ≡ bytes
held-at s bytes before is = ap held_bytes is ∙ held-whole bytes

-- a session that rests stands so
waiting-item : (item : Item) → phase_after (next_by_item item) ≡ Waiting → ⊥
waiting-item (request r target) is = cc
waiting-item bad_head is = cc
waiting-item head_too_long is = cc

waiting-by : (bytes : List ℕ) (cut : Cut) → phase_after (next_by cut bytes) ≡ Waiting → cut ≡ none_yet
waiting-by bytes none_yet is = refl
waiting-by bytes (whole len) is = absurd (waiting-item (item_of (take len bytes)) is)
waiting-by bytes too_long is = absurd (cc)

pub waiting-cut : (bytes : List ℕ) → phase_after (next_of bytes) ≡ Waiting → cut_of bytes ≡ none_yet
waiting-cut bytes is =
    waiting-by bytes (cut_of bytes) (sym (ap phase_after (next_of-cut bytes (cut_of bytes) refl)) ∙ is)

-- what a session waits with
pub waiting-held : (s : State) → IsAtRest s → s.phase ≡ Waiting
    → s.held ≡ record { head = []; rest = held_bytes s }
waiting-held s rests is =
    ap (λ (x : State). x.held) rests.session_is
    ∙ held_after-cut (held_bytes s) none_yet
    (waiting-cut (held_bytes s) (sym (ap (λ (x : State). x.phase) rests.session_is) ∙ is))

-- ---- the action that is due

reads-at : (phase : Phase) (held : Held) (count : ℕ) → action_at phase held ≡ Read count
    → (phase ≡ Waiting) × (count ≡ MAX_HEAD - held_len held)
reads-at Waiting held count is = (refl, cc)
reads-at (Asking asked) held count is = absurd (cc)
reads-at (Sending asked from len) held count is = absurd (cc)
reads-at (Ended end) held count is = absurd (cc)

pub reads-waiting : (s : State) (count : ℕ) → action_of s ≡ Read count
    → (s.phase ≡ Waiting) × (count ≡ MAX_HEAD - held_len s.held)
unfolding action_of
reads-waiting s count is = reads-at s.phase s.held count is

asks-at : (phase : Phase) (held : Held) (asked : Asked) → action_at phase held ≡ Ask asked → phase ≡ Asking asked
asks-at Waiting held asked is = absurd (cc)
asks-at (Asking other) held asked is = cc
asks-at (Sending other from len) held asked is = absurd (cc)
asks-at (Ended end) held asked is = absurd (cc)

pub asks-asking : (s : State) (asked : Asked) → action_of s ≡ Ask asked → s.phase ≡ Asking asked
unfolding action_of
asks-asking s asked is = asks-at s.phase s.held asked is

-- a session that rests reads or asks
rests-next : (next : Next) (held : Held)
    → ((count : ℕ) × (action_at (phase_after next) held ≡ Read count))
    ⊎ ((asked : Asked) × (action_at (phase_after next) held ≡ Ask asked))
rests-next next.Need held = inl (MAX_HEAD - held_len held, refl)
rests-next (next.Head r) held = inr (_, refl)
rests-next next.BadHead held = inr (_, refl)
rests-next next.HeadTooLong held = inr (_, refl)

pub rests-acts : (s : State) → IsAtRest s
    → ((count : ℕ) × (action_of s ≡ Read count)) ⊎ ((asked : Asked) × (action_of s ≡ Ask asked))
unfolding action_of
rests-acts s rests =
    subst (λ (p : Phase). ((count : ℕ) × (action_at p s.held ≡ Read count))
    ⊎ ((asked : Asked) × (action_at p s.held ≡ Ask asked))) (sym (ap (λ (x : State). x.phase) rests.session_is))
    (rests-next (next_of (held_bytes s)) s.held)

-- the end that a session in a phase says
pub ends-so : (s : State) (end : End) → s.phase ≡ Ended end → action_of s ≡ Close end
unfolding action_of
ends-so s end is = ap (λ (p : Phase). action_at p s.held) is

-- ---- events
