-- The actions of a session at rest, and of one that has ended.
use Rattle.std.proofs.Common.{◌≡◌, refl, sym, ap, subst, inl, inr}
use Rattle.web_frame.specs.Cut.{cut_of, head_len}
use Rattle.web_frame.specs.Stream.{Held, held_after, next_of}
use Rattle.web_session.specs.declared.action.Action.TheVariants.{Close}
use Rattle.web_session.specs.declared.action.End.{End}
use Rattle.web_session.specs.declared.phase.Phase.{Phase}
use Rattle.web_session.specs.declared.phase.Phase.TheVariants.{Waiting, Asking, Sending, Ended}
use Rattle.web_session.specs.State.{action_at, action_of, fresh, State}
use Rattle.dap_reply.specs.Served.{IsAtRest}
use Rattle.srv_alone.specs.Steps.{HasEnded, RestsUnlessEnded}

closes : (phase : Phase) (held : Held) (end : End) → action_at phase held ≡ Close end
    → (how : End) × (phase ≡ Ended how)
closes Waiting held end is = absurd cc
closes (Asking asked) held end is = absurd cc
closes (Sending asked from len) held end is = absurd cc
closes (Ended how) held end is = (how, refl)

-- a session that closes has ended
pub HasEnded-closes : (s : State) (end : End) → action_of s ≡ Close end → HasEnded s
unfolding action_of
HasEnded-closes s end is = closes s.phase s.held end is

-- and one that has ended closes
pub closes-HasEnded : (s : State) (ended : HasEnded s) → action_of s ≡ Close (ended.0)
unfolding action_of
closes-HasEnded s ended = ap (λ (phase : Phase). action_at phase s.held) ended.1

-- one that doesn't close rests
pub IsAtRest-goes_on : (s : State) → RestsUnlessEnded s → ((end : End) → action_of s ≡ Close end → ⊥) → IsAtRest s
IsAtRest-goes_on s (inl rests) goes_on = rests
IsAtRest-goes_on s (inr ended) goes_on = absurd (goes_on ended.0 (closes-HasEnded s ended))

-- a session at its start rests
pub IsAtRest-fresh : IsAtRest fresh
unfolding next_of held_after cut_of head_len
IsAtRest-fresh = record { session_is = refl }

pub RestsUnlessEnded-fresh : (s : State) → s ≡ fresh → RestsUnlessEnded s
RestsUnlessEnded-fresh s is = let P : State → Type 0 = λ t. RestsUnlessEnded t in subst P (sym is) (inl IsAtRest-fresh)

pub ruleset sessions = (RestsUnlessEnded-fresh)
