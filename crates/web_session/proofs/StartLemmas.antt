-- The first event changes no session.
use Rattle.std.proofs.Common.{◌≡◌, refl}
use Rattle.web_session.specs.declared.event.Event.TheVariants.{Start}
use Rattle.web_session.specs.declared.phase.Phase.{Phase}
use Rattle.web_session.specs.declared.phase.Phase.TheVariants.{Waiting, Asking, Sending, Ended}
use Rattle.web_session.specs.Event.{after_event, after_in}
use Rattle.web_session.specs.State.{State}

-- the same, by where the session stands
start-at : (phase : Phase) (s : State) → after_in phase s Start ≡ s
start-at Waiting s = refl
start-at (Asking asked) s = refl
start-at (Sending asked from len) s = refl
start-at (Ended end) s = refl

-- the first event leaves a session as it was
pub start-same : (s : State) → after_event s Start ≡ s
unfolding after_event
start-same s = start-at s.phase s
