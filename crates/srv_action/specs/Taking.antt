-- What is taken from a link for a session.
use Rattle.std.specs.Prelude.{◌≡◌, ◌⊎◌, ℕ, ◌<◌, List, [], ◌++◌, length}
use Rattle.dev_traits.specs.Cause.{one_more}
use Rattle.dev_traits.specs.Moved.{moved, AreNext, IsOver}
use Rattle.dev_traits.specs.Shown.{LinkShown}
use Rattle.web_frame.specs.Limit.{MAX_HEAD}
use Rattle.web_session.specs.declared.action.End.{End}
use Rattle.web_session.specs.declared.action.End.TheVariants as ends
use Rattle.web_session.specs.State.{end_of_input, resting, State}
use Rattle.dap_reply.specs.Served.{held_bytes}

-- these bytes were taken from a link, no call failed, and the session that rested has them too
pub record Takes (before after : LinkShown) (session session_after : State) (taken : List ℕ) : Type 0 where
  pub moved_is : after.held ≡ moved taken [] before.held
  pub next : AreNext taken before.held
  pub faults_are : after.faults ≡ before.faults
  pub session_is : session_after ≡ resting (held_bytes session ++ taken) session.before

-- some bytes were taken for a session that had room for them
pub record TakesSome (before after : LinkShown) (session session_after : State) : Type 0 where
  pub taken : List ℕ
  pub some : 0 < length taken
  pub room : length (held_bytes session) < MAX_HEAD
  pub takes : Takes before after session session_after taken

-- a link that was read from ends a session: a call failed, or input is over and these bytes are left
abbrev pub EndsReading : LinkShown → LinkShown → List ℕ → End → Type 0
EndsReading before after left end =
    ((end ≡ ends.LinkFault) × (after.faults ≡ one_more before.faults))
    ⊎ ((end ≡ end_of_input left) × (after.faults ≡ before.faults) × IsOver after.held)
