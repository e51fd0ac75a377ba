-- How a connection that is run step by step stands for a session that is seen by all its bytes.
use Rattle.std.specs.Prelude.{◌≡◌, ◌≤◌, ℕ, List, [], ◌∷◌, length, All, false, true, Option, Some}
use Rattle.fm_model.specs.declared.op.Op.{Op}
use Rattle.fm_model.specs.declared.proto.Proto.{Proto}
use Rattle.web_frame.specs.Items.{Item}
use Rattle.web_frame.specs.Stream.{held_after}
use Rattle.web_session.specs.declared.action.End.{End as Ending}
use Rattle.web_session.specs.declared.phase.Phase.TheVariants.{Ended, Sending}
use Rattle.web_session.specs.State.{resting, State}
use Rattle.dap_reply.specs.Parts.{bytes_of, Parts}
use Rattle.dap_reply.specs.Served.{asked_of}
use Rattle.pub_core.specs.declared.connection.Connection.{Connection}
use Rattle.pub_core.specs.Standing.{Replies, Rests}
use Rattle.pub_core.specs.World.{is_due, output_of, SessionState}

-- a machine that sends the reply to an item at the front of some bytes, of this length, from an offset on, after
-- `count` replies
abbrev pub sending_reply : List ℕ → ℕ → Item → ℕ → ℕ → State
sending_reply bytes count item from len =
    record { phase = Sending (asked_of item) from len; held = held_after bytes; before = count }

-- a machine with a reply stands where a session does
pub data Stands (proto : Proto) (log : List Op) (s : SessionState) (machine : State) (plan : Option Parts)
    : Type 0 where
  at_rest : (left : List ℕ) (r : Rests proto log s left) → machine ≡ resting left (length r.done)
      → Stands proto log s machine plan
  in_reply : (left : List ℕ) (item : Item) (before : List ℕ) (reply : Parts) (from : ℕ)
      (r : Replies proto log s left item before (bytes_of reply) from) → plan ≡ Some reply
      → machine ≡ sending_reply left (length r.done) item from (length (bytes_of reply))
      → Stands proto log s machine plan
  at_end : (end : Ending) → machine.phase ≡ Ended end → s.ended ≡ true → Stands proto log s machine plan

-- a connection shows a session over a log, but for a reply that may be due
pub record Shows (proto : Proto) (log : List Op) (c : Connection) (s : SessionState) : Type 0 where
  pub output_is : c.output ≡ output_of proto log s
  pub seen_is : c.seen ≡ s.seen
  pub seen_within : s.seen ≤ length log
  pub revs_within : All (λ (revision : ℕ). revision ≤ length log) s.revs
  pub stands : Stands proto log s c.session c.plan

-- a connection shows a session over a log, and no reply is due
pub record IsShown (proto : Proto) (log : List Op) (c : Connection) (s : SessionState) : Type 0 where
  pub shows : Shows proto log c s
  pub due : is_due proto log s ≡ false

-- connections show sessions, one by one
unfoldable pub AreShown : Proto → List Op → List Connection → List SessionState → Type 0
AreShown proto log [] [] = Unit {0}
AreShown proto log [] (s ∷ sessions) = ⊥
AreShown proto log (c ∷ connections) [] = ⊥
AreShown proto log (c ∷ connections) (s ∷ sessions) =
    IsShown proto log c s × AreShown proto log connections sessions
