-- A call that serves a link, by the views of its arguments before and after.
use Rattle.std.specs.Prelude.{◌≡◌, ◌≢◌, ℕ, List, Bool, true}
use Rattle.fm_model.specs.declared.op.Op.{Op}
use Rattle.fm_model.specs.declared.proto.Proto.{Proto}
use Rattle.dev_traits.specs.Shown.{LinkShown}
use Rattle.web_session.specs.declared.action.End.TheVariants as ends
use Rattle.web_session.specs.State.{State}
use Rattle.dap_reply.specs.declared.served.Mark.{Mark}
use Rattle.dap_reply.specs.declared.served.Stop.{Stop}
use Rattle.dap_reply.specs.declared.served.Stop.TheVariants as stops
use Rattle.dap_reply.specs.Served.{LinkCall, Served}
use Rattle.dev_traits.specs.Moved.{moved, AreNext, IsOver}

-- one moment of a served link: the link as it shows, the operations seen, their number at each look, the session, and
-- the replies that were begun
pub record Moment : Type 0 where
  pub link : LinkShown
  pub seen : List Op
  pub looks : List ℕ
  pub session : State
  pub trail : List Mark

-- a moment, by its members
abbrev pub moment_of : LinkShown → List Op → List ℕ → State → List Mark → Moment
moment_of link seen looks session trail =
    record { link = link; seen = seen; looks = looks; session = session; trail = trail }

-- the bytes that a call took from a link, the bytes that it wrote, and whether the link said that its input is over
pub record Moves : Type 0 where
  pub taken : List ℕ
  pub written : List ℕ
  pub over : Bool

-- the call from one moment to another
abbrev pub call_of : Proto → Bool → Moment → Moment → Moves → ℕ → Stop → LinkCall
call_of proto still before after moves most stop = record {
  proto = proto;
  still = still;
  seen = before.seen;
  seen_after = after.seen;
  looks = before.looks;
  looks_after = after.looks;
  session = before.session;
  session_after = after.session;
  taken = moves.taken;
  written = moves.written;
  over = moves.over;
  faults = before.link.faults;
  faults_after = after.link.faults;
  most = most;
  stop = stop;
  trail = after.trail;
}

-- no call of a link failed, unless the stop says so, or memory ran out
abbrev pub IsCalm : LinkShown → LinkShown → Stop → Type 0
IsCalm before after stop = stop ≢ stops.Ended ends.LinkFault → stop ≢ stops.Ended ends.NoMemory
    → after.faults ≡ before.faults

-- a call from one moment to another served a link: it is a served link, the bytes taken from the link were its next
-- ones, and the bytes written were put; where the link shows what it holds, its input is over only where nothing is
-- left; a call of the link that failed is blamed
pub record Serves (proto : Proto) (still : Bool) (before after : Moment) (most : ℕ) (stop : Stop) : Type 0 where
  pub moves : Moves
  pub served : Served (call_of proto still before after moves most stop)
  pub moved_is : after.link.held ≡ moved moves.taken moves.written before.link.held
  pub next : AreNext moves.taken before.link.held
  pub over_is : moves.over ≡ true → IsOver after.link.held
  pub calm : IsCalm before.link after.link stop
