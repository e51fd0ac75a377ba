-- A call that serves a link over several collections, by the views of its arguments before and after.
use Rattle.std.specs.Prelude.{◌≡◌, ℕ, List, true}
use Rattle.dev_traits.specs.Shown.{LinkShown}
use Rattle.web_session.specs.State.{State}
use Rattle.dap_reply.specs.declared.served.Mark.{Mark}
use Rattle.dap_reply.specs.declared.served.Stop.{Stop}
use Rattle.dap_reply.specs.Collections.{Collections, Views}
use Rattle.dap_reply.specs.ServedMany.{ManyCall, ServedMany}
use Rattle.dev_traits.specs.Moved.{moved, AreNext, IsOver}
use Rattle.srv_conn.specs.Serves.{IsCalm, Moves}

-- one moment of a link that is served over several collections: the link as it shows, what is seen of each
-- collection, the session, and the replies that were begun
pub record Point : Type 0 where
  pub link : LinkShown
  pub views : Views
  pub session : State
  pub trail : List Mark

-- a point, by its members
abbrev pub point_of : LinkShown → Views → State → List Mark → Point
point_of link views session trail = record { link = link; views = views; session = session; trail = trail }

-- the call from one point to another
abbrev pub many_call : Collections → Point → Point → Moves → ℕ → Stop → ManyCall
many_call them before after moves most stop = record {
  them = them;
  before = before.views;
  after = after.views;
  session = before.session;
  session_after = after.session;
  taken = moves.taken;
  written = moves.written;
  over = moves.over;
  faults = before.link.faults;
  faults_after = after.link.faults;
  most = most;
  stop = stop;
  trail = after.trail;
}

-- a call from one point to another served a link, as over one collection
pub record ServesMany (them : Collections) (before after : Point) (most : ℕ) (stop : Stop) : Type 0 where
  pub moves : Moves
  pub served : ServedMany (many_call them before after moves most stop)
  pub moved_is : after.link.held ≡ moved moves.taken moves.written before.link.held
  pub next : AreNext moves.taken before.link.held
  pub over_is : moves.over ≡ true → IsOver after.link.held
  pub calm : IsCalm before.link after.link stop
