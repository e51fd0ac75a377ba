-- What is being sent goes on, and no requests are read.
use Rattle.std.proofs.Common.{ℕ, Bool, List}
use Rattle.dap_reply.specs.declared.served.Mark.{Mark}
use Rattle.dap_reply.specs.Collections.{Collections, Views}
use Rattle.srv_action.specs.Acts.{IsLeaving, IsReading, IsReady}
use Rattle.srv_conn.specs.Marks.{IsOneMore}
use Rattle.srv_conn.specs.ServesMany.{point_of, Point}
use Rattle.srv_conn.specs.SoFar.{SoFar}
use Rattle.srv_conn.proofs.SendingLemmas.{left_of}
use Rattle.srv_conn.proofs.replying.finish.Given as goal

abbrev pub invariant-sends : goal.invariant-sends
invariant-sends g l = record {
  ready : IsReady l.doing l.session;
  sends : IsReading l.doing → ⊥;
  so_far : (them : Collections) (start : Point) (views : Views) (most : ℕ)
      → SoFar them start (point_of (g.L.Link.shown l.fn.link) views l.fn.session l.fn.trail) most
      l.fn.doing
      → SoFar them start (point_of (g.L.Link.shown l.link) views l.session l.trail) most l.doing;
  marks : (front : List Mark) → IsOneMore front l.fn.trail → IsOneMore front l.trail;
  leaves : IsLeaving l.fn.doing → IsLeaving l.doing;
}

abbrev pub decreases-sends : goal.decreases-sends
decreases-sends g l = left_of l.doing
