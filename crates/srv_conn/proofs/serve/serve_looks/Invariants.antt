-- The replies so far are whole, and the session rests with what follows their requests. Nothing is touched where no
-- reply is asked for.
use Rattle.std.proofs.Common.{◌≡◌, ◌≤◌, ◌-◌, [], length}
use Rattle.srv_conn.specs.ServesMany.{point_of}
use Rattle.srv_conn.specs.SoFar.{Serving}
use Rattle.srv_conn.proofs.serve.serve_looks.Given as goal

abbrev pub invariant-loop-alloc : goal.invariant-loop-alloc
invariant-loop-alloc g l = record {
  serving : Serving (g.K.Looks.them l.fn.looks)
      (point_of (g.L.Link.shown l.fn.link) (g.K.Looks.views l.fn.looks) l.fn.session [])
      (point_of (g.L.Link.shown l.link) (g.K.Looks.views l.looks) l.session l.trail);
  few : length l.trail ≤ l.most;
  them : g.K.Looks.them l.looks ≡ g.K.Looks.them l.fn.looks;
  untouched : l.most ≡ 0 → (l.link ≡ l.fn.link) × (l.looks ≡ l.fn.looks) × (l.session ≡ l.fn.session);
}

abbrev pub decreases-loop-alloc : goal.decreases-loop-alloc
decreases-loop-alloc g l = l.most - length l.trail
