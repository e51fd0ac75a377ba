-- One look was made at each collection before this one, and none at the others.
use Rattle.std.proofs.Common.{◌≡◌, ◌<◌, ◌≤◌, ◌-◌, ◌++◌, ℕ, length}
use Rattle.srv_conn.specs.Out.{first_looks}
use Rattle.srv_conn.specs.Revisions.{revision_at}
use Rattle.srv_conn.specs.Sight.{AreBehind}
use Rattle.srv_conn.proofs.glance.glance_at_all.Given as goal

abbrev pub invariant-loop-number : goal.invariant-loop-number
invariant-loop-number g l = record {
  within : l.number ≤ l.count;
  revisions : (number : ℕ) → number < l.number
      → revision_at l.revisions number ≡ length ((g.K.Looks.views l.looks).seen number);
  looked : (number : ℕ) → (g.K.Looks.views l.looks).looks number
      ≡ (g.K.Looks.views l.fn.looks).looks number ++ first_looks l.number (g.K.Looks.views l.looks).seen number;
  later : AreBehind (g.K.Looks.them l.fn.looks) (g.K.Looks.views l.fn.looks).seen (g.K.Looks.views l.looks).seen;
  them : g.K.Looks.them l.looks ≡ g.K.Looks.them l.fn.looks;
}

abbrev pub decreases-loop-number : goal.decreases-loop-number
decreases-loop-number g l = l.count - l.number
