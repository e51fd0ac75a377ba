-- The connection went on, and may go on.
use Rattle.std.proofs.Common.{◌≡◌}
use Rattle.srv_action.specs.Acts.{IsReady}
use Rattle.srv_conn.specs.Out.{IsOut, Own, StaysOut}
use Rattle.srv_conn.specs.ServesMany.{Point}
use Rattle.srv_conn.specs.Sight.{AreBehind}
use Rattle.srv_conn.proofs.stepping.go_on.Given as goal

abbrev pub invariant-acts : goal.invariant-acts
invariant-acts g l = record {
  ready : IsReady l.connection.doing l.connection.session;
  went : (start : Point) (own : Own)
      → IsOut g.L.Link.shown (g.K.Looks.them l.fn.looks) start (g.K.Looks.views l.fn.looks).seen own l.fn.connection
      → StaysOut g.L.Link.shown (g.K.Looks.them l.fn.looks) start own l.connection (g.K.Looks.views l.fn.looks)
      (g.K.Looks.views l.looks);
  later : AreBehind (g.K.Looks.them l.fn.looks) (g.K.Looks.views l.fn.looks).seen (g.K.Looks.views l.looks).seen;
  them : g.K.Looks.them l.looks ≡ g.K.Looks.them l.fn.looks;
}
