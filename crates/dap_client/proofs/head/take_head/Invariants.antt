-- The bytes so far are the next ones of the link, none of which ends a head, and no call failed.
use Rattle.std.proofs.Common.{◌≡◌, [], length, IfSome}
use Rattle.dap_client.specs.Pull.{Gathers, put_of}
use Rattle.dap_client.specs.Reply.{HasNoEnd}
use Rattle.dap_client.proofs.head.take_head.Given as goal

abbrev pub invariant-loop-turn : goal.invariant-loop-turn
invariant-loop-turn g l = record {
  taken : Gathers (g.L.Link.shown l.fn.link).held (g.L.Link.shown l.link).held [] l.bytes;
  count : length l.bytes ≡ l._turn;
  none : IfSome (g.L.Link.shown l.fn.link).held (λ wire. HasNoEnd wire.left l._turn);
  put : put_of (g.L.Link.shown l.link).held ≡ put_of (g.L.Link.shown l.fn.link).held;
  faults : (g.L.Link.shown l.link).faults ≡ (g.L.Link.shown l.fn.link).faults;
}
