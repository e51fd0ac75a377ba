-- The bytes of the body so far are the next ones of the link, and no call failed.
use Rattle.std.proofs.Common.{◌≡◌, ◌≤◌, ◌-◌, [], length}
use Rattle.dap_client.specs.Pull.{Gathers, put_of}
use Rattle.dap_client.proofs.taking.take_body.Given as goal

abbrev pub invariant-loop-buf : goal.invariant-loop-buf
invariant-loop-buf g l = record {
  taken : Gathers (g.L.Link.shown l.fn.link).held (g.L.Link.shown l.link).held [] l.body;
  most : length l.body ≤ l.len;
  put : put_of (g.L.Link.shown l.link).held ≡ put_of (g.L.Link.shown l.fn.link).held;
  faults : (g.L.Link.shown l.link).faults ≡ (g.L.Link.shown l.fn.link).faults;
}

abbrev pub decreases-loop-buf : goal.decreases-loop-buf
decreases-loop-buf g l = l.len - length l.body
