-- None before the index was opened at the address.
use Rattle.std.proofs.Common.{◌≡◌, drop}
use Rattle.dev_host.specs.Bound.{listener_at}
use Rattle.dev_host.proofs.bound.bound_at.Given as goal

abbrev pub invariant-loop-one : goal.invariant-loop-one
invariant-loop-one l = listener_at l.bound l.address ≡ listener_at (drop l.one-index l.bound) l.address
