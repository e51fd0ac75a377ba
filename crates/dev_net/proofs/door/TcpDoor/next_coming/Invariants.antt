-- No link has come, and no call was counted.
use Rattle.std.proofs.Common.{◌≡◌}
use Rattle.dev_net.proofs.door.TcpDoor.next_coming.Given as goal

abbrev pub invariant-waits : goal.invariant-waits
invariant-waits g l = record {
  remaining : l.self.remaining ≡ l.fn.self.remaining;
  faults : l.self.faults ≡ l.fn.self.faults;
}
