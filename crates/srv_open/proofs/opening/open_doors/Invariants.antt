-- The first doors were opened, and there is room for the others.
use Rattle.std.proofs.Common.{◌≡◌, ◌≤◌, ◌+◌, ◌-◌, length, vec_capacity, vec_len}
use Rattle.srv_open.specs.Opening.{OpensDoors}
use Rattle.srv_open.proofs.opening.open_doors.Given as goal

abbrev pub invariant-loop-number : goal.invariant-loop-number
invariant-loop-number g l = record {
  opens : OpensDoors g.M.D.Door.shown (record { address = l.address; connections = l.connections })
      (g.M.Machine.shown l.fn.opener).held (g.M.Machine.shown l.opener).held l.doors-inside.items.items;
  count : length l.doors-inside.items.items ≡ l.number;
  room : vec_len l.doors-inside.items + (l.count - l.number) ≤ vec_capacity l.doors-inside.items;
  faults : (g.M.Machine.shown l.opener).faults ≡ (g.M.Machine.shown l.fn.opener).faults;
}
