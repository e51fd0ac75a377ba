-- The first clocks were opened, and there is room for the others.
use Rattle.std.proofs.Common.{◌≡◌, ◌≤◌, ◌+◌, ◌-◌, length, vec_capacity, vec_len}
use Rattle.srv_open.specs.Opening.{OpensClocks}
use Rattle.srv_open.proofs.opening.open_clocks.Given as goal

abbrev pub invariant-loop-number : goal.invariant-loop-number
invariant-loop-number g l = record {
  opens : OpensClocks g.M.C.Clock.shown l.ticks
      (g.M.Machine.shown l.fn.opener).held (g.M.Machine.shown l.opener).held l.clocks-inside.items.items;
  count : length l.clocks-inside.items.items ≡ l._number;
  room : vec_len l.clocks-inside.items + (l.count - l._number) ≤ vec_capacity l.clocks-inside.items;
  faults : (g.M.Machine.shown l.opener).faults ≡ (g.M.Machine.shown l.fn.opener).faults;
}
