-- The inboxes of the first folders were opened, and there is room for the others.
use Rattle.std.proofs.Common.{◌≡◌, ◌≤◌, ◌+◌, ◌-◌, length, vec_capacity, vec_len}
use Rattle.srv_open.specs.Opening.{OpensInboxes}
use Rattle.srv_open.proofs.opening.open_inboxes.Given as goal

abbrev pub invariant-loop-number : goal.invariant-loop-number
invariant-loop-number g l = record {
  opens : OpensInboxes g.M.I.Inbox.shown l.folders
      (g.M.Machine.shown l.fn.opener).held (g.M.Machine.shown l.opener).held l.inboxes-inside.items.items;
  count : length l.inboxes-inside.items.items ≡ l.number;
  room : vec_len l.inboxes-inside.items + (length l.folders - l.number) ≤ vec_capacity l.inboxes-inside.items;
  faults : (g.M.Machine.shown l.opener).faults ≡ (g.M.Machine.shown l.fn.opener).faults;
}
