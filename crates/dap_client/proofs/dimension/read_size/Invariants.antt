-- The digits that are left lead to the same outcome as all of them.
use Rattle.std.proofs.Common.{◌≡◌, ◌+◌, ◌≤◌, length}
use Rattle.dap_client.specs.Reading.{size_from}
use Rattle.dap_client.proofs.dimension.read_size.Given as goal

abbrev pub invariant-loop-turn : goal.invariant-loop-turn
invariant-loop-turn l = record {
  same : size_from l.limit 0 l.fn.cursor.at l.fn.cursor.rest ≡ size_from l.limit l.value l.cursor.at l.cursor.rest;
  within : l.value ≤ l.limit;
  left : length l.cursor.rest + l._turn ≡ l.left;
}
