-- The dimensions that are left lead to the same outcome as all of them.
use Rattle.std.proofs.Common.{◌≡◌, ◌-◌, ◌^◌, ◌<◌}
use Rattle.dap_client.specs.Reading.{many_at, mark_at}
use Rattle.dap_client.specs.TextReading.{dim_at}
use Rattle.dap_client.proofs.dimension.read_more_dims.Given as goal

abbrev pub invariant-loop-turn : goal.invariant-loop-turn
invariant-loop-turn l = record {
  same : many_at (mark_at 91 59) dim_at l.left l.fn.shape l.fn.cursor
      ≡ many_at (mark_at 91 59) dim_at (l.left - l._turn) l.shape l.cursor;
  room : l.shape.room < 2 ^ 32;
}
