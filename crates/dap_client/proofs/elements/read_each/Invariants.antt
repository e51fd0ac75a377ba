-- The numbers that are left lead to the same outcome as all of them.
use Rattle.std.proofs.Common.{◌≡◌, ◌-◌, []}
use Rattle.dap_client.specs.DataReading.{element_at}
use Rattle.dap_client.specs.Reading.{repeat_at}
use Rattle.dap_client.proofs.elements.read_each.Given as goal

abbrev pub invariant-loop-turn : goal.invariant-loop-turn
invariant-loop-turn l = repeat_at (element_at l.kind) l.count [] l.fn.cursor
    ≡ repeat_at (element_at l.kind) (l.count - l._turn) l.bits l.cursor
