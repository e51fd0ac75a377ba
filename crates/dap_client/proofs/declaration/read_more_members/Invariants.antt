-- The members that are left lead to the same outcome as all of them.
use Rattle.std.proofs.Common.{◌≡◌, ◌-◌}
use Rattle.dap_client.specs.Reading.{many_at}
use Rattle.dap_client.specs.TextReading.{member_at, member_mark_at}
use Rattle.dap_client.proofs.declaration.read_more_members.Given as goal

abbrev pub invariant-loop-turn : goal.invariant-loop-turn
invariant-loop-turn l = many_at member_mark_at member_at l.left l.fn.members l.fn.cursor
    ≡ many_at member_mark_at member_at (l.left - l._turn) l.members l.cursor
