-- The declarations that are left lead to the same outcome as all of them.
use Rattle.std.proofs.Common.{◌≡◌, ◌-◌}
use Rattle.dap_client.specs.Reading.{many_at, mark_at}
use Rattle.dap_client.specs.TextReading.{decl_at}
use Rattle.dap_client.proofs.declaration.read_decls.Given as goal

abbrev pub invariant-loop-turn : goal.invariant-loop-turn
invariant-loop-turn l = many_at (mark_at 32 125) decl_at l.left l.fn.decls l.fn.cursor
    ≡ many_at (mark_at 32 125) decl_at (l.left - l._turn) l.decls l.cursor
