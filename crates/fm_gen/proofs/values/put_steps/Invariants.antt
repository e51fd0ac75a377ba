-- The numbers so far are written.
use Rattle.std.proofs.Common.{◌≡◌, ◌++◌}
use Rattle.fm_gen.specs.Values.{steps_text}
use Rattle.fm_gen.proofs.values.put_steps.Given as goal

abbrev pub invariant-loop-i : goal.invariant-loop-i
invariant-loop-i l = l.out ≡ l.fn.out ++ steps_text l.i
