-- The values so far are written, and x is the number of the next one.
use Rattle.std.proofs.Common.{◌≡◌, ◌++◌}
use Rattle.fm_gen.specs.Values.{number_after, values_text}
use Rattle.fm_gen.proofs.values.put_values.Given as goal

abbrev pub invariant-loop-i : goal.invariant-loop-i
invariant-loop-i l = record {
  text : l.out ≡ l.fn.out ++ values_text l.first l._i;
  number : l.x ≡ number_after l.first l._i;
}
