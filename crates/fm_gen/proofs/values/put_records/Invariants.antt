-- The records so far are written, and x is the number of the next one.
use Rattle.std.proofs.Common.{◌≡◌, ◌*◌, ◌++◌}
use Rattle.fm_gen.specs.Values.{number_at, records_text}
use Rattle.fm_gen.proofs.values.put_records.Given as goal

abbrev pub invariant-loop-j : goal.invariant-loop-j
invariant-loop-j l = record {
  text : l.out ≡ l.fn.out ++ records_text l.seed l.k l.j;
  number : l.x ≡ number_at l.seed l.k (64 * l.j);
}
