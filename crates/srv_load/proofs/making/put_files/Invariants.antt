-- The files before k were put, in their order.
use Rattle.std.proofs.Common.{◌≡◌}
use Rattle.srv_load.specs.Made.{load_proto, puts_of}
use Rattle.srv_load.proofs.making.put_files.Given as goal

abbrev pub invariant-loop-k : goal.invariant-loop-k
invariant-loop-k l = record {
  proto : l.plain.proto ≡ load_proto;
  puts : l.plain.seen ≡ puts_of l.seed l.k;
}
