-- The bytes before the index were appended, and the room is the same.
use Rattle.std.proofs.Common.{◌≡◌, ◌++◌, take, vec_capacity}
use Rattle.dev_memory.proofs.room.push_all.Given as goal

abbrev pub invariant-loop-byte : goal.invariant-loop-byte
invariant-loop-byte l = record {
  bytes : l.out.items ≡ l.fn.out.items ++ take l.byte-index l.bytes;
  room : vec_capacity l.out ≡ vec_capacity l.fn.out;
}
