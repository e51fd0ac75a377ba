-- The slices before the index were appended.
use Rattle.std.proofs.Common.{◌≡◌, take}
use Rattle.std.specs.List.{flat_map}
use Rattle.dev_memory.proofs.lines.joined.Given as goal

abbrev pub invariant-loop-part : goal.invariant-loop-part
invariant-loop-part l = l.bytes ≡ flat_map (λ part. part.now) (take l.part-index l.line)
