-- The lengths of the arrays before the index were added.
use Rattle.std.proofs.Common.{◌≡◌, length, take}
use Rattle.dap_model.specs.StructureText.{arrays_text}
use Rattle.dap_dds.proofs.length.arrays_len.Given as goal

abbrev pub invariant-loop-array : goal.invariant-loop-array
invariant-loop-array l = l.len ≡ length (arrays_text l.depth (take l.array-index l.arrays))
