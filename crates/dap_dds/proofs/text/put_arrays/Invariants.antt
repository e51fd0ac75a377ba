-- The text of the arrays before the index was appended.
use Rattle.std.proofs.Common.{◌≡◌, ◌++◌, take}
use Rattle.dap_model.specs.StructureText.{arrays_text}
use Rattle.dap_dds.proofs.text.put_arrays.Given as goal

abbrev pub invariant-loop-array : goal.invariant-loop-array
invariant-loop-array l = l.out ≡ l.fn.out ++ arrays_text l.depth (take l.array-index l.arrays)
