-- The text of the dimensions before the index was appended, behind what stood there.
use Rattle.std.proofs.Common.{◌≡◌, ◌++◌, length, take}
use Rattle.dap_model.specs.StructureText.{dims_text}
use Rattle.dap_dds.proofs.text.put_dims.Given as goal

abbrev pub invariant-loop-dim : goal.invariant-loop-dim
invariant-loop-dim l =
    (l.out ≡ l.fn.out ++ dims_text (take l.dim-index l.dims)) × (take (length l.fn.out) l.out ≡ l.fn.out)
