-- The lengths of the dimensions before the index were added.
use Rattle.std.proofs.Common.{◌≡◌, length, take}
use Rattle.dap_model.specs.StructureText.{dims_text}
use Rattle.dap_dds.proofs.length.dims_len.Given as goal

abbrev pub invariant-loop-dim : goal.invariant-loop-dim
invariant-loop-dim l = l.len ≡ length (dims_text (take l.dim-index l.dims))
