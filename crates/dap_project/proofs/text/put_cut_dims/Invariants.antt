-- The dimensions so far are written.
use Rattle.std.proofs.Common.{◌≡◌, ◌++◌, map, drop, length, ◌≤◌, ◌-◌}
use Rattle.std.specs.List.{zip}
use Rattle.dap_model.specs.Projection.{cut_dim}
use Rattle.dap_model.specs.StructureText.{dims_text}
use Rattle.dap_project.proofs.text.put_cut_dims.Given as goal

abbrev pub invariant-loop-at : goal.invariant-loop-at
invariant-loop-at l =
    (l.out ++ dims_text (map cut_dim (zip (drop l.at l.dims) (drop l.at l.slabs)))
    ≡ l.fn.out ++ dims_text (map cut_dim (zip l.dims l.slabs)))
    × (l.at ≤ length l.dims)

abbrev pub decreases-loop-at : goal.decreases-loop-at
decreases-loop-at l = length l.dims - l.at
