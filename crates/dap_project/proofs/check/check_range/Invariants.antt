-- The slabs before the index lie within their dimensions.
use Rattle.std.proofs.Common.{◌≡◌, All, take, drop}
use Rattle.dap_model.specs.ClauseFaults.{path_text, range_fault}
use Rattle.dap_project.specs.Checks.{IsCountable}
use Rattle.dap_project.proofs.check.check_range.Given as goal

abbrev pub invariant-loop-at : goal.invariant-loop-at
invariant-loop-at l = record {
  fault : range_fault (path_text l.path) l.at (drop l.at l.dims) (drop l.at l.slabs)
      ≡ range_fault (path_text l.path) 0 l.dims l.slabs;
  countable : All IsCountable (take l.at l.slabs);
}
