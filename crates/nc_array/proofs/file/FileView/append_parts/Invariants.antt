use Rattle.std.proofs.Common.{◌≡◌, ◌++◌}
use Rattle.std.specs.List.{flat_map, range_with_len}
use Rattle.nc_array.specs.Parts.{part_bytes}
use Rattle.nc_array.proofs.file.FileView.append_parts.Given as goal

abbrev pub invariant-loop-k : goal.invariant-loop-k
invariant-loop-k l =
    l.out ≡ l.fn.out ++ flat_map (part_bytes l.self.bytes l.self.layout.header l.var) (range_with_len 0 l.k)
