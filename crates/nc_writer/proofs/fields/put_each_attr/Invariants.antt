-- The attributes so far are written.
use Rattle.std.proofs.Common.{◌≡◌, ◌++◌, take}
use Rattle.std.specs.List.{flat_map}
use Rattle.nc_writer.specs.Header.{attr_bytes}
use Rattle.nc_writer.proofs.fields.put_each_attr.Given as goal

abbrev pub invariant-loop-attr : goal.invariant-loop-attr
invariant-loop-attr l = l.out ≡ l.fn.out ++ flat_map attr_bytes (take l.attr-index l.attrs)
