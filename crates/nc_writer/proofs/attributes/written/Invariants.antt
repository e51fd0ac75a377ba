-- Those that are written of the attributes so far are copied.
use Rattle.std.proofs.Common.{◌≡◌, take}
use Rattle.std.specs.Prelude.{filter}
use Rattle.nc_writer.specs.Attributes.{is_written}
use Rattle.nc_writer.proofs.attributes.written.Given as goal

abbrev pub invariant-loop-attr : goal.invariant-loop-attr
invariant-loop-attr l = l.copies ≡ filter is_written (take l.attr-index l.attrs)
