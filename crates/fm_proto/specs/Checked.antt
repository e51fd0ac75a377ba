-- The axis of a file's header that may be a prototype's, and the prototype over it.
use Rattle.std.specs.Prelude.{ℕ, List, Result, Ok}
use Rattle.fm_base.specs.Chain.{◌>>=◌, ◌>>◌}
use Rattle.nc_model.specs.declared.header.Header.{Header}
use Rattle.nc_model.specs.declared.header.NcVar.{NcVar}
use Rattle.fm_model.specs.declared.proto.Proto.{Proto}
use Rattle.fm_model.specs.declared.proto.ProtoFault.{ProtoFault}
use Rattle.fm_model.specs.declared.site.Site.{Site}
use Rattle.fm_model.specs.Prototype.{dims_have_lengths, names_are_free, names_are_plain, proto_axis, proto_with, time_stands_first}

-- the axis of a header that passes each step, or the first fault
unfoldable pub checked_axis : Header → Result NcVar ProtoFault
checked_axis header = do
  axis ← proto_axis header
  time_stands_first header axis
  names_are_plain header
  names_are_free header axis
  dims_have_lengths header axis
  Ok axis

-- the prototype that the bytes with a header are at a site, or the first fault
unfoldable pub proto_over : List ℕ → Site → Header → Result Proto ProtoFault
proto_over bytes site header = do
  axis ← checked_axis header
  Ok (proto_with bytes site header axis)
