-- The attributes of a variable that are compared, in parts: what is checked from one of them on.
use Rattle.std.specs.Prelude.{codes}
use Rattle.nc_model.specs.declared.header.NcVar.{NcVar}
use Rattle.fm_base.specs.Chain.{Check, ◌>>◌}
use Rattle.fm_model.specs.declared.loaded.LoadFault.{LoadFault}
use Rattle.fm_model.specs.declared.proto.ProtoVar.{ProtoVar}
use Rattle.fm_model.specs.Packing.{same_attr}

-- the same values are missing
unfoldable pub same_missing : ProtoVar → NcVar → Check LoadFault
same_missing wanted var = same_attr wanted var (codes "_FillValue") >> same_attr wanted var (codes "missing_value")

-- values have the same offset, and the same are missing
unfoldable pub same_offset : ProtoVar → NcVar → Check LoadFault
same_offset wanted var = same_attr wanted var (codes "add_offset") >> same_missing wanted var

-- values are packed alike, and the same are missing
unfoldable pub same_scale : ProtoVar → NcVar → Check LoadFault
same_scale wanted var = same_attr wanted var (codes "scale_factor") >> same_offset wanted var
