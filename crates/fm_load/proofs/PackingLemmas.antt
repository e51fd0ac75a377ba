-- The checks of attributes in parts are the check of all.
use Rattle.std.specs.Prelude.{◌≡◌, codes}
use Rattle.std.proofs.Common.{refl}
use Rattle.nc_model.specs.declared.header.NcVar.{NcVar}
use Rattle.fm_base.specs.Chain.{◌>>◌}
use Rattle.fm_model.specs.declared.proto.ProtoVar.{ProtoVar}
use Rattle.fm_model.specs.Packing.{same_attr, same_packing}
use Rattle.fm_load.specs.Compared.{same_missing, same_offset, same_scale}

-- the unit, and then what comes after it
pub in_parts : (wanted : ProtoVar) (var : NcVar)
    → (same_attr wanted var (codes "units") >> same_scale wanted var) ≡ same_packing wanted var
unfolding same_missing same_offset same_scale same_packing
in_parts wanted var = refl
