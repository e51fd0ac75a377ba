-- The header and the axis of a file that is taken.
use Rattle.std.proofs.Common.{◌≡◌, ℕ, List, Ok, not, subst}
use Rattle.std.specs.Prelude.{Contains, IsTrue}
use Rattle.std.specs.Str.{bytes_eq}
use Rattle.std.proofs.lemmas.Bool.{not-false}
use Rattle.std.proofs.lemmas.Slice.Eq.{bytes_eq-Decides}
use Rattle.nc_model.specs.declared.header.Header.{Header as FileHeader}
use Rattle.nc_model.specs.declared.header.NcVar.{NcVar}
use Rattle.nc_model.specs.Sound.{sound_header}
use Rattle.fm_model.specs.declared.loaded.LoadFault.{LoadFault}
use Rattle.fm_model.specs.declared.loaded.LoadFault.TheVariants as load
use Rattle.fm_model.specs.declared.proto.Proto.{Proto}
use Rattle.fm_base.specs.Chain.{◌>>◌, refuse_if}
use Rattle.fm_model.specs.LoadAxis.{fault_of_load, file_header, file_var, file_axis}
use Rattle.fm_model.specs.Prototype.{fault_of_proto, proto_header}
use Rattle.fm_model.specs.Variable.{is_coordinate, var_named}
use Rattle.fm_base.proofs.ChainLemmas.{step_ok, refuse_if_ok, ok_or_ok, same_Ok}
use Rattle.nc_model.proofs.SoundLaws.{HasData, ok-fault_as, sound_header-ok}
use Rattle.fm_model.proofs.FindLemmas.{in_find}
use Rattle.fm_model.proofs.Members.{Contains-from_in}

-- the header of a prototype has its data within the file
pub proto_has_data : (bytes : List ℕ) (header : FileHeader) → proto_header bytes ≡ Ok header → HasData bytes header
unfolding proto_header
proto_has_data bytes header e = sound_header-ok bytes header (ok-fault_as fault_of_proto (sound_header bytes) header e)

pub file_has_data : (bytes : List ℕ) (header : FileHeader) → file_header bytes ≡ Ok header → HasData bytes header
unfolding file_header
file_has_data bytes header e = sound_header-ok bytes header (ok-fault_as fault_of_load (sound_header bytes) header e)

-- facts on the axis of a file
pub record IsFileAxis (proto : Proto) (header : FileHeader) (axis : NcVar) : Type 0 where
  pub held : Contains header.vars axis
  pub name_is : axis.name ≡ proto.axis
  pub coordinate : IsTrue (is_coordinate header.dims axis.name axis.kind axis.dims)

is_file_axis : (proto : Proto) (header : FileHeader) (axis : NcVar) → file_axis proto header ≡ Ok axis
    → IsFileAxis proto header axis
unfolding file_axis file_var var_named
is_file_axis proto header axis e =
    let var = step_ok (file_var header proto.axis)
    (λ v. refuse_if (not (is_coordinate header.dims v.name v.kind v.dims))
    (load.VariableDiffers proto.axis) >> Ok v) axis e in
    let passed = refuse_if_ok (not (is_coordinate header.dims var.0.name var.0.kind var.0.dims))
    (load.VariableDiffers proto.axis) (Ok var.0) axis var.2 in
    let found = in_find (λ (v : NcVar). bytes_eq v.name proto.axis) header.vars var.0
    (ok_or_ok (var_named header proto.axis) (load.MissingVariable proto.axis) var.0 var.1) in
    subst (IsFileAxis proto header) (same_Ok {E = LoadFault} var.0 axis passed.1) (record {
      held = Contains-from_in var.0 header.vars found.0;
      name_is = (bytes_eq-Decides var.0.name proto.axis).0 found.1;
      coordinate = not-false _ passed.0;
    })

pub axis_held : (proto : Proto) (header : FileHeader) (axis : NcVar) → file_axis proto header ≡ Ok axis
    → Contains header.vars axis
axis_held proto header axis e = (is_file_axis proto header axis e).held

pub axis_name : (proto : Proto) (header : FileHeader) (axis : NcVar) → file_axis proto header ≡ Ok axis
    → axis.name ≡ proto.axis
axis_name proto header axis e = (is_file_axis proto header axis e).name_is

pub axis_coordinate : (proto : Proto) (header : FileHeader) (axis : NcVar) → file_axis proto header ≡ Ok axis
    → IsTrue (is_coordinate header.dims axis.name axis.kind axis.dims)
axis_coordinate proto header axis e = (is_file_axis proto header axis e).coordinate
