-- What holds of the names, the ranks and the attributes of a prototype, since its header was read.
use Rattle.std.proofs.Common.{◌≤◌, ℕ, List, [], ◌∷◌, length, map, subst}
use Rattle.std.specs.Prelude.{IsTrue}
use Rattle.std.specs.List.{AllByRecursion}
use Rattle.nc_model.specs.declared.header.Dim.{Dim}
use Rattle.nc_model.specs.declared.header.Header.{Header}
use Rattle.nc_model.specs.declared.header.NcVar.{NcVar}
use Rattle.nc_model.specs.Format.{is_name_text, MAX_RANK}
use Rattle.fm_model.specs.declared.proto.Proto.{Proto}
use Rattle.fm_model.specs.declared.proto.ProtoVar.{ProtoVar}
use Rattle.fm_model.specs.Prototype.{kept_vars, proto_var, proto_with, with_length}
use Rattle.fm_model.specs.Site.{IsPrototype}
use Rattle.fm_model.specs.Variable.{axis_of, is_axis}
use Rattle.fm_model.proofs.FindLemmas.{in_find}
use Rattle.fm_model.proofs.HeaderLemmas.{proto_has_data}
use Rattle.fm_model.proofs.KeptLemmas.{each_by_recursion}
use Rattle.fm_model.proofs.Members.{Each, Each-from_in, in_filter, in_map}
use Rattle.fm_model.proofs.ProtoLemmas.{IsProto-proto_of}
use Rattle.fm_dataset.proofs.LimitLemmas.{IsLimited-from_read}
use Rattle.nc_writer.proofs.NamedLemmas.{AreReadAttrs, IsReadHeader-from_read, IsReadVar}

-- the name of a dimension is one
abbrev pub IsNamedDim : Dim → Type 0
IsNamedDim dim = IsTrue (is_name_text dim.name)

pub record IsNamedVar (var : ProtoVar) : Type 0 where
  pub named : IsTrue (is_name_text var.name)
  pub rank : length var.dims ≤ 1024
  pub attrs : AreReadAttrs var.attrs

pub record IsNamedProto (proto : Proto) : Type 0 where
  pub axis : IsTrue (is_name_text proto.axis)
  pub dims : Each IsNamedDim proto.dims
  pub attrs : AreReadAttrs proto.attrs
  pub vars : Each IsNamedVar proto.vars

named-dims : (header : Header) (dims : List Dim) → AllByRecursion IsNamedDim dims
    → Each IsNamedDim (map (with_length header) dims)
named-dims header [] all = tt
named-dims header (dim ∷ dims) all = (all.0, named-dims header dims all.1)

named-var : (bytes : List ℕ) (header : Header) (axis var : NcVar) → length var.dims ≤ MAX_RANK → IsReadVar var
    → IsNamedVar (proto_var bytes header axis var)
unfolding proto_var
named-var bytes header axis var rank read = record { named = read.named; rank = rank; attrs = read.attrs }

pub named-proto : (proto : Proto) → IsPrototype proto → IsNamedProto proto
unfolding proto_with kept_vars axis_of
named-proto proto given =
    let p = IsProto-proto_of given.bytes proto.site proto given.made in
    let has = proto_has_data given.bytes p.header p.header_is in
    let limited = IsLimited-from_read given.bytes p.header has.0 in
    let read = IsReadHeader-from_read given.bytes p.header has.0 in
    let one = proto_with given.bytes proto.site p.header p.axis in
    let axis = in_find (is_axis p.header) p.header.vars p.axis p.axis_is in
    let all : IsNamedProto one = record {
      axis = (each_by_recursion IsReadVar p.header.vars read.vars p.axis axis.0).named;
      dims = named-dims p.header p.header.dims read.dims;
      attrs = read.attrs;
      vars = Each-from_in IsNamedVar _ (λ v h.
          let found = in_map (proto_var given.bytes p.header p.axis) v (kept_vars p.header p.axis) h in
          let held = (in_filter _ found.0 p.header.vars found.1).0 in
          subst IsNamedVar found.2 (named-var given.bytes p.header p.axis found.0
          (each_by_recursion (λ (w : NcVar). length w.dims ≤ MAX_RANK) p.header.vars limited.vars found.0 held)
          (each_by_recursion IsReadVar p.header.vars read.vars found.0 held)));
    } in
    subst IsNamedProto p.proto_is all
