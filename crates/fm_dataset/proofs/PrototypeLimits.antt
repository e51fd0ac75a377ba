-- What is small in a prototype: the lengths of its dimensions, and the number of dimensions and of fixed elements of a
-- variable.
use Rattle.std.proofs.Common.{◌≡◌, ℕ, ◌*◌, ◌^◌, ◌<◌, ◌≤◌, Bool, true, false, cond, List, [], ◌∷◌, length, map, sym, subst, ◌∙◌, arith}
use Rattle.std.specs.List.{AllByRecursion}
use Rattle.std.proofs.Math.Nat.{le_of_mul-le-mul_left}
use Rattle.nc_model.specs.declared.header.Dim.{Dim}
use Rattle.nc_model.specs.declared.header.Header.{Header}
use Rattle.nc_model.specs.declared.header.NcVar.{NcVar}
use Rattle.nc_model.specs.Format.{is_record_dim}
use Rattle.nc_model.specs.Kind.{size_of}
use Rattle.nc_model.specs.Layout.{product, shape_of, size_in}
use Rattle.nc_model.proofs.EndLaws.{ends_within, length-elements_of, EndsWithin}
use Rattle.fm_model.specs.declared.limit.TheConstants.{MAX_FILE_BYTES}
use Rattle.fm_model.specs.declared.proto.Proto.{Proto}
use Rattle.fm_model.specs.declared.proto.ProtoVar.{ProtoVar}
use Rattle.fm_model.specs.declared.site.Site.{Site}
use Rattle.fm_model.specs.Prototype.{kept_vars, lengths_of, proto_var, proto_with, with_length}
use Rattle.fm_model.specs.Site.{IsPrototype}
use Rattle.fm_model.proofs.HeaderLemmas.{proto_has_data}
use Rattle.fm_model.proofs.KeptLemmas.{each_by_recursion, has_elements}
use Rattle.fm_model.proofs.Members.{Each, Each-from_in, Each-in, each_from_All, In, in_filter, in_map}
use Rattle.fm_model.proofs.ProtoLemmas.{IsProto-proto_of}
use Rattle.fm_dataset.proofs.CountLemmas.{size-pos}
use Rattle.fm_dataset.proofs.LimitLemmas.{IsLimited, IsLimited-from_read}
use Rattle.fm_dataset.proofs.FileCounts.{shape_few}

-- a variable of a prototype has few dimensions, and few elements where it has no time
pub record HasLimit (proto : Proto) (var : ProtoVar) : Type 0 where
  pub rank : length var.dims ≤ 1024
  pub few : var.timed ≡ false → product (lengths_of proto var.dims) ≤ 2 ^ 60

-- so has each, and the lengths of all dimensions are below 2^31
pub record HasLimits (proto : Proto) : Type 0 where
  pub sizes : Each (λ (dim : Dim). dim.size < 2 ^ 31) proto.dims
  pub vars : Each (HasLimit proto) proto.vars

module _ (bytes : List ℕ) (site : Site) (header : Header) (axis : NcVar) (limited : IsLimited header)
    (few_bytes : length bytes ≤ MAX_FILE_BYTES) where
  size_limit : (dim : Dim) → dim.size < 2 ^ 31 → size_in header dim < 2 ^ 31
  size_limit dim small = by_case (is_record_dim dim)
    where
      by_case : (b : Bool) → cond b header.numrecs dim.size < 2 ^ 31
      by_case true = limited.numrecs
      by_case false = small

  sizes_limit : (dims : List Dim) → AllByRecursion (λ (dim : Dim). dim.size < 2 ^ 31) dims
      → Each (λ (dim : Dim). dim.size < 2 ^ 31) (map (with_length header) dims)
  sizes_limit [] all = tt
  sizes_limit (dim ∷ dims) all = (size_limit dim all.0, sizes_limit dims all.1)

  var_limit : (var : NcVar) → In var header.vars → EndsWithin header (length bytes) var
      → HasLimit (proto_with bytes site header axis) (proto_var bytes header axis var)
  unfolding proto_var
  var_limit var held ends = record {
    rank = each_by_recursion (λ (v : NcVar). length v.dims ≤ 1024) header.vars limited.vars var held;
    few = λ untimed.
        let kept = has_elements bytes site header axis var ends untimed in
        let all : length (proto_var bytes header axis var).fixed ≡ size_of var.kind * product (shape_of header var) =
        rw untimed (length-elements_of bytes header var ends) in
        let same = sym kept ∙ all in
        let fewer : product (lengths_of (proto_with bytes site header axis) var.dims) ≤ product (shape_of header var) =
        le_of_mul-le-mul_left {m = product (lengths_of (proto_with bytes site header axis) var.dims)}
        {n = product (shape_of header var)} {k = size_of var.kind} (omega (arith, same)) (size-pos var.kind) in
        let most = shape_few header var (length bytes) limited.numrecs ends in
        omega (arith, fewer, most, few_bytes);
  }

-- what is small in a prototype
pub limits : (proto : Proto) → IsPrototype proto → HasLimits proto
unfolding proto_with kept_vars
limits proto given =
    let p = IsProto-proto_of given.bytes proto.site proto given.made in
    let has = proto_has_data given.bytes p.header p.header_is in
    let limited = IsLimited-from_read given.bytes p.header has.0 in
    let ends = each_from_All (EndsWithin p.header (length given.bytes)) p.header.vars
    (ends_within p.header (length given.bytes) has.1) in
    let one = proto_with given.bytes proto.site p.header p.axis in
    let all : HasLimits one = record {
      sizes = sizes_limit given.bytes proto.site p.header p.axis limited given.few p.header.dims limited.dims;
      vars = Each-from_in (HasLimit one) _ (λ v h.
          let found = in_map (proto_var given.bytes p.header p.axis) v (kept_vars p.header p.axis) h in
          let held = (in_filter _ found.0 p.header.vars found.1).0 in
          subst (HasLimit one) found.2 (var_limit given.bytes proto.site p.header p.axis limited given.few found.0 held
          (Each-in (EndsWithin p.header (length given.bytes)) found.0 p.header.vars ends held)));
    } in
    subst HasLimits p.proto_is all
