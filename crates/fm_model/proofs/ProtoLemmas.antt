-- What is known of a prototype.
use Rattle.std.proofs.Common.{◌≡◌, ◌≢◌, ℕ, ◌<◌, Bool, true, false, not, ◌&&◌, ◌||◌, List, [], ◌∷◌, ◌++◌, drop, map, Option, Some, None, Ok, length, refl, sym, ap, subst, ◌∙◌, inl, inr, arith}
use Rattle.std.specs.Prelude.{All, IsTrue, slice_get, slice_index, ◌==◌}
use Rattle.std.specs.List.{AllByRecursion}
use Rattle.std.specs.Option.{option_map, option_map_or}
use Rattle.std.specs.Str.{bytes_eq}
use Rattle.std.proofs.lemmas.Bool.{and_cases, and_parts, both_ways, eq-eqb, eqb-false, false≢true, not-false, not-true, or_parts}
use Rattle.std.proofs.lemmas.List.{length-map}
use Rattle.std.proofs.lemmas.Option.{slice_get-map}
use Rattle.std.proofs.lemmas.Slice.Eq.{bytes_eq-Decides}
use Rattle.nc_model.specs.declared.header.Dim.{Dim}
use Rattle.nc_model.specs.declared.header.Header.{Header as FileHeader}
use Rattle.nc_model.specs.declared.header.NcVar.{NcVar}
use Rattle.nc_model.specs.Layout.{size_in}
use Rattle.fm_model.specs.declared.proto.Proto.{Proto}
use Rattle.fm_model.specs.declared.proto.ProtoFault.{ProtoFault}
use Rattle.fm_model.specs.declared.proto.ProtoFault.TheVariants.{NoTimeAxis, TimeNotFirst, BadProtoName, NameTaken, EmptyDimension}
use Rattle.fm_model.specs.declared.proto.ProtoVar.{ProtoVar}
use Rattle.fm_model.specs.declared.site.Site.{Site}
use Rattle.fm_model.specs.Attribute.{is_char}
use Rattle.fm_model.specs.Prototype.{proto_header, proto_axis, time_stands_first, is_plain_name, names_are_plain, kept_vars, run_name, offset_name, names_are_free, dims_have_lengths, proto_var, with_length, proto_with, proto_of, LiesFirst, HasFreeName, HasElements, HasDims, IsSound}
use Rattle.fm_model.specs.Site.{IsPrototype}
use Rattle.fm_model.specs.Variable.{is_named, is_coordinate, is_axis, axis_of, dim_of_axis, lies_along, stands_first_alone}
use Rattle.nc_model.proofs.EndLaws.{EndsWithin, ends_within}
use Rattle.nc_model.proofs.ReadFacts.{IsNamed-from_read}
use Rattle.fm_model.proofs.HeaderLemmas.{proto_has_data}
use Rattle.fm_base.proofs.ChainLemmas.{step_ok, check_ok, ok_or_ok, same_Ok}
use Rattle.fm_model.proofs.Members.{In, Each-in, Each-from_in, All-from_each, each_from_All, Any-from_in, In-append_left, In-append_right, In-filter, in_filter, In-map, in_map}
use Rattle.fm_model.proofs.FindLemmas.{in_find, each_passes}
use Rattle.fm_model.proofs.KeptLemmas.{dim_names, var_names, kept_names, each_by_recursion, dims_in, has_elements}

-- the steps by which a prototype was taken
pub record IsProto (bytes : List ℕ) (site : Site) (proto : Proto) : Type 0 where
  pub header : FileHeader
  pub axis : NcVar
  pub header_is : proto_header bytes ≡ Ok header
  pub axis_is : axis_of header ≡ Some axis
  pub time : time_stands_first header axis ≡ Ok tt
  pub plain : names_are_plain header ≡ Ok tt
  pub free : names_are_free header axis ≡ Ok tt
  pub lengths : dims_have_lengths header axis ≡ Ok tt
  pub proto_is : proto_with bytes site header axis ≡ proto

-- what was read as a prototype has the facts of one
pub IsProto-proto_of : (bytes : List ℕ) (site : Site) (proto : Proto) → proto_of bytes site ≡ Ok proto
    → IsProto bytes site proto
unfolding proto_of proto_axis
IsProto-proto_of bytes site proto e =
    let header = step_ok (proto_header bytes) _ proto e in
    let axis = step_ok (proto_axis header.0) _ proto header.2 in
    let time = check_ok (time_stands_first header.0 axis.0) _ proto axis.2 in
    let plain = check_ok (names_are_plain header.0) _ proto time.1 in
    let free = check_ok (names_are_free header.0 axis.0) _ proto plain.1 in
    let lengths = check_ok (dims_have_lengths header.0 axis.0) _ proto free.1 in
    record {
      header = header.0;
      axis = axis.0;
      header_is = header.1;
      axis_is = ok_or_ok (axis_of header.0) NoTimeAxis axis.0 axis.1;
      time = time.0;
      plain = plain.0;
      free = free.0;
      lengths = lengths.0;
      proto_is = same_Ok {E = ProtoFault} (proto_with bytes site header.0 axis.0) proto lengths.1;
    }

pub one_proto : (bytes : List ℕ) (site : Site) (proto other : Proto) → proto_of bytes site ≡ Ok proto
    → proto_of bytes site ≡ Ok other → proto ≡ other
one_proto bytes site proto other e d = same_Ok {E = ProtoFault} proto other (sym e ∙ d)

-- a prototype keeps the site that it was read for
pub site-proto_of : (bytes : List ℕ) (site : Site) (proto : Proto) → proto_of bytes site ≡ Ok proto → proto.site ≡ site
unfolding proto_with
site-proto_of bytes site proto e = let p = IsProto-proto_of bytes site proto e in ap (λ (q : Proto). q.site)
    (sym p.proto_is)

-- an axis has one dimension, which has its name
record AxisDim (header : FileHeader) (axis : NcVar) : Type 0 where
  named : IsTrue (is_named header.dims axis.name (dim_of_axis axis))
  dims_are : axis.dims ≡ dim_of_axis axis ∷ []
  number : is_char axis.kind ≡ false

AxisDim-is_axis : (header : FileHeader) (axis : NcVar) → is_axis header axis ≡ true → AxisDim header axis
unfolding is_axis is_coordinate
AxisDim-is_axis header axis e = by_dims axis.dims refl (and_parts _ _ e).0
  where
    by_dims : (dims : List ℕ) → axis.dims ≡ dims → is_coordinate header.dims axis.name axis.kind dims ≡ true
        → AxisDim header axis
    by_dims [] is e = absurd (false≢true e)
    by_dims (id ∷ []) is e = record {
      named = subst (λ (ids : List ℕ). IsTrue (is_named header.dims axis.name (slice_index ids 0))) (sym is)
          (and_parts (is_named header.dims axis.name id) (not (is_char axis.kind)) e).0;
      dims_are = is ∙ ap (λ (ids : List ℕ). slice_index ids 0 ∷ []) (sym is);
      number = not-true (is_char axis.kind)
          (and_parts (is_named header.dims axis.name id) (not (is_char axis.kind)) e).1;
    }
    by_dims (id ∷ other ∷ ids) is e = absurd (false≢true e)

-- lengths change no name
is_named-with_length : (header : FileHeader) (dims : List Dim) (name : List ℕ) (id : ℕ)
    → is_named (map (with_length header) dims) name id ≡ is_named dims name id
unfolding is_named
is_named-with_length header dims name id = ap (λ (o : Option Dim). option_map_or
    (λ (dim : Dim). bytes_eq dim.name name) o false) (slice_get-map (with_length header) dims id)
    ∙ same (slice_get dims id)
  where
    same : (o : Option Dim)
        → option_map_or (λ (dim : Dim). bytes_eq dim.name name) (option_map (with_length header) o) false
        ≡ option_map_or
        (λ (dim : Dim). bytes_eq dim.name name) o false
    same None = refl
    same (Some dim) = refl

alone : (id : ℕ) (ids : List ℕ) → lies_along id ids ≡ true → lies_along id (drop 1 ids) ≡ false
    → IsTrue (stands_first_alone id ids)
unfolding lies_along stands_first_alone
alone id [] along later = absurd (false≢true along)
alone id (first ∷ others) along later = by_first (first == id) refl
  where
    by_first : (b : Bool) → (first == id) ≡ b → (first == id && not (lies_along id others)) ≡ true
    by_first true is = rw (is, later) refl
    by_first false is = let there : lies_along id others ≡ true = rw is at along in absurd
        (both_ways (lies_along id others) later there)

module _ (bytes : List ℕ) (site : Site) (header : FileHeader) (axis : NcVar) where
  -- a fact of each variable that is shown, from one of each variable that is kept
  all_vars : (P : ProtoVar → Type 0)
      → ((var : NcVar) → In var (kept_vars header axis) → P (proto_var bytes header axis var))
      → All P (map (proto_var bytes header axis) (kept_vars header axis))
  all_vars P each = All-from_each P _ (Each-from_in P _ (λ v h.
      let found = in_map (proto_var bytes header axis) v (kept_vars header axis) h in
      subst P found.2 (each found.0 found.1)))

  all_dims : (P : Dim → Type 0) → ((dim : Dim) → In dim header.dims → P (with_length header dim))
      → All P (map (with_length header) header.dims)
  all_dims P each = All-from_each P _ (Each-from_in P _ (λ d h.
      let found = in_map (with_length header) d header.dims h in
      subst P found.2 (each found.0 found.1)))

  kept_is_held : (var : NcVar) → In var (kept_vars header axis) → In var header.vars
  unfolding kept_vars
  kept_is_held var h = (in_filter _ var header.vars h).0

  lies_first : time_stands_first header axis ≡ Ok tt → (var : NcVar) → In var (kept_vars header axis)
      → LiesFirst (dim_of_axis axis) (proto_var bytes header axis var)
  unfolding time_stands_first proto_var
  lies_first time var h =
      let later : lies_along (dim_of_axis axis) (drop 1 var.dims) ≡ false = Each-in _ var header.vars
      (each_passes (λ (v : NcVar). TimeNotFirst v.name)
      (λ (v : NcVar). lies_along (dim_of_axis axis) (drop 1 v.dims)) header.vars time) (kept_is_held var h) in
      (λ along. (alone (dim_of_axis axis) var.dims along later, rw along refl), λ no. no)

  plain_name : names_are_plain header ≡ Ok tt → (name : List ℕ)
      → In name (map (λ (dim : Dim). dim.name) header.dims ++ map (λ (var : NcVar). var.name) header.vars)
      → IsTrue (is_plain_name name)
  unfolding names_are_plain
  plain_name plain name h = not-false (is_plain_name name)
      (Each-in (λ n. not (is_plain_name n) ≡ false) name _
      (each_passes BadProtoName (λ n. not (is_plain_name n)) _ plain) h)

  free_name : names_are_free header axis ≡ Ok tt → (var : NcVar) → In var (kept_vars header axis)
      → (bytes_eq var.name (run_name axis.name) ≡ false) × (bytes_eq var.name (offset_name axis.name) ≡ false)
  unfolding names_are_free
  free_name free var h = or_parts _ _
      (Each-in _ var (kept_vars header axis)
      (each_passes (λ (v : NcVar). NameTaken v.name)
      (λ (v : NcVar). bytes_eq v.name (run_name axis.name) || bytes_eq v.name (offset_name axis.name))
      (kept_vars header axis) free) h)

  has_length : dims_have_lengths header axis ≡ Ok tt → (dim : Dim) → In dim header.dims → dim.name ≢ axis.name
      → 0 < size_in header dim
  unfolding dims_have_lengths
  has_length lengths dim h other =
      let passes = Each-in _ dim header.dims
      (each_passes (λ (d : Dim). EmptyDimension d.name)
      (λ (d : Dim). size_in header d == 0 && not (bytes_eq d.name axis.name)) header.dims lengths) h in
      elim (and_cases (size_in header dim == 0) (not (bytes_eq dim.name axis.name)) passes) [
        | inl some ↦ let apart : size_in header dim ≡ 0 → ⊥ = eqb-false (size_in header dim) 0 some in omega arith
        | inr named ↦ absurd (other ((bytes_eq-Decides dim.name axis.name).0 (not-false _ named)))
      ]

  axis_is_shown : axis_of header ≡ Some axis → In axis (kept_vars header axis)
  unfolding axis_of kept_vars
  axis_is_shown e =
      let found = in_find (is_axis header) header.vars axis e in
      In-filter _ axis header.vars found.0 (rw ((bytes_eq-Decides axis.name axis.name).1 refl) refl)

differs : (name other : List ℕ) → bytes_eq name other ≡ false → name ≢ other
differs name other e same = both_ways (bytes_eq name other) e ((bytes_eq-Decides name other).1 same)

sound : (bytes : List ℕ) (site : Site) (proto : Proto) (p : IsProto bytes site proto)
    → IsSound (proto_with bytes site p.header p.axis)
unfolding proto_with proto_var axis_of lies_along
sound bytes site proto p =
    let header = p.header in
    let axis = p.axis in
    let dim : AxisDim header axis = AxisDim-is_axis header axis
    (in_find (is_axis header) header.vars axis p.axis_is).1 in
    let axis_var : ProtoVar = proto_var bytes header axis axis in
    let has = proto_has_data bytes header p.header_is in
    let read = IsNamed-from_read bytes header has.0 in
    let along : axis_var.timed ≡ true = subst (λ (ids : List ℕ). lies_along (dim_of_axis axis) ids ≡ true)
    (sym dim.dims_are) (rw (eq-eqb (dim_of_axis axis) (dim_of_axis axis) refl) refl) in
    record {
      id = dim_of_axis axis;
      named = is_named-with_length header header.dims axis.name (dim_of_axis axis) ∙ dim.named;
      axis = Any-from_in _ axis_var _
          (In-map (proto_var bytes header axis) axis (kept_vars header axis)
          (axis_is_shown bytes site header axis p.axis_is))
          (record { name_is = refl; dims_are = dim.dims_are; timed = along; number = dim.number });
      timed = all_vars bytes site header axis (LiesFirst (dim_of_axis axis)) (lies_first bytes site header axis p.time);
      plain_dims = all_dims bytes site header axis (λ (d : Dim). IsTrue (is_plain_name d.name))
          (λ d h. plain_name bytes site header axis p.plain d.name
          (In-append_left d.name _ _ (In-map (λ (x : Dim). x.name) d header.dims h)));
      plain_vars = all_vars bytes site header axis (λ (v : ProtoVar). IsTrue (is_plain_name v.name))
          (λ v h. plain_name bytes site header axis p.plain v.name
          (In-append_right v.name (map (λ (x : Dim). x.name) header.dims) _
          (In-map (λ (x : NcVar). x.name) v header.vars (kept_is_held bytes site header axis v h))));
      free = all_vars bytes site header axis (HasFreeName (proto_with bytes site header axis))
          (λ v h. let free = free_name bytes site header axis p.free v h
          in record {
            run = differs v.name (run_name axis.name) free.0;
            offset = differs v.name (offset_name axis.name) free.1;
          });
      lengths = all_dims bytes site header axis (λ (d : Dim). d.name ≢ axis.name → 0 < d.size)
          (has_length bytes site header axis p.lengths);
      dim_names = rw (dim_names header header.dims) read.dims;
      var_names = rw (var_names bytes header axis (kept_vars header axis)) (kept_names header axis read.vars);
      in_range = all_vars bytes site header axis (HasDims (proto_with bytes site header axis)) (λ v h.
          dims_in header (map (with_length header) header.dims) (length-map header.dims (with_length header)) v
          (each_by_recursion (λ (x : NcVar). AllByRecursion (λ id. id < length header.dims) x.dims)
          header.vars read.in_range v (kept_is_held bytes site header axis v h)));
      fixed = all_vars bytes site header axis (HasElements (proto_with bytes site header axis)) (λ v h.
          has_elements bytes site header axis v (Each-in (EndsWithin header (length bytes)) v header.vars
          (each_from_All (EndsWithin header (length bytes)) header.vars (ends_within header (length bytes) has.1))
          (kept_is_held bytes site header axis v h)));
    }

pub IsSound-proto_of : (bytes : List ℕ) (site : Site) (proto : Proto) → proto_of bytes site ≡ Ok proto → IsSound proto
IsSound-proto_of bytes site proto e = let p = IsProto-proto_of bytes site proto e in subst IsSound p.proto_is
    (sound bytes site proto p)

-- a prototype is sound
pub IsSound-given : (proto : Proto) → IsPrototype proto → IsSound proto
IsSound-given proto p = IsSound-proto_of p.bytes proto.site proto p.made
