-- What is shown of files of bytes: texts are bytes, and the bits of numbers fit.
use Rattle.std.proofs.Common.{◌≡◌, ◌⊎◌, ℕ, ◌^◌, ◌<◌, ◌≤◌, Bool, true, false, cond, List, [], ◌∷◌, ◌++◌, length, take, drop, All, Option, Some, None, Result, Ok, Err, inl, inr, refl, sym, ap, subst, ◌∙◌, arith, ℤ, pos, negsuc, take-append-drop}
use Rattle.std.specs.Prelude.{slice_get, slice_index, ◌≤ℤ◌, nat_lt, ◌==◌}
use Rattle.std.specs.Int.{w32, cast_unsigned, from_be_bytes}
use Rattle.std.specs.List.{flat_map}
use Rattle.std.specs.Option.{option_map_or}
use Rattle.std.specs.Result.{result_unwrap_or}
use Rattle.std.proofs.lemmas.Bool.{cases_lt, le-ltb, lt-ltb}
use Rattle.std.proofs.lemmas.Int.{ints}
use Rattle.fm_base.specs.Chain.{◌>>=◌}
use Rattle.nc_model.specs.declared.header.Header.{Header}
use Rattle.nc_model.specs.declared.header.NcVar.{NcVar}
use Rattle.nc_model.specs.declared.kind.Kind.{Kind}
use Rattle.nc_model.specs.declared.kind.Kind.TheVariants as kinds
use Rattle.nc_model.specs.Format.{IsBytes}
use Rattle.nc_model.specs.Kind.{size_of}
use Rattle.nc_model.specs.Layout.{element, elements_of, indices_of, shape_of}
use Rattle.nc_model.specs.Pattern.{width_of}
use Rattle.nc_model.proofs.Steps.{IsBytes-drop, IsOfParts-bytes}
use Rattle.fm_model.specs.declared.loaded.Loaded.{Loaded}
use Rattle.fm_model.specs.declared.loaded.LoadFault.{LoadFault}
use Rattle.fm_model.specs.declared.proto.Proto.{Proto}
use Rattle.fm_model.specs.declared.proto.ProtoVar.{ProtoVar}
use Rattle.fm_model.specs.declared.row.Row.{Row}
use Rattle.fm_model.specs.declared.row.ViewName.{ViewName}
use Rattle.fm_model.specs.declared.row.ViewName.TheVariants.{Best, BestFrom, Run, Offset, Forecast}
use Rattle.fm_model.specs.Attribute.{trimmed}
use Rattle.fm_model.specs.LoadAxis.{file_header, file_var}
use Rattle.fm_model.specs.Prototype.{kept_vars, lengths_of, proto_var, proto_with}
use Rattle.fm_model.specs.Site.{IsPrototype}
use Rattle.fm_model.specs.Variable.{dim_of_axis, lies_along}
use Rattle.fm_model.proofs.CellLemmas.{in_from_slice_get}
use Rattle.fm_model.proofs.Members.{in_map, Each, Each-from_in, Each-in, In}
use Rattle.fm_model.proofs.ProtoLemmas.{IsProto-proto_of}
use Rattle.dap_model.specs.declared.declaration.Array.{Array}
use Rattle.dap_model.specs.declared.declaration.DapKind.{DapKind}
use Rattle.dap_model.specs.declared.declaration.DapKind.TheVariants as daps
use Rattle.dap_model.specs.Xdr.{bits_in, AreBitsOf}
use Rattle.fm_dataset.specs.Declarations.{array_of, dap_kind_of, is_axis_of, kind_in}
use Rattle.fm_dataset.specs.Kept.{HasInstants}
use Rattle.fm_dataset.specs.Values.{array_at, axis_time, bits_of, characters, element_along, element_fixed, element_in, element_of, offset_time, run_time, text_of_part, time_bits, var_bits, var_of_part, var_text, Shown}
use Rattle.fm_dataset.proofs.ElementLemmas.{var_there}
use Rattle.fm_dataset.proofs.PartLemmas.{part_is}
use Rattle.fm_dataset.proofs.RowLemmas.{instants_at}
use Rattle.fm_dataset.proofs.WidthLemmas.{added_fits, axis_fits}
use Rattle.dap_client.proofs.Fixed.{no_bytes, IsBytes-append}

-- ---- bytes

front_bytes : (n : ℕ) (bytes : List ℕ) → IsBytes bytes → IsBytes (take n bytes)
front_bytes n bytes are =
    IsOfParts-bytes.front (take n bytes) (drop n bytes) (subst IsBytes (sym (take-append-drop n bytes)) are)

each_bytes : {A : Type 0} (f : A → List ℕ) (xs : List A) → ((x : A) → IsBytes (f x)) → IsBytes (flat_map f xs)
each_bytes f [] each = no_bytes
each_bytes f (x ∷ xs) each = IsBytes-append (f x) (flat_map f xs) (each x) (each_bytes f xs each)

-- the values that a prototype has
pub fixed_bytes : (proto : Proto) (given : IsPrototype proto) → IsBytes given.bytes
    → Each (λ (var : ProtoVar). IsBytes var.fixed) proto.vars
unfolding proto_with proto_var elements_of element
fixed_bytes proto given are =
    let p = IsProto-proto_of given.bytes proto.site proto given.made in
    let values : (var : NcVar) → IsBytes (proto_var given.bytes p.header p.axis var).fixed = λ var.
    by_time p.header var (lies_along (dim_of_axis p.axis) var.dims) in
    subst (λ (q : Proto). Each (λ (var : ProtoVar). IsBytes var.fixed) q.vars) p.proto_is
    (Each-from_in (λ (var : ProtoVar). IsBytes var.fixed) _ (λ var held.
    let found = in_map (proto_var given.bytes p.header p.axis) var (kept_vars p.header p.axis) held in
    subst (λ (v : ProtoVar). IsBytes v.fixed) found.2 (values found.0)))
  where
    by_time : (header : Header) (var : NcVar) (b : Bool) → IsBytes (cond b []
        (flat_map (λ (index : List ℕ). element given.bytes header var index) (indices_of (shape_of header var))))
    by_time header var true = no_bytes
    by_time header var false = each_bytes (element given.bytes header var) (indices_of (shape_of header var)) (λ index.
        front_bytes (size_of var.kind) _ (IsBytes-drop _ given.bytes are))

-- an element of a variable of a file
held_bytes : (file : Loaded) (name index : List ℕ) → IsBytes file.content → IsBytes (element_in file name index)
unfolding element_in element
held_bytes file name index are = by_header (file_header file.content)
  where
    by_var : (header : Header) (r : Result NcVar LoadFault) → IsBytes (result_unwrap_or
        (r >>= (λ (var : NcVar). Ok (element file.content header var index))) [])
    by_var header (Err fault) = no_bytes
    by_var header (Ok var) = front_bytes (size_of var.kind) _ (IsBytes-drop _ file.content are)

    by_header : (r : Result Header LoadFault) → IsBytes (result_unwrap_or
        (r >>= (λ (header : Header). file_var header name
        >>= (λ (var : NcVar). Ok (element file.content header var index)))) [])
    by_header (Err fault) = no_bytes
    by_header (Ok header) = by_var header (file_var header name)

-- ---- a dataset of bytes, whose times are instants

pub record ShowsBytes (shown : Shown) : Type 0 where
  pub fixed : Each (λ (var : ProtoVar). IsBytes var.fixed) shown.proto.vars
  pub contents : Each (λ (row : Row). IsBytes row.file.content) shown.rows
  pub instants : All HasInstants shown.rows

-- the bits of a number of bytes
number_fits : (kind : Kind) (bytes : List ℕ) → IsBytes bytes → (dap_kind_of kind ≡ daps.Text → ⊥)
    → AreBitsOf (dap_kind_of kind) (from_be_bytes (width_of kind) bytes)
unfolding bits_in
number_fits kinds.Byte bytes are number = omega (arith, are 0)
number_fits kinds.Char bytes are number = absurd (number refl)
number_fits kinds.Short bytes are number = omega (arith, are 0, are 1)
number_fits kinds.Int bytes are number = omega (arith, are 0, are 1, are 2, are 3)
number_fits kinds.Float bytes are number = omega (arith, are 0, are 1, are 2, are 3)
number_fits kinds.Double bytes are number =
    omega (arith, are 0, are 1, are 2, are 3, are 4, are 5, are 6, are 7)

-- the bits of whole seconds that aren't many
seconds_fit : (z : ℤ) → z ≤ℤ pos 4_294_967_295 → cast_unsigned w32 z < 2 ^ 32
seconds_fit (pos n) few = omega (arith, ints, few)
seconds_fit (negsuc n) few = omega arith

time_fits : (rows : List Row) (time : Row → ℤ) (index : List ℕ) → All HasInstants rows
    → ((row : Row) → HasInstants row → time row ≤ℤ pos 4_294_967_295) → time_bits rows time index < 2 ^ 32
unfolding time_bits
time_fits rows time index instants few = by_row (slice_get rows (slice_index index 0)) refl
  where
    by_row : (o : Option Row) → slice_get rows (slice_index index 0) ≡ o
        → option_map_or (λ (row : Row). cast_unsigned w32 (time row)) o 0 < 2 ^ 32
    by_row None is = omega arith
    by_row (Some row) is = seconds_fit (time row) (few row (instants_at rows (slice_index index 0) row instants is))

axis_few : (view : ViewName) (row : Row) → HasInstants row → axis_time view row ≤ℤ pos 4_294_967_295
axis_few Best row has = let high = has.valid.high in omega (arith, ints, high)
axis_few (BestFrom least) row has = let high = has.valid.high in omega (arith, ints, high)
axis_few (Run run) row has = let high = has.valid.high in omega (arith, ints, high)
axis_few (Offset seconds) row has = let high = has.valid.high in omega (arith, ints, high)
axis_few (Forecast valid) row has = let high = has.run.high in omega (arith, ints, high)

run_few : (row : Row) → HasInstants row → run_time row ≤ℤ pos 4_294_967_295
run_few row has = let high = has.run.high in omega (arith, ints, high)

offset_few : (row : Row) → HasInstants row → offset_time row ≤ℤ pos 4_294_967_295
offset_few row has =
    let high = has.valid.high in
    let low = has.run.low in
    omega (arith, ints, high, low)

module _ (shown : Shown) (shows : ShowsBytes shown) where
  element_bytes : (var : ProtoVar) (index : List ℕ) → In var shown.proto.vars
      → IsBytes (element_of shown.proto shown.rows var index)
  unfolding element_of element_along element_fixed
  element_bytes var index held = by_time var.timed
    where
      by_row : (o : Option Row) → slice_get shown.rows (slice_index index 0) ≡ o → IsBytes (option_map_or
          (λ (row : Row). element_in row.file var.name (row.index ∷ drop 1 index)) o [])
      by_row None is = no_bytes
      by_row (Some row) is = held_bytes row.file var.name (row.index ∷ drop 1 index)
          (Each-in (λ (r : Row). IsBytes r.file.content) row shown.rows shows.contents
          (in_from_slice_get shown.rows (slice_index index 0) row is))

      by_time : (b : Bool) → IsBytes (cond b (element_along shown.rows var index)
          (element_fixed shown.proto var index))
      by_time true = by_row (slice_get shown.rows (slice_index index 0)) refl
      by_time false = front_bytes (size_of var.kind) _ (IsBytes-drop _ var.fixed
          (Each-in (λ (v : ProtoVar). IsBytes v.fixed) var shown.proto.vars shows.fixed held))

  -- the text of a part
  pub text_bytes : (decl part : ℕ) (index : List ℕ) → IsBytes (text_of_part shown decl part index)
  unfolding text_of_part trimmed characters
  text_bytes decl part index = by_var (var_of_part shown.proto decl part) refl
    where
      by_var : (o : Option ProtoVar) → var_of_part shown.proto decl part ≡ o
          → IsBytes (option_map_or (λ (var : ProtoVar). var_text shown.proto shown.rows var index) o [])
      by_var None is = no_bytes
      by_var (Some var) is =
          let there = var_there shown.proto decl part var is in
          let held = in_from_slice_get shown.proto.vars there.0 var there.1 in
          front_bytes _ _ (each_bytes (λ (more : List ℕ). element_of shown.proto shown.rows var (index ++ more))
          (indices_of (drop (length index) (lengths_of shown.proto var.dims)))
          (λ more. element_bytes var (index ++ more) held))

  var_bits-fit : (var : ProtoVar) (index : List ℕ) → In var shown.proto.vars
      → (kind_in shown.proto var ≡ daps.Text → ⊥)
      → AreBitsOf (kind_in shown.proto var) (var_bits shown.proto shown.rows shown.view var index)
  unfolding var_bits kind_in
  var_bits-fit var index held number = by_axis (is_axis_of shown.proto var) refl
    where
      by_axis : (b : Bool) → is_axis_of shown.proto var ≡ b
          → AreBitsOf (kind_in shown.proto var) (cond b (time_bits shown.rows (axis_time shown.view) index)
          (from_be_bytes (width_of var.kind) (element_of shown.proto shown.rows var index)))
      by_axis true is = axis_fits shown.proto var _ is
          (time_fits shown.rows (axis_time shown.view) index shows.instants (axis_few shown.view))
      by_axis false is =
          let kind : kind_in shown.proto var ≡ dap_kind_of var.kind = rw is refl in
          subst (λ (k : DapKind). AreBitsOf k (from_be_bytes (width_of var.kind)
          (element_of shown.proto shown.rows var index))) (sym kind)
          (number_fits var.kind _ (element_bytes var index held) (λ text. number (kind ∙ text)))

  -- the bits of a part
  pub bits_fit : (decl part : ℕ) (array : Array) (index : List ℕ) → array_at shown decl part ≡ Some array
      → (array.kind ≡ daps.Text → ⊥) → AreBitsOf array.kind (bits_of shown decl part index)
  unfolding bits_of array_of
  bits_fit decl part array index there number = by_order (cases_lt decl (length shown.proto.vars))
    where
      below : decl < length shown.proto.vars → AreBitsOf array.kind (bits_of shown decl part index)
      below few =
          let is = part_is shown decl part array few there in
          let held = var_there shown.proto decl part is.var is.var_is in
          let kind : kind_in shown.proto is.var ≡ array.kind = sym (ap (λ (a : Array). a.kind) is.array_is) in
          let bits = var_bits-fit is.var index (in_from_slice_get shown.proto.vars held.0 is.var held.1)
          (λ text. number (sym kind ∙ text)) in
          let test : nat_lt decl (length shown.proto.vars) ≡ true = lt-ltb decl (length shown.proto.vars) few in
          rw (test, is.var_is) (subst (λ (k : DapKind).
          AreBitsOf k (var_bits shown.proto shown.rows shown.view is.var index)) kind bits)

      by_run : (b : Bool) → time_bits shown.rows (cond b run_time offset_time) index < 2 ^ 32
      by_run true = time_fits shown.rows run_time index shows.instants run_few
      by_run false = time_fits shown.rows offset_time index shows.instants offset_few

      past : length shown.proto.vars ≤ decl → AreBitsOf array.kind (bits_of shown decl part index)
      past most =
          let test : nat_lt decl (length shown.proto.vars) ≡ false = le-ltb decl (length shown.proto.vars) most in
          rw test (added_fits shown decl part _ array most (by_run (decl == length shown.proto.vars)) there)

      by_order : (decl < length shown.proto.vars) ⊎ (length shown.proto.vars ≤ decl)
          → AreBitsOf array.kind (bits_of shown decl part index)
      by_order (inl few) = below few
      by_order (inr most) = past most
