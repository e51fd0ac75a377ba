-- The names and the rank of an array of a dataset.
use Rattle.std.proofs.Common.{◌≡◌, ℕ, ◌-◌, ◌<◌, ◌≤◌, Bool, true, false, cond, List, [], ◌∷◌, codes, length, map, take, drop, Some, ◌⊎◌, inl, inr, refl, sym, ap, subst, arith}
use Rattle.std.specs.Prelude.{IsTrue}
use Rattle.std.specs.List.{AllByRecursion}
use Rattle.std.proofs.lemmas.Bool.{cases_lt}
use Rattle.std.proofs.lemmas.List.{length-drop, length-map, length-take}
use Rattle.std.proofs.lemmas.Option.{slice_get_cases}
use Rattle.nc_model.specs.declared.kind.Kind.{Kind}
use Rattle.nc_model.specs.declared.kind.Kind.TheVariants as kinds
use Rattle.nc_model.specs.Format.{is_name_text}
use Rattle.fm_model.specs.declared.proto.Proto.{Proto}
use Rattle.fm_model.specs.declared.proto.ProtoVar.{ProtoVar}
use Rattle.fm_model.specs.Attribute.{is_char}
use Rattle.fm_model.specs.Prototype.{offset_name, run_name, HasDims}
use Rattle.fm_model.specs.Site.{IsPrototype}
use Rattle.fm_model.proofs.CellLemmas.{in_from_slice_get}
use Rattle.fm_model.proofs.Members.{Each, Each-in, each_from_All}
use Rattle.fm_model.proofs.ProtoLemmas.{IsSound-given}
use Rattle.dap_model.specs.declared.declaration.Array.{Array}
use Rattle.dap_model.specs.declared.declaration.DapKind.TheVariants as daps
use Rattle.fm_dataset.specs.Declarations.{array_dims, array_of, dap_kind_of, dim_at, dims_in, is_axis_of, kind_in, rows_dim}
use Rattle.fm_dataset.specs.Values.{array_at, Shown}
use Rattle.fm_dataset.proofs.ElementLemmas.{var_there}
use Rattle.fm_dataset.proofs.LongLemmas.{Each-take}
use Rattle.fm_dataset.proofs.PartLemmas.{added_array, part_is, IsAdded}
use Rattle.nc_writer.proofs.NameLemmas.{behind, offset-text, run-text}
use Rattle.nc_writer.proofs.ProtoLemmas.{named-proto, IsNamedDim, IsNamedProto, IsNamedVar}

-- an array and its dimensions have names, and it has few dimensions: one fewer where its values are texts
pub record IsNamedArray (array : Array) : Type 0 where
  pub named : IsTrue (is_name_text array.name)
  pub dims : AllByRecursion IsNamedDim array.dims
  pub rank : length array.dims ≤ 1024
  pub texts : array.kind ≡ daps.Text → length array.dims ≤ 1023

-- ---- the array of a variable

module _ (proto : Proto) (named : IsNamedProto proto) where
  named-dim : (id : ℕ) → id < length proto.dims → IsNamedDim (dim_at proto id)
  unfolding dim_at
  named-dim id below = elim (slice_get_cases proto.dims id).1 [
    | inl some ↦
        rw some.2 (Each-in IsNamedDim some.0 proto.dims named.dims (in_from_slice_get proto.dims id some.0 some.2))
    | inr past ↦ absurd (omega (arith, below, past.0))
  ]

  named-ids : (ids : List ℕ) → Each (λ id. id < length proto.dims) ids
      → AllByRecursion IsNamedDim (map (dim_at proto) ids)
  named-ids [] each = tt
  named-ids (id ∷ ids) each = (named-dim id each.0, named-ids ids each.1)

  module _ (count : ℕ) (var : ProtoVar) where
    named-dims : Each (λ id. id < length proto.dims) (array_dims var)
        → AllByRecursion IsNamedDim (dims_in proto count var)
    unfolding dims_in
    named-dims each = by_time var.timed
      where
        after : (ids : List ℕ) → Each (λ id. id < length proto.dims) ids
            → Each (λ id. id < length proto.dims) (drop 1 ids)
        after [] all = tt
        after (id ∷ ids) all = all.1

        by_time : (b : Bool) → AllByRecursion IsNamedDim (cond b
            (rows_dim proto count ∷ map (dim_at proto) (drop 1 (array_dims var)))
            (map (dim_at proto) (array_dims var)))
        by_time true = (named.axis, named-ids (drop 1 (array_dims var)) (after (array_dims var) each))
        by_time false = named-ids (array_dims var) each

few-dims : (proto : Proto) (count : ℕ) (var : ProtoVar) (most : ℕ) → 1 ≤ most → length (array_dims var) ≤ most
    → length (dims_in proto count var) ≤ most
unfolding dims_in
few-dims proto count var most some few = by_time var.timed
  where
    by_time : (b : Bool) → length (cond b
        (rows_dim proto count ∷ map (dim_at proto) (drop 1 (array_dims var)))
        (map (dim_at proto) (array_dims var))) ≤ most
    by_time true = omega (
      arith,
      some,
      few,
      length-map (drop 1 (array_dims var)) (dim_at proto),
      length-drop 1 (array_dims var),
    )
    by_time false = omega (arith, few, length-map (array_dims var) (dim_at proto))

-- the dimensions of a variable's array are some of the variable's
few-own : (var : ProtoVar) → length (array_dims var) ≤ length var.dims
unfolding array_dims
few-own var = by_kind (is_char var.kind)
  where
    by_kind : (b : Bool) → length (cond b (take (length var.dims - 1) var.dims) var.dims) ≤ length var.dims
    by_kind true = omega (arith, length-take (length var.dims - 1) var.dims)
    by_kind false = omega arith

few-text : (var : ProtoVar) → is_char var.kind ≡ true → length (array_dims var) ≤ length var.dims - 1
unfolding array_dims
few-text var is = rw is (omega (arith, length-take (length var.dims - 1) var.dims))

below-own : (proto : Proto) (var : ProtoVar) → HasDims proto var → Each (λ id. id < length proto.dims) (array_dims var)
unfolding array_dims
below-own proto var there = by_kind (is_char var.kind)
  where
    all : Each (λ id. id < length proto.dims) var.dims
    all = each_from_All (λ id. id < length proto.dims) var.dims there

    by_kind : (b : Bool)
        → Each (λ id. id < length proto.dims) (cond b (take (length var.dims - 1) var.dims) var.dims)
    by_kind true = Each-take (λ id. id < length proto.dims) (length var.dims - 1) var.dims all
    by_kind false = all

char-kind : (axis : Bool) (kind : Kind) → cond axis daps.Int32 (dap_kind_of kind) ≡ daps.Text → is_char kind ≡ true
char-kind true kind e = absurd cc
char-kind false kinds.Byte e = absurd cc
char-kind false kinds.Char e = refl
char-kind false kinds.Short e = absurd cc
char-kind false kinds.Int e = absurd cc
char-kind false kinds.Float e = absurd cc
char-kind false kinds.Double e = absurd cc

array-of-var : (proto : Proto) (count : ℕ) (var : ProtoVar) → IsNamedProto proto → IsNamedVar var → HasDims proto var
    → IsNamedArray (array_of proto count var)
unfolding array_of kind_in
array-of-var proto count var named own there = record {
  named = own.named;
  dims = named-dims proto named count var (below-own proto var there);
  rank =
      let few = few-own var in
      let rank = own.rank in
      few-dims proto count var 1024 (omega arith) (omega (arith, few, rank));
  texts = λ text.
      let few = few-text var (char-kind (is_axis_of proto var) var.kind text) in
      let rank = own.rank in
      few-dims proto count var 1023 (omega arith) (omega (arith, few, rank));
}

-- ---- the run and the offset of each row

added-name : (shown : Shown) (array : Array) → IsTrue (is_name_text shown.proto.axis) → IsAdded shown array
    → IsTrue (is_name_text array.name)
unfolding run_name offset_name
added-name shown array named is = elim is.name [
  | inl run ↦
      subst (λ (name : List ℕ). IsTrue (is_name_text name)) (sym run)
      (behind shown.proto.axis (codes "_run") named run-text)
  | inr offset ↦
      subst (λ (name : List ℕ). IsTrue (is_name_text name)) (sym offset)
      (behind shown.proto.axis (codes "_offset") named offset-text)
]

pub named-array : (shown : Shown) (decl part : ℕ) (array : Array) → IsPrototype shown.proto
    → array_at shown decl part ≡ Some array → IsNamedArray array
named-array shown decl part array given e = by_order (cases_lt decl (length shown.proto.vars))
  where
    named : IsNamedProto shown.proto
    named = named-proto shown.proto given

    by_order : (decl < length shown.proto.vars) ⊎ (length shown.proto.vars ≤ decl) → IsNamedArray array
    by_order (inl below) =
        let is = part_is shown decl part array below e in
        let there = var_there shown.proto decl part is.var is.var_is in
        let held = in_from_slice_get shown.proto.vars there.0 is.var there.1 in
        let sound = IsSound-given shown.proto given in
        subst IsNamedArray (sym is.array_is) (array-of-var shown.proto (length shown.rows) is.var named
        (Each-in IsNamedVar is.var shown.proto.vars named.vars held)
        (Each-in (HasDims shown.proto) is.var shown.proto.vars
        (each_from_All (HasDims shown.proto) shown.proto.vars sound.in_range) held))
    by_order (inr most) =
        let is = added_array shown decl part array most e in
        let few : length array.dims ≡ 1 = ap length is.dims in
        record {
          named = added-name shown array named.axis is;
          dims = subst (AllByRecursion IsNamedDim) (sym is.dims) (named.axis, tt);
          rank = omega (arith, few);
          texts = λ text. omega (arith, few);
        }
