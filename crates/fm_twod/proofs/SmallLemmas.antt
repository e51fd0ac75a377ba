-- The arrays of a two-dimensional view have few dimensions, none of them empty, and few elements.
use Rattle.std.proofs.Common.{◌≡◌, ℕ, ◌*◌, ◌^◌, ◌<◌, ◌≤◌, Bool, true, false, List, [], ◌∷◌, length, map, take, drop, Some, All, inl, inr, refl, sym, ap, subst, ◌∙◌, arith}
use Rattle.std.specs.Prelude.{slice_get}
use Rattle.std.proofs.lemmas.List.{length-drop, length-map, length-take}
use Rattle.std.proofs.lemmas.Nat.{mul-le}
use Rattle.std.proofs.lemmas.Option.{slice_get_cases}
use Rattle.nc_model.specs.declared.header.Dim.{Dim}
use Rattle.nc_model.specs.Layout.{product}
use Rattle.nc_layout.proofs.RankLemmas.{length-index}
use Rattle.fm_model.specs.declared.limit.TheConstants.{MAX_BYTES, MAX_FILES, MAX_ROWS}
use Rattle.fm_model.specs.declared.proto.Proto.{Proto}
use Rattle.fm_model.specs.declared.proto.ProtoVar.{ProtoVar}
use Rattle.fm_model.specs.Prototype.{lengths_of, IsSound}
use Rattle.fm_model.proofs.CellLemmas.{in_from_slice_get}
use Rattle.fm_model.proofs.Members.{Each, Each-in, In}
use Rattle.fm_model.proofs.ProtoLemmas.{IsSound-given}
use Rattle.dap_model.specs.declared.declaration.Array.{Array}
use Rattle.dap_model.specs.declared.declaration.Decl.{Decl}
use Rattle.fm_dataset.specs.Declarations.{array_dims, array_of, dim_at, dims_in}
use Rattle.fm_dataset.specs.Values.{row_dims, IsSmall}
use Rattle.fm_dataset.proofs.IndexLemmas.{lengths_are}
use Rattle.fm_dataset.proofs.LongLemmas.{front_few, front_of, long_dims, long_row, others_of, Each-take, IsFront, IsLong}
use Rattle.fm_dataset.proofs.PrototypeLimits.{limits, HasLimit}
use Rattle.fm_dataset.proofs.SmallLemmas.{row_few, small_array, small_by}
use Rattle.dap_xdr.specs.Content.{array_in}
use Rattle.fm_twod.specs.Declarations.{by_sides, grid_array, grid_dims, sides_of}
use Rattle.fm_twod.specs.Laid.{array_in_laid, decls_in, sides_in, HasIndex, IsGrid, Laid}
use Rattle.fm_twod.proofs.GridLemmas.{grid-added, grid-var}

module _ (laid : Laid) (decls : List Decl) (grid : IsGrid laid decls) where
  abbrev proto : Proto
  proto = laid.cells.proto

  sound : IsSound proto
  sound = IsSound-given proto grid.given

  module _ (number : ℕ) (var : ProtoVar) (stands : slice_get proto.vars number ≡ Some var) where
    held : In var proto.vars
    held = in_from_slice_get proto.vars number var stands

    -- the other dimensions of the variable's array
    others : List Dim
    others = map (dim_at proto) (drop 1 (array_dims var))

    limit : HasLimit proto var
    limit = Each-in (HasLimit proto) var proto.vars (limits proto grid.given).vars held

    others-are : var.timed ≡ true → others_of var ≡ drop 1 (array_dims var)
    others-are timed = rw timed refl

    rows-are : var.timed ≡ true → row_dims var ≡ drop 1 var.dims
    rows-are timed = rw timed refl

    some-dims : var.timed ≡ true → length (drop 1 var.dims) ≤ 1023
    some-dims timed = omega (arith, length-drop 1 var.dims, limit.rank)

    rank-few : var.timed ≡ true → length others ≤ 1023
    unfolding others
    rank-few timed =
        let front : IsFront (others_of var) (row_dims var) = front_of var in
        let taken = ap length front.some_is ∙ length-take front.count (row_dims var) in
        omega (
          arith,
          length-map (drop 1 (array_dims var)) (dim_at proto),
          ap length (others-are timed),
          taken,
          ap length (rows-are timed),
          some-dims timed,
        )

    all-long : var.timed ≡ true → Each (λ (dim : Dim). 1 ≤ dim.size) others
    unfolding others
    all-long timed =
        let front : IsFront (others_of var) (row_dims var) = front_of var in
        let long : Each (IsLong proto) (others_of var) =
        subst (Each (IsLong proto)) (sym front.some_is)
        (Each-take (IsLong proto) front.count (row_dims var) (long_row proto sound number var stands)) in
        long_dims proto (drop 1 (array_dims var)) (subst (Each (IsLong proto)) (others-are timed) long)

    others-few : var.timed ≡ true → product (map (λ (dim : Dim). dim.size) others) ≤ MAX_BYTES
    unfolding others
    others-few timed =
        let front : IsFront (others_of var) (row_dims var) = front_of var in
        let fewer = front_few proto front.count (row_dims var) (long_row proto sound number var stands) in
        let whole : product (map (λ (dim : Dim). dim.size) (map (dim_at proto) (row_dims var)))
        ≡ product (lengths_of proto (drop 1 var.dims)) =
        ap product (lengths_are proto (row_dims var) ∙ ap (lengths_of proto) (rows-are timed)) in
        let part : product (map (λ (dim : Dim). dim.size) (map (dim_at proto) (drop 1 (array_dims var))))
        ≡ product (map (λ (dim : Dim). dim.size) (map (dim_at proto) (take front.count (row_dims var)))) =
        ap (λ (ids : List ℕ). product (map (λ (dim : Dim). dim.size) (map (dim_at proto) ids)))
        (sym (others-are timed) ∙ front.some_is) in
        omega (arith, fewer, whole, part, row_few proto sound number var stands laid.cells.rows grid.rows_are timed)

    -- the array of a variable along the axis has the runs and the offsets, and then the others
    timed-dims : var.timed ≡ true
        → (array_in_laid laid var).dims ≡ (sides_in laid).run ∷ (sides_in laid).offset ∷ others
    unfolding grid_array by_sides grid_dims array_of dims_in others
    timed-dims timed = rw timed refl

    whole-dims : var.timed ≡ false → (array_in_laid laid var).dims ≡ (array_of proto (length laid.cells.rows) var).dims
    unfolding grid_array by_sides grid_dims
    whole-dims untimed = rw untimed refl

    timed-small : var.timed ≡ true → IsSmall (array_in_laid laid var)
    unfolding product sides_of
    timed-small timed =
        let inner : ℕ = product (map (λ (dim : Dim). dim.size) others) in
        let few = others-few timed in
        let second = mul-le (length laid.offsets) inner MAX_ROWS MAX_BYTES grid.few_offsets few in
        let first = mul-le (length laid.runs) (length laid.offsets * inner) MAX_FILES (MAX_ROWS * MAX_BYTES)
        grid.few_runs second in
        small_by (array_in_laid laid var) ((sides_in laid).run ∷ (sides_in laid).offset ∷ others) (timed-dims timed)
        (omega (arith, rank-few timed)) (grid.some_runs, (grid.some_offsets, all-long timed)) (omega (arith, first))

    whole-small : var.timed ≡ false → IsSmall (array_in_laid laid var)
    whole-small untimed =
        let array : Array = array_of proto (length laid.cells.rows) var in
        let is = small_array proto sound number var stands grid.given laid.cells.rows grid.rows_are in
        record {
          rank = subst (λ (dims : List Dim). length dims ≤ 1025) (sym (whole-dims untimed)) is.rank;
          sizes = subst (All (λ (dim : Dim). 1 ≤ dim.size)) (sym (whole-dims untimed)) is.sizes;
          few = subst (λ (dims : List Dim). product (map (λ (dim : Dim). dim.size) dims) < 2 ^ 64)
              (sym (whole-dims untimed)) is.few;
        }

    pub var-small : IsSmall (array_in_laid laid var)
    var-small = by_time var.timed refl
      where
        by_time : (b : Bool) → var.timed ≡ b → IsSmall (array_in_laid laid var)
        by_time true timed = timed-small timed
        by_time false untimed = whole-small untimed

-- the runs or the offsets alone
side-small : (array : Array) (dim : Dim) → array.dims ≡ dim ∷ [] → 0 < dim.size → dim.size ≤ MAX_ROWS → IsSmall array
unfolding product
side-small array dim is some few =
    small_by array (dim ∷ []) is (omega arith) (omega (arith, some), tt) (omega (arith, few))

-- each array is small
pub small : (laid : Laid) (decls : List Decl) → IsGrid laid decls → (decl part : ℕ) (array : Array)
    → array_in (decls_in laid) decl part ≡ Some array → IsSmall array
unfolding sides_of
small laid decls grid decl part array e = elim (slice_get_cases laid.cells.proto.vars decl).1 [
  | inl some ↦ subst IsSmall (sym (grid-var laid decl part array some.0 some.2 e))
      (var-small laid decls grid decl some.0 some.2)
  | inr past ↦ elim (grid-added laid decl part array past.0 e).dims_are [
    | inl run ↦ side-small array (sides_in laid).run run grid.some_runs (omega (arith, grid.few_runs))
    | inr offset ↦ side-small array (sides_in laid).offset offset grid.some_offsets grid.few_offsets
  ]
]

-- an index list of a variable's array is short
pub index-few : (laid : Laid) (decls : List Decl) (decl : ℕ) (var : ProtoVar) (index : List ℕ) → IsGrid laid decls
    → HasIndex laid decl var index → length index ≤ 1025
index-few laid decls decl var index grid has =
    let is = var-small laid decls grid decl var has.var_is in
    let long = length-index _ _ has.index_is in
    omega (arith, is.rank, long, length-map (array_in_laid laid var).dims (λ (dim : Dim). dim.size))
