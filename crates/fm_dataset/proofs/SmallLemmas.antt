-- The arrays of a dataset have few dimensions, none of them empty, and few elements.
use Rattle.std.proofs.Common.{◌≡◌, ℕ, ◌+◌, ◌*◌, ◌^◌, ◌<◌, ◌≤◌, Bool, true, false, cond, List, [], ◌∷◌, length, get_or, map, drop, Some, All, inl, inr, refl, sym, ap, subst, ◌∙◌, arith}
use Rattle.std.specs.Prelude.{slice_get}
use Rattle.std.proofs.lemmas.List.{drop-map, length-drop, length-map, length-take}
use Rattle.std.proofs.lemmas.Nat.{mul-le}
use Rattle.std.proofs.lemmas.Option.{same_Some, slice_get_cases, slice_get-get_or}
use Rattle.std.proofs.lemmas.Slice.Eq.{bytes_eq-Decides}
use Rattle.nc_model.specs.declared.header.Dim.{Dim}
use Rattle.nc_model.specs.Layout.{product}
use Rattle.fm_model.specs.declared.limit.TheConstants.{MAX_BYTES, MAX_ROWS}
use Rattle.fm_model.specs.declared.loaded.Slot.{Slot}
use Rattle.fm_model.specs.declared.proto.Proto.{Proto}
use Rattle.fm_model.specs.declared.proto.ProtoVar.{ProtoVar}
use Rattle.fm_model.specs.declared.row.Row.{Row}
use Rattle.fm_model.specs.Prototype.{lengths_of, IsAxis, IsSound}
use Rattle.fm_model.specs.Site.{IsPrototype}
use Rattle.fm_model.proofs.CellLemmas.{in_from_slice_get}
use Rattle.fm_model.proofs.Members.{All-from_each, Each, Each-in, In, in_from_Any}
use Rattle.dap_model.specs.declared.declaration.Array.{Array}
use Rattle.fm_dataset.specs.Declarations.{array_dims, array_of, dim_at, dims_in, is_axis_of, rows_dim}
use Rattle.fm_dataset.specs.Kept.{has_slot, slot_number, HasSlotIn}
use Rattle.fm_dataset.specs.Rows.{AreRows, IsRowOf}
use Rattle.fm_dataset.specs.Values.{row_dims, IsSmall}
use Rattle.fm_dataset.proofs.BlockLemmas.{row_within, slot_there}
use Rattle.fm_dataset.proofs.CountLemmas.{count_fits}
use Rattle.fm_dataset.proofs.IndexLemmas.{lengths_are}
use Rattle.fm_dataset.proofs.TableLemmas.{slot_found}
use Rattle.fm_dataset.proofs.LongLemmas.{IsLong, long_dims, front_few, others_of, IsFront, front_of, long_row, Each-take}
use Rattle.fm_dataset.proofs.NameLemmas.{one_index, held_index}
use Rattle.fm_dataset.proofs.PrototypeLimits.{limits, HasLimit}

-- an array with these dimensions is small
pub small_by : (array : Array) (dims : List Dim) → array.dims ≡ dims → length dims ≤ 1025
    → Each (λ (dim : Dim). 1 ≤ dim.size) dims → product (map (λ (dim : Dim). dim.size) dims) < 2 ^ 64
    → IsSmall array
small_by array dims is rank sizes few = record {
  rank = subst (λ (ds : List Dim). length ds ≤ 1025) (sym is) rank;
  sizes = subst (λ (ds : List Dim). All (λ (dim : Dim). 1 ≤ dim.size) ds) (sym is)
      (All-from_each (λ (dim : Dim). 1 ≤ dim.size) dims sizes);
  few = subst (λ (ds : List Dim). product (map (λ (dim : Dim). dim.size) ds) < 2 ^ 64) (sym is) few;
}

module _ (proto : Proto) (sound : IsSound proto) where
  module _ (number : ℕ) (var : ProtoVar) (there : slice_get proto.vars number ≡ Some var) where
    held : In var proto.vars
    held = in_from_slice_get proto.vars number var there

    -- the axis has one dimension
    axis_alone : is_axis_of proto var ≡ true → drop 1 var.dims ≡ []
    axis_alone is =
        let axis = in_from_Any (IsAxis proto sound.id) proto.vars sound.axis in
        let found = held_index axis.0 proto.vars axis.1 in
        let named : axis.0.name ≡ var.name =
        axis.2.name_is ∙ sym ((bytes_eq-Decides var.name proto.axis).0 is) in
        let index = one_index (λ (v : ProtoVar). v.name) proto.vars found.0 number axis.0 var sound.var_names found.1
        there named in
        let same : axis.0 ≡ var =
        same_Some axis.0 var (sym found.1 ∙ ap (slice_get proto.vars) index ∙ there) in
        ap (λ (v : ProtoVar). drop 1 v.dims) (sym same) ∙ ap (drop 1) axis.2.dims_are

    module _ (rows : List Row) (rows_are : AreRows proto rows) (timed : var.timed ≡ true) where
      in_file : (row : Row) → IsRowOf proto row → is_axis_of proto var ≡ false
          → product (drop 1 (lengths_of proto var.dims)) ≤ MAX_BYTES
      in_file row is other =
          let has : has_slot proto var ≡ true = rw (timed, other) refl in
          let slotted : HasSlotIn proto row var (slot_number proto number) =
          record { sound = sound; row_is = is; slotted = slot_found proto number var there has } in
          let slot : Slot = get_or row.file.slots (slot_number proto number) (record { begin = 0; step = 0 }) in
          let found = slice_get-get_or row.file.slots (slot_number proto number) (record { begin = 0; step = 0 })
          (slot_there proto row var (slot_number proto number) slotted) in
          let within = row_within proto row var (slot_number proto number) slotted slot found in
          let few = count_fits var.kind (slot.begin + row.index * slot.step)
          (product (drop 1 (lengths_of proto var.dims))) (length row.file.content) within in
          omega (arith, few, is.small)

      -- the elements of one row of a variable along the axis are few
      pub row_few : product (lengths_of proto (drop 1 var.dims)) ≤ MAX_BYTES
      unfolding product
      row_few = by_axis (is_axis_of proto var) refl
        where
          by_axis : (b : Bool) → is_axis_of proto var ≡ b → product (lengths_of proto (drop 1 var.dims)) ≤ MAX_BYTES
          by_axis true is = rw (axis_alone is) (omega arith)
          by_axis false other =
              elim (slice_get_cases rows 0).1 [
                | inl some ↦ rw (← drop-map _ 1 var.dims)
                    (in_file some.0 (subst (IsRowOf proto) some.3 (rows_are.each 0 some.0 some.1)) other)
                | inr past ↦ absurd (let has = rows_are.some in omega (arith, has, past.0))
              ]

    -- the array of a variable is small
    pub small_array : IsPrototype proto → (rows : List Row) → AreRows proto rows
        → IsSmall (array_of proto (length rows) var)
    unfolding array_of dims_in product
    small_array given rows rows_are = by_time var.timed refl
      where
        limit : HasLimit proto var
        limit = Each-in (HasLimit proto) var proto.vars (limits proto given).vars held

        front : IsFront (others_of var) (row_dims var)
        front = front_of var

        long : Each (IsLong proto) (others_of var)
        long = rw front.some_is (Each-take (IsLong proto) front.count (row_dims var)
            (long_row proto sound number var there))

        few : product (map (λ (dim : Dim). dim.size) (map (dim_at proto) (others_of var)))
            ≤ product (lengths_of proto (row_dims var))
        few = rw front.some_is (rw (← lengths_are proto (row_dims var))
            (front_few proto front.count (row_dims var)
            (long_row proto sound number var there)))

        rank : length (map (dim_at proto) (others_of var)) ≤ 1024
        rank =
            let mapped = length-map (others_of var) (dim_at proto) in
            let taken = ap length front.some_is ∙ length-take front.count (row_dims var) in
            let whole = shorter var.timed in
            let all = limit.rank in
            omega (arith, mapped, taken, whole, all)
          where
            shorter : (b : Bool) → length (cond b (drop 1 var.dims) var.dims) ≤ length var.dims
            shorter true = let left = length-drop 1 var.dims in omega (arith, left)
            shorter false = omega arith

        -- what is known of the other dimensions, by whether the variable lies along the axis
        rank_by : (b : Bool) → var.timed ≡ b
            → length (map (dim_at proto) (cond b (drop 1 (array_dims var)) (array_dims var))) ≤ 1024
        rank_by b is = subst (λ (t : Bool).
            length (map (dim_at proto) (cond t (drop 1 (array_dims var)) (array_dims var))) ≤ 1024) is rank

        long_by : (b : Bool) → var.timed ≡ b
            → Each (IsLong proto) (cond b (drop 1 (array_dims var)) (array_dims var))
        long_by b is = subst (λ (t : Bool).
            Each (IsLong proto) (cond t (drop 1 (array_dims var)) (array_dims var))) is long

        few_by : (b : Bool) → var.timed ≡ b → product (map (λ (dim : Dim). dim.size)
            (map (dim_at proto) (cond b (drop 1 (array_dims var)) (array_dims var))))
            ≤ product (lengths_of proto (cond b (drop 1 var.dims) var.dims))
        few_by b is = subst (λ (t : Bool). product (map (λ (dim : Dim). dim.size)
            (map (dim_at proto) (cond t (drop 1 (array_dims var)) (array_dims var))))
            ≤ product (lengths_of proto (cond t (drop 1 var.dims) var.dims))) is few

        dims_by : (b : Bool) → var.timed ≡ b → (array_of proto (length rows) var).dims
            ≡ cond b (rows_dim proto (length rows) ∷ map (dim_at proto) (drop 1 (array_dims var)))
            (map (dim_at proto) (array_dims var))
        dims_by b is = ap (λ (t : Bool).
            cond t (rows_dim proto (length rows) ∷ map (dim_at proto) (drop 1 (array_dims var)))
            (map (dim_at proto) (array_dims var))) is

        by_time : (b : Bool) → var.timed ≡ b → IsSmall (array_of proto (length rows) var)
        by_time true timed =
            let rank' = rank_by true timed in
            let few' = few_by true timed in
            let row = row_few rows rows_are timed in
            let most = mul-le (length rows)
            (product (map (λ (dim : Dim). dim.size) (map (dim_at proto) (drop 1 (array_dims var))))) MAX_ROWS MAX_BYTES
            rows_are.few (omega (arith, few', row)) in
            small_by (array_of proto (length rows) var)
            (rows_dim proto (length rows) ∷ map (dim_at proto) (drop 1 (array_dims var))) (dims_by true timed)
            (omega (arith, rank')) (rows_are.some, long_dims proto (drop 1 (array_dims var)) (long_by true timed))
            (omega (arith, most))
        by_time false untimed =
            let rank' = rank_by false untimed in
            let few' = few_by false untimed in
            let all = limit.few untimed in
            small_by (array_of proto (length rows) var) (map (dim_at proto) (array_dims var)) (dims_by false untimed)
            (omega (arith, rank')) (long_dims proto (array_dims var) (long_by false untimed))
            (omega (arith, few', all))
