-- The arrays that a dataset declares have names, and dimensions with names and sizes.
use Rattle.std.proofs.Common.{◌≡◌, ◌⊎◌, ℕ, ◌≤◌, Bool, true, false, cond, List, [], ◌∷◌, map, drop, Option, Some, None, inl, inr, refl, subst, arith}
use Rattle.std.specs.Prelude.{slice_get}
use Rattle.std.specs.List.{filter_map}
use Rattle.fm_base.specs.Name.{is_name_byte}
use Rattle.nc_model.specs.declared.header.Dim.{Dim}
use Rattle.fm_model.specs.declared.proto.Proto.{Proto}
use Rattle.fm_model.specs.declared.proto.ProtoVar.{ProtoVar}
use Rattle.fm_model.specs.Prototype.{offset_name, run_name, IsSound}
use Rattle.fm_model.proofs.CellLemmas.{in_from_slice_get}
use Rattle.fm_model.proofs.FindLemmas.{in_find}
use Rattle.fm_model.proofs.Members.{in_filter_map, in_map, Each, Each-from_in, Each-in, In, In-append_cases}
use Rattle.dap_model.specs.declared.declaration.Array.{Array}
use Rattle.dap_model.specs.declared.declaration.Decl.{Decl}
use Rattle.dap_model.specs.declared.declaration.Decl.TheVariants.{Grid, Plain}
use Rattle.dap_model.specs.Picking.{parts_of}
use Rattle.fm_dataset.specs.Declarations.{array_dims, array_of, coordinate_of, coordinates_of, decl_of, decls_of, dim_at, dims_in, is_coordinate_of, is_grid, maps_of, rows_dim, seconds_of_rows}
use Rattle.fm_dataset.proofs.LongLemmas.{front_of, long_row, others_of, Each-take, IsFront, IsLong}
use Rattle.fm_dataset.proofs.NameLemmas.{held_index}
use Rattle.fm_dataset.specs.Values.{row_dims}
use Rattle.dap_client.specs.Message.{IsDim, IsWord}
use Rattle.reply_laws.proofs.NameLemmas.{HasNames}

-- an array has a name, and so has each of its dimensions, which isn't empty
pub record IsWhole (array : Array) : Type 0 where
  pub name : IsWord is_name_byte array.name
  pub dims : Each IsDim array.dims

module _ (proto : Proto) (count : ℕ) (sound : IsSound proto) (names : HasNames proto) (some : 1 ≤ count) where
  -- the dimension of the axis, and any other
  rows_are : IsDim (rows_dim proto count)
  rows_are = record { name = names.axis; some = some }

  dim_is : (id : ℕ) → IsLong proto id → IsDim (dim_at proto id)
  unfolding dim_at
  dim_is id long = by_dim (slice_get proto.dims id) refl
    where
      by_dim : (o : Option Dim) → slice_get proto.dims id ≡ o → IsDim (dim_at proto id)
      by_dim None is = absurd (let none : 1 ≤ 0 = rw is at long in omega (arith, none))
      by_dim (Some dim) is =
          let size : 1 ≤ dim.size = rw is at long in
          let one : IsDim dim = record {
            name = Each-in (λ (d : Dim). IsWord is_name_byte d.name) dim proto.dims names.dims
                (in_from_slice_get proto.dims id dim is);
            some = size;
          } in
          rw is one

  dims_are : (ids : List ℕ) → Each (IsLong proto) ids → Each IsDim (map (dim_at proto) ids)
  dims_are [] long = tt
  dims_are (id ∷ ids) long = (dim_is id long.0, dims_are ids long.1)

  -- the array of a variable
  array_is : (var : ProtoVar) → In var proto.vars → IsWhole (array_of proto count var)
  unfolding array_of dims_in
  array_is var held = record {
    name = Each-in (λ (v : ProtoVar). IsWord is_name_byte v.name) var proto.vars names.vars held;
    dims = by_time var.timed refl;
  }
    where
      there : (n : ℕ) × (slice_get proto.vars n ≡ Some var)
      there = held_index var proto.vars held

      front : IsFront (others_of var) (row_dims var)
      front = front_of var

      long : Each (IsLong proto) (others_of var)
      long = rw front.some_is (Each-take (IsLong proto) front.count (row_dims var)
          (long_row proto sound there.0 var there.1))

      by_time : (b : Bool) → var.timed ≡ b → Each IsDim (cond b
          (rows_dim proto count ∷ map (dim_at proto) (drop 1 (array_dims var))) (map (dim_at proto) (array_dims var)))
      by_time true timed = (
        rows_are,
        dims_are (drop 1 (array_dims var)) (subst (λ (t : Bool).
            Each (IsLong proto) (cond t (drop 1 (array_dims var)) (array_dims var))) timed long),
      )
      by_time false untimed =
          dims_are (array_dims var) (subst (λ (t : Bool).
          Each (IsLong proto) (cond t (drop 1 (array_dims var)) (array_dims var))) untimed long)

  -- the arrays of a variable's declaration
  maps_are : (ids : List ℕ) → Each IsWhole (map (array_of proto count) (filter_map (coordinate_of proto) ids))
  unfolding coordinate_of
  maps_are ids = Each-from_in IsWhole _ (λ part held.
      let var = in_map (array_of proto count) part (filter_map (coordinate_of proto) ids) held in
      let id = in_filter_map (coordinate_of proto) var.0 ids var.1 in
      let found = in_find (is_coordinate_of proto id.0) proto.vars var.0 id.2 in
      subst IsWhole var.2 (array_is var.0 found.0))

  decl_is : (var : ProtoVar) → In var proto.vars → Each IsWhole (parts_of (decl_of proto count var))
  unfolding decl_of maps_of coordinates_of
  decl_is var held = by_grid (is_grid proto var)
    where
      by_grid : (b : Bool) → Each IsWhole (parts_of (cond b
          (Grid var.name (array_of proto count var)
          (map (array_of proto count) (filter_map (coordinate_of proto) (array_dims var))))
          (Plain (array_of proto count var))))
      by_grid true = (array_is var held, maps_are (array_dims var))
      by_grid false = (array_is var held, tt)

  -- each array that is declared
  pub whole_parts : (decl : Decl) → In decl (decls_of proto count) → Each IsWhole (parts_of decl)
  unfolding decls_of seconds_of_rows
  whole_parts decl held = by_case (In-append_cases decl (map (decl_of proto count) proto.vars) _ held)
    where
      run : Decl
      run = seconds_of_rows proto count (run_name proto.axis)

      offset : Decl
      offset = seconds_of_rows proto count (offset_name proto.axis)

      Parts : Decl → Type 0
      Parts d = Each IsWhole (parts_of d)

      by_case : In decl (map (decl_of proto count) proto.vars) ⊎ In decl (run ∷ offset ∷ []) → Parts decl
      by_case (inl here) =
          let var = in_map (decl_of proto count) decl proto.vars here in subst Parts var.2 (decl_is var.0 var.1)
      by_case (inr (inl is)) = subst Parts is (record { name = names.run; dims = (rows_are, tt) }, tt)
      by_case (inr (inr (inl is))) = subst Parts is (record { name = names.offset; dims = (rows_are, tt) }, tt)
      by_case (inr (inr (inr none))) = absurd none
