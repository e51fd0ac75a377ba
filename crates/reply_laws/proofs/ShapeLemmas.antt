-- What a view declares: arrays, and Grids with a map for each dimension of their array, of its name and along it alone.
use Rattle.std.proofs.Common.{◌≡◌, ◌⊎◌, ℕ, ◌<◌, ◌&&◌, ◌==◌, not, Bool, true, false, cond, List, [], ◌∷◌, length, map, take, drop, Some, inl, inr, refl, sym, ap, subst, ◌∙◌, ◌-◌, arith}
use Rattle.std.specs.Prelude.{slice_get, IsTrue}
use Rattle.std.specs.List.{filter_map}
use Rattle.std.specs.Str.{bytes_eq}
use Rattle.std.proofs.lemmas.Bool.{and_parts, eqb-true, not-true}
use Rattle.std.proofs.lemmas.Option.{same_Some}
use Rattle.std.proofs.lemmas.Slice.Eq.{bytes_eq-Decides}
use Rattle.fm_base.specs.Name.{is_name_byte}
use Rattle.nc_model.specs.declared.header.Dim.{Dim}
use Rattle.fm_model.specs.declared.proto.Proto.{Proto}
use Rattle.fm_model.specs.declared.proto.ProtoVar.{ProtoVar}
use Rattle.fm_model.specs.Attribute.{is_char}
use Rattle.fm_model.specs.Prototype.{offset_name, run_name, IsSound, LiesFirst}
use Rattle.fm_model.specs.Variable.{is_coordinate, is_named, lies_along, stands_first_alone}
use Rattle.fm_model.proofs.FindLemmas.{in_find}
use Rattle.fm_model.proofs.Members.{each_from_All, in_filter_map, in_map, Each, Each-from_in, Each-in, In, In-append_cases}
use Rattle.fm_model.proofs.WithinLemmas.{dim_named}
use Rattle.dap_model.specs.declared.declaration.Array.{Array}
use Rattle.dap_model.specs.declared.declaration.Decl.{Decl}
use Rattle.dap_model.specs.declared.declaration.Decl.TheVariants.{Grid, Plain, Structure}
use Rattle.dap_model.specs.ProjectionFacts.{IsGridded}
use Rattle.fm_dataset.specs.Declarations.{array_dims, array_of, coordinate_of, coordinates_of, decl_of, decls_of, dim_at, dims_in, have_coordinates, is_coordinate_of, is_coordinate_var, is_grid, maps_of, may_be_grid, repeats, rows_dim, seconds_of_rows}
use Rattle.dap_client.specs.Message.{IsWord}
use Rattle.reply_laws.proofs.NameLemmas.{HasNames}

-- a map for each dimension: it has its name, and lies along it alone
abbrev pub AreMaps : List Dim → List Array → Type 0
AreMaps [] [] = Unit {0}
AreMaps [] (first ∷ maps) = ⊥
AreMaps (dim ∷ dims) [] = ⊥
AreMaps (dim ∷ dims) (first ∷ maps) = ((first.name ≡ dim.name) × (first.dims ≡ dim ∷ [])) × AreMaps dims maps

-- a Grid has the name of its array, a dimension or more, and a map for each
pub record IsDeclaredGrid (name : List ℕ) (array : Array) (maps : List Array) : Type 0 where
  pub word : IsWord is_name_byte name
  pub name_is : name ≡ array.name
  pub some : 0 < length array.dims
  pub maps_are : AreMaps array.dims maps

-- a view declares arrays and Grids
abbrev pub IsDeclared : Decl → Type 0
IsDeclared (Plain array) = IsWord is_name_byte array.name
IsDeclared (Grid name array maps) = IsDeclaredGrid name array maps
IsDeclared (Structure name members) = ⊥

-- a map along one dimension has its name
abbrev HasItsName : Array → Type 0
HasItsName part = (dim : Dim) → part.dims ≡ dim ∷ [] → part.name ≡ dim.name

maps_by : (dims : List Dim) (maps : List Array)
    → map (λ (part : Array). part.dims) maps ≡ map (λ (dim : Dim). dim ∷ []) dims → Each HasItsName maps
    → AreMaps dims maps
maps_by [] [] along named = tt
maps_by [] (part ∷ maps) along named = absurd (cc)
maps_by (dim ∷ dims) [] along named = absurd (cc)
maps_by (dim ∷ dims) (part ∷ maps) along named =
    let first : part.dims ≡ dim ∷ [] = cc in
    let others : map (λ (p : Array). p.dims) maps ≡ map (λ (d : Dim). d ∷ []) dims = cc in
    ((named.0 dim first, first), maps_by dims maps others named.1)

first_is : (dim other : Dim) → dim ∷ [] ≡ other ∷ [] → dim ≡ other
first_is dim other same = cc

module _ (proto : Proto) (count : ℕ) (sound : IsSound proto) (names : HasNames proto) where
  module _ (var : ProtoVar) (held : In var proto.vars) (id : ℕ) (is : is_coordinate_of proto id var ≡ true) where
    one_dim : var.dims ≡ id ∷ []
    unfolding is_coordinate_of
    one_dim = (bytes_eq-Decides var.dims (id ∷ [])).0
        (and_parts (bytes_eq var.dims (id ∷ [])) (is_coordinate_var proto var) is).0

    tests : (is_named proto.dims var.name id && not (is_char var.kind)) ≡ true
    unfolding is_coordinate_of is_coordinate
    tests = subst (λ (ids : List ℕ). is_coordinate proto.dims var.name var.kind ids ≡ true) one_dim
        (and_parts (bytes_eq var.dims (id ∷ [])) (is_coordinate_var proto var) is).1

    array_dim : array_dims var ≡ id ∷ []
    unfolding array_dims
    array_dim =
        let number = not-true (is_char var.kind)
        (and_parts (is_named proto.dims var.name id) (not (is_char var.kind)) tests).1 in
        ap (λ b. cond b (take (length var.dims - 1) var.dims) var.dims) number ∙ one_dim

    -- the dimension of a coordinate variable has its name
    own_dim : (dim : Dim) × (slice_get proto.dims id ≡ Some dim) × (dim.name ≡ var.name)
    own_dim = dim_named proto.dims var.name id
        (and_parts (is_named proto.dims var.name id) (not (is_char var.kind)) tests).0

    axis_dim : var.timed ≡ true → proto.axis ≡ var.name
    unfolding stands_first_alone
    axis_dim timed =
        let lies = Each-in (LiesFirst sound.id) var proto.vars
        (each_from_All (LiesFirst sound.id) proto.vars sound.timed) held in
        let alone = subst (λ (ids : List ℕ). IsTrue (stands_first_alone sound.id ids)) one_dim (lies.0 timed).0 in
        let same : id ≡ sound.id = eqb-true id sound.id
        (and_parts (id == sound.id) (not (lies_along sound.id [])) alone).0 in
        let axis = dim_named proto.dims proto.axis sound.id sound.named in
        let dim : own_dim.0 ≡ axis.0 =
        same_Some own_dim.0 axis.0 (sym own_dim.1 ∙ ap (slice_get proto.dims) same ∙ axis.1) in
        sym axis.2 ∙ sym (ap (λ (d : Dim). d.name) dim) ∙ own_dim.2

    coordinate_name : (dim : Dim) → dims_in proto count var ≡ dim ∷ [] → var.name ≡ dim.name
    unfolding dims_in dim_at
    coordinate_name dim along = by_time var.timed refl along
      where
        by_time : (b : Bool) → var.timed ≡ b
            → cond b (rows_dim proto count ∷ map (dim_at proto) (drop 1 (array_dims var)))
            (map (dim_at proto) (array_dims var)) ≡ dim ∷ [] → var.name ≡ dim.name
        by_time true timed same =
            let rows : rows_dim proto count ∷ [] ≡ dim ∷ [] =
            ap (λ (ids : List ℕ). rows_dim proto count ∷ map (dim_at proto) (drop 1 ids)) (sym array_dim) ∙ same in
            sym (axis_dim timed) ∙ ap (λ (d : Dim). d.name) (first_is (rows_dim proto count) dim rows)
        by_time false untimed same =
            let other : dim_at proto id ∷ [] ≡ dim ∷ [] =
            ap (λ (ids : List ℕ). map (dim_at proto) ids) (sym array_dim) ∙ same in
            let own : dim_at proto id ≡ own_dim.0 = rw own_dim.1 refl in
            sym own_dim.2 ∙ ap (λ (d : Dim). d.name) (sym own ∙ first_is (dim_at proto id) dim other)

  maps_named : (ids : List ℕ) → Each HasItsName (map (array_of proto count) (filter_map (coordinate_of proto) ids))
  unfolding coordinate_of array_of
  maps_named ids = Each-from_in HasItsName _ (λ part held.
      let var = in_map (array_of proto count) part (filter_map (coordinate_of proto) ids) held in
      let id = in_filter_map (coordinate_of proto) var.0 ids var.1 in
      let found = in_find (is_coordinate_of proto id.0) proto.vars var.0 id.2 in
      subst HasItsName var.2 (λ dim along. coordinate_name var.0 found.0 id.0 found.1 dim along))

  some_dims : (var : ProtoVar) → is_grid proto var ≡ true → 0 < length (dims_in proto count var)
  unfolding is_grid dims_in
  some_dims var is =
      let ids = array_dims var in
      let free = not (is_coordinate_var proto var) in
      let parts = and_parts (may_be_grid proto var) (have_coordinates proto ids) is in
      let some = not-true (length ids == 0) (and_parts (not (length ids == 0)) free
      (and_parts (not (length ids == 0) && free) (not (repeats ids)) parts.0).0).0 in
      by_time var.timed ids some
    where
      by_time : (b : Bool) (ids : List ℕ) → (length ids == 0) ≡ false
          → 0 < length (cond b (rows_dim proto count ∷ map (dim_at proto) (drop 1 ids)) (map (dim_at proto) ids))
      by_time true ids some = omega arith
      by_time false [] some = absurd (let no : true ≡ false = some in cc)
      by_time false (id ∷ ids) some = omega arith

  var_declared : (var : ProtoVar) → In var proto.vars → IsGridded (decl_of proto count var)
      → IsDeclared (decl_of proto count var)
  unfolding decl_of maps_of coordinates_of array_of
  var_declared var held gridded = by_grid (is_grid proto var) refl gridded
    where
      word : IsWord is_name_byte var.name
      word = Each-in (λ (v : ProtoVar). IsWord is_name_byte v.name) var proto.vars names.vars held

      maps : List Array
      maps = map (array_of proto count) (filter_map (coordinate_of proto) (array_dims var))

      by_grid : (b : Bool) → is_grid proto var ≡ b
          → IsGridded (cond b (Grid var.name (array_of proto count var) maps) (Plain (array_of proto count var)))
          → IsDeclared (cond b (Grid var.name (array_of proto count var) maps) (Plain (array_of proto count var)))
      by_grid true is along = record {
        word = word;
        name_is = refl;
        some = some_dims var is;
        maps_are = maps_by (dims_in proto count var) maps along (maps_named (array_dims var));
      }
      by_grid false is along = word

  -- each declaration of a view
  pub declared : (decl : Decl) → In decl (decls_of proto count) → IsGridded decl → IsDeclared decl
  unfolding decls_of seconds_of_rows
  declared decl held gridded = by_case (In-append_cases decl (map (decl_of proto count) proto.vars) _ held)
    where
      run : Decl
      run = seconds_of_rows proto count (run_name proto.axis)

      offset : Decl
      offset = seconds_of_rows proto count (offset_name proto.axis)

      by_case : In decl (map (decl_of proto count) proto.vars) ⊎ In decl (run ∷ offset ∷ []) → IsDeclared decl
      by_case (inl here) =
          let var = in_map (decl_of proto count) decl proto.vars here in
          subst IsDeclared var.2 (var_declared var.0 var.1 (subst IsGridded (sym var.2) gridded))
      by_case (inr (inl is)) = subst IsDeclared is names.run
      by_case (inr (inr (inl is))) = subst IsDeclared is names.offset
      by_case (inr (inr (inr none))) = absurd none
