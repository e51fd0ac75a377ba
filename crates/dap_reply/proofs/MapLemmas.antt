-- A Grid of a view has one map for each dimension of its array, over that dimension alone.
use Rattle.std.proofs.Common.{◌≡◌, ℕ, zero, suc, ◌-◌, ◌==◌, ◌&&◌, List, [], ◌∷◌, length, map, take, drop, Bool, true, false, not, cond, Option, Some, None, All, refl, sym, ap, ap₂, subst, ◌∙◌, arith}
use Rattle.std.specs.Prelude.{IsTrue}
use Rattle.std.specs.List.{cons_option, filter_map, list_any}
use Rattle.std.specs.Str.{bytes_eq}
use Rattle.std.proofs.lemmas.Bool.{and_parts, eqb-true, false≢true, not-true, or_parts}
use Rattle.std.proofs.lemmas.List.{append_assoc, take_all}
use Rattle.std.proofs.lemmas.Slice.Eq.{bytes_eq-Decides}
use Rattle.nc_model.specs.declared.header.Dim.{Dim}
use Rattle.fm_base.proofs.ListLemmas.{length-filter_map}
use Rattle.fm_model.specs.declared.proto.Proto.{Proto}
use Rattle.fm_model.specs.declared.proto.ProtoVar.{ProtoVar}
use Rattle.fm_model.specs.Attribute.{is_char}
use Rattle.fm_model.specs.Prototype.{IsSound, LiesFirst}
use Rattle.fm_model.specs.Variable.{is_coordinate, is_named, lies_along, stands_first_alone}
use Rattle.fm_model.proofs.FindLemmas.{in_find}
use Rattle.fm_model.proofs.Members.{All-from_each, Each, Each-from_in, Each-in, Each-push, each_from_All, In, in_map}
use Rattle.dap_model.specs.declared.declaration.Array.{Array}
use Rattle.dap_model.specs.declared.declaration.Decl.{Decl}
use Rattle.dap_model.specs.declared.declaration.Decl.TheVariants.{Grid, Plain}
use Rattle.dap_model.specs.ProjectionFacts.{IsGridded}
use Rattle.fm_dataset.specs.Declarations.{array_dims, array_of, coordinate_of, coordinates_of, decl_of, decls_of, dim_at, dims_in, have_coordinates, is_coordinate_of, is_coordinate_var, is_grid, maps_of, may_be_grid, repeats, rows_dim, seconds_of_rows}

-- no other dimension is the axis's
Others : ℕ → List ℕ → Type 0
Others id ids = Each (λ (other : ℕ). (other == id) ≡ false) ids

others-not-along : (id : ℕ) (ids : List ℕ) → lies_along id ids ≡ false → Others id ids
unfolding lies_along Others
others-not-along id [] is = tt
others-not-along id (first ∷ ids) is =
    let parts = or_parts (first == id) (list_any (λ other. other == id) ids) is in
    (parts.0, others-not-along id ids parts.1)

others-take : (id n : ℕ) (ids : List ℕ) → Others id ids → Others id (take n ids)
unfolding Others
others-take id zero ids each = tt
others-take id (suc n) [] each = tt
others-take id (suc n) (first ∷ ids) each = (each.0, others-take id n ids each.1)

module _ (proto : Proto) (count : ℕ) (sound : IsSound proto) where
  -- the dimension of this number, as it is shown
  single : ℕ → Dim
  single id = cond (id == sound.id) (rows_dim proto count) (dim_at proto id)

  single-axis : (id : ℕ) → (id == sound.id) ≡ true → single id ≡ rows_dim proto count
  unfolding single
  single-axis id is = rw is refl

  single-other : (id : ℕ) → (id == sound.id) ≡ false → single id ≡ dim_at proto id
  unfolding single
  single-other id is = rw is refl

  single-others : (ids : List ℕ) → Others sound.id ids → map (dim_at proto) ids ≡ map single ids
  unfolding Others
  single-others [] each = refl
  single-others (id ∷ ids) each =
      ap₂ (λ d ds. d ∷ ds) (sym (single-other id each.0)) (single-others ids each.1)

  module _ (var : ProtoVar) (held : In var proto.vars) where
    lies : LiesFirst sound.id var
    lies = Each-in (LiesFirst sound.id) var proto.vars (each_from_All (LiesFirst sound.id) proto.vars sound.timed) held

    -- the dimensions of an array along the axis, of which there is one, and of any other
    timed-dims : (dims : List ℕ) (n : ℕ) → IsTrue (stands_first_alone sound.id dims)
        → (length (take n dims) == 0) ≡ false
        → rows_dim proto count ∷ map (dim_at proto) (drop 1 (take n dims)) ≡ map single (take n dims)
    unfolding stands_first_alone
    timed-dims [] n alone some = absurd (false≢true alone)
    timed-dims (first ∷ others) zero alone some = absurd (false≢true (sym some))
    timed-dims (first ∷ others) (suc n) alone some =
        let parts = and_parts (first == sound.id) (not (lies_along sound.id others)) alone in
        ap₂ (λ d ds. d ∷ ds) (sym (single-axis first parts.0))
        (single-others (take n others) (others-take sound.id n others
        (others-not-along sound.id others (not-true (lies_along sound.id others) parts.1))))

    fixed-dims : (dims : List ℕ) (n : ℕ) → lies_along sound.id dims ≡ false
        → map (dim_at proto) (take n dims) ≡ map single (take n dims)
    fixed-dims dims n fixed =
        single-others (take n dims) (others-take sound.id n dims (others-not-along sound.id dims fixed))

    shown-dims : (n : ℕ) → (length (take n var.dims) == 0) ≡ false
        → cond var.timed (rows_dim proto count ∷ map (dim_at proto) (drop 1 (take n var.dims)))
        (map (dim_at proto) (take n var.dims)) ≡ map single (take n var.dims)
    shown-dims n some = by_time var.timed refl
      where
        by_time : (b : Bool) → var.timed ≡ b
            → cond b (rows_dim proto count ∷ map (dim_at proto) (drop 1 (take n var.dims)))
            (map (dim_at proto) (take n var.dims)) ≡ map single (take n var.dims)
        by_time true timed = timed-dims var.dims n (lies.0 timed).0 some
        by_time false fixed = fixed-dims var.dims n (lies.1 fixed)

    -- the dimensions of its array
    array-dims : (length (array_dims var) == 0) ≡ false → dims_in proto count var ≡ map single (array_dims var)
    unfolding dims_in array_dims
    array-dims = by_kind (is_char var.kind)
      where
        Shows : List ℕ → Type 0
        Shows ids = (length ids == 0) ≡ false
            → cond var.timed (rows_dim proto count ∷ map (dim_at proto) (drop 1 ids)) (map (dim_at proto) ids)
            ≡ map single ids

        by_kind : (b : Bool) → Shows (cond b (take (length var.dims - 1) var.dims) var.dims)
        by_kind true = shown-dims (length var.dims - 1)
        by_kind false = subst Shows (take_all (length var.dims) var.dims (omega arith)) (shown-dims (length var.dims))

    -- a coordinate variable has one dimension
    one-dim : (id : ℕ) → is_coordinate_of proto id var ≡ true → array_dims var ≡ id ∷ []
    unfolding is_coordinate_of is_coordinate array_dims
    one-dim id is =
        let parts = and_parts (bytes_eq var.dims (id ∷ [])) (is_coordinate proto.dims var.name var.kind var.dims) is in
        let dims : var.dims ≡ id ∷ [] = (bytes_eq-Decides var.dims (id ∷ [])).0 parts.0 in
        let kind = subst (λ ids. is_coordinate proto.dims var.name var.kind ids ≡ true) dims parts.1 in
        let number = not-true (is_char var.kind)
        (and_parts (is_named proto.dims var.name id) (not (is_char var.kind)) kind).1 in
        ap (λ b. cond b (take (length var.dims - 1) var.dims) var.dims) number ∙ dims

    coordinate-dims : (id : ℕ) → is_coordinate_of proto id var ≡ true → dims_in proto count var ≡ single id ∷ []
    coordinate-dims id is =
        let one = one-dim id is in
        array-dims (ap (λ ids. length ids == 0) one) ∙ ap (map single) one

  -- each dimension of some has its coordinate variable
  maps-dims : (ids : List ℕ) → length (coordinates_of proto ids) ≡ length ids
      → map (λ (part : Array). part.dims) (map (array_of proto count) (coordinates_of proto ids))
      ≡ map (λ (dim : Dim). dim ∷ []) (map single ids)
  unfolding coordinates_of array_of coordinate_of
  maps-dims [] all = refl
  maps-dims (id ∷ ids) all = by_found (coordinate_of proto id) refl all (maps-dims ids)
    where
      others : List ProtoVar
      others = filter_map (coordinate_of proto) ids

      by_found : (o : Option ProtoVar) → coordinate_of proto id ≡ o → length (cons_option o others) ≡ suc (length ids)
          → (length others ≡ length ids
          → map (λ (part : Array). part.dims) (map (array_of proto count) others)
          ≡ map (λ (dim : Dim). dim ∷ []) (map single ids))
          → map (λ (part : Array). part.dims) (map (array_of proto count) (cons_option o others))
          ≡ (single id ∷ []) ∷ map (λ (dim : Dim). dim ∷ []) (map single ids)
      by_found None is all rest = absurd (omega (arith, all, length-filter_map (coordinate_of proto) ids))
      by_found (Some var) is all rest =
          let there = in_find (is_coordinate_of proto id) proto.vars var is in
          ap₂ (λ d ds. d ∷ ds) (coordinate-dims var there.0 id there.1) (rest (omega (arith, all)))

  grid-dims : (var : ProtoVar) → In var proto.vars → is_grid proto var ≡ true
      → map (λ (part : Array). part.dims) (maps_of proto count var)
      ≡ map (λ (dim : Dim). dim ∷ []) (array_of proto count var).dims
  unfolding is_grid maps_of array_of
  grid-dims var held is =
      let ids = array_dims var in
      let parts = and_parts (may_be_grid proto var) (have_coordinates proto ids) is in
      let free = not (is_coordinate_var proto var) in
      let some = not-true (length ids == 0) (and_parts (not (length ids == 0)) free
      (and_parts (not (length ids == 0) && free) (not (repeats ids)) parts.0).0).0 in
      maps-dims ids (eqb-true (length (coordinates_of proto ids)) (length ids) parts.1)
      ∙ ap (map (λ (dim : Dim). dim ∷ [])) (sym (array-dims var held some))

  var-gridded : (var : ProtoVar) → In var proto.vars → IsGridded (decl_of proto count var)
  unfolding decl_of
  var-gridded var held = by_grid (is_grid proto var) refl
    where
      by_grid : (b : Bool) → is_grid proto var ≡ b
          → IsGridded (cond b (Grid var.name (array_of proto count var) (maps_of proto count var))
          (Plain (array_of proto count var)))
      by_grid true is = grid-dims var held is
      by_grid false is = tt

pub gridded : (proto : Proto) (count : ℕ) → IsSound proto → All IsGridded (decls_of proto count)
unfolding decls_of seconds_of_rows
gridded proto count sound =
    All-from_each IsGridded _ (subst (Each IsGridded) (append_assoc vars (_ ∷ []) (_ ∷ []))
    (Each-push IsGridded _ _ (Each-push IsGridded vars _ each tt) tt))
  where
    vars : List Decl
    vars = map (decl_of proto count) proto.vars

    each : Each IsGridded vars
    each = Each-from_in IsGridded vars (λ decl held.
        let var = in_map (decl_of proto count) decl proto.vars held in
        subst IsGridded var.2 (var-gridded proto count sound var.0 var.1))
