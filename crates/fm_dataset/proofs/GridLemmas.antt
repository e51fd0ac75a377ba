-- A variable is shown as a Grid where each dimension of its array has a coordinate variable.
use Rattle.std.proofs.Common.{◌≡◌, ◌≢◌, ℕ, true, false, ◌&&◌, List, length, map, ap, ap₂, sym, ◌∙◌}
use Rattle.std.proofs.lemmas.Bool.{cond-true, cond-false, eq-eqb, ne_eqb}
use Rattle.std.proofs.lemmas.List.{length-map}
use Rattle.fm_model.specs.declared.proto.Proto.{Proto}
use Rattle.fm_model.specs.declared.proto.ProtoVar.{ProtoVar}
use Rattle.dap_model.specs.declared.declaration.Array.{Array}
use Rattle.dap_model.specs.declared.declaration.Decl.TheVariants.{Grid, Plain}
use Rattle.fm_dataset.specs.Declarations.{array_dims, array_of, coordinates_of, decl_of, have_coordinates, is_grid, maps_of, may_be_grid}

-- there are as many maps as coordinate variables
as_many : (proto : Proto) (count : ℕ) (ids : List ℕ) (maps : List Array)
    → maps ≡ map (array_of proto count) (coordinates_of proto ids) → length maps ≡ length (coordinates_of proto ids)
as_many proto count ids maps are = ap length are ∙ length-map (coordinates_of proto ids) (array_of proto count)

pub shown_grid : (proto : Proto) (count : ℕ) (var : ProtoVar) (ids : List ℕ) (array : Array) (maps : List Array)
    → ids ≡ array_dims var → true ≡ may_be_grid proto var → array ≡ array_of proto count var
    → maps ≡ map (array_of proto count) (coordinates_of proto ids) → length maps ≡ length ids
    → Grid var.name array maps ≡ decl_of proto count var
unfolding decl_of is_grid maps_of
shown_grid proto count var ids array maps dims may is are same =
    let are_here : maps ≡ map (array_of proto count) (coordinates_of proto (array_dims var)) = rw dims at are in
    let all = eq-eqb (length (coordinates_of proto (array_dims var))) (length (array_dims var))
    (sym (as_many proto count (array_dims var) maps are_here) ∙ same ∙ ap length dims) in
    let grid : is_grid proto var ≡ true = ap₂ (λ a b. a && b) (sym may) all in
    ap₂ (λ (a : Array) (m : List Array). Grid var.name a m) is are_here ∙ sym (cond-true _ _ _ grid)

pub shown_short : (proto : Proto) (count : ℕ) (var : ProtoVar) (ids : List ℕ) (array : Array) (maps : List Array)
    → ids ≡ array_dims var → true ≡ may_be_grid proto var → array ≡ array_of proto count var
    → maps ≡ map (array_of proto count) (coordinates_of proto ids) → length maps ≢ length ids
    → Plain array ≡ decl_of proto count var
unfolding decl_of is_grid
shown_short proto count var ids array maps dims may is are differ =
    let many = rw dims at (as_many proto count ids maps are) in
    let some = ne_eqb (length (coordinates_of proto (array_dims var))) (length (array_dims var))
    (λ e. differ (many ∙ e ∙ sym (ap length dims))) in
    let grid : is_grid proto var ≡ false = ap₂ (λ a b. a && b) (sym may) some in
    ap (λ (a : Array). Plain a) is ∙ sym (cond-false _ _ _ grid)

pub shown_plain : (proto : Proto) (count : ℕ) (var : ProtoVar) (array : Array) → false ≡ may_be_grid proto var
    → array ≡ array_of proto count var → Plain array ≡ decl_of proto count var
unfolding decl_of is_grid
shown_plain proto count var array not is =
    let grid : is_grid proto var ≡ false = ap (λ a. a && have_coordinates proto (array_dims var)) (sym not) in
    ap (λ (a : Array). Plain a) is ∙ sym (cond-false _ _ _ grid)
