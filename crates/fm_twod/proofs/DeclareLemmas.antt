-- The declarations of a view, and those by run and offset that are made of them.
use Rattle.std.proofs.Common.{◌≡◌, ℕ, ◌+◌, ◌<◌, Bool, true, false, cond, List, [], ◌∷◌, ◌++◌, length, get_or, map, take, Some, inl, inr, refl, sym, ap, subst, ◌∙◌, arith}
use Rattle.std.specs.Prelude.{slice_get, IsSome}
use Rattle.std.specs.Option.{option_map}
use Rattle.std.proofs.lemmas.List.{length-append, length-map, map-append, take_more}
use Rattle.std.proofs.lemmas.Option.{same_Some, slice_get-get_or, slice_get-map, slice_get_cases}
use Rattle.fm_base.proofs.ListLemmas.{slice_get-append}
use Rattle.fm_model.specs.declared.proto.Proto.{Proto}
use Rattle.fm_model.specs.declared.proto.ProtoVar.{ProtoVar}
use Rattle.fm_model.specs.Prototype.{offset_name, run_name}
use Rattle.dap_model.specs.declared.declaration.Array.{Array}
use Rattle.dap_model.specs.declared.declaration.Decl.{Decl}
use Rattle.dap_model.specs.declared.declaration.Decl.TheVariants.{Grid, Plain}
use Rattle.dap_model.specs.Picking.{parts_of}
use Rattle.fm_dataset.specs.Declarations.{array_of, decl_of, decls_of, is_grid, maps_of, seconds_of_rows}
use Rattle.fm_twod.specs.declared.declare.Sides.{Sides}
use Rattle.fm_twod.specs.Declarations.{by_sides, grid_array, grid_decl}

-- the first part of the declaration of a variable is the variable's array
pub first-part : (proto : Proto) (count : ℕ) (var : ProtoVar)
    → slice_get (parts_of (decl_of proto count var)) 0 ≡ Some (array_of proto count var)
unfolding decl_of
first-part proto count var = by_form (is_grid proto var)
  where
    by_form : (b : Bool) → slice_get (parts_of (cond b
        (Grid var.name (array_of proto count var) (maps_of proto count var)) (Plain (array_of proto count var)))) 0
        ≡ Some (array_of proto count var)
    by_form true = refl
    by_form false = refl

-- the declaration of a variable stands at the variable's index
pub decl-at : (proto : Proto) (count index : ℕ) → index < length proto.vars
    → slice_get (decls_of proto count) index ≡ option_map (decl_of proto count) (slice_get proto.vars index)
unfolding decls_of
decl-at proto count index below =
    let below' : index < length (map (decl_of proto count) proto.vars) =
    omega (arith, below, length-map proto.vars (decl_of proto count)) in
    slice_get-append (map (decl_of proto count) proto.vars) _ index below'
    ∙ slice_get-map (decl_of proto count) proto.vars index

-- an item at an index, by another name of the list
pub there : {A : Type 0} (xs ys : List A) (n : ℕ) (x : A) → xs ≡ ys → x ≡ get_or xs n x → x ≡ get_or ys n x
there xs ys n x same is = is ∙ ap (λ l. get_or l n x) same

-- there is a declaration for each variable
pub within : (proto : Proto) (count : ℕ) (shown : List Decl) (index : ℕ) → shown ≡ decls_of proto count
    → index < length proto.vars → index < length shown
unfolding decls_of
within proto count shown index is below = omega (
  arith,
  below,
  ap length is,
  length-append (map (decl_of proto count) proto.vars)
      (seconds_of_rows proto count (run_name proto.axis) ∷ seconds_of_rows proto count (offset_name proto.axis) ∷ []),
  length-map proto.vars (decl_of proto count),
)

-- which is that of the variable
shown-decl : (proto : Proto) (count : ℕ) (shown : List Decl) (index : ℕ) (var : ProtoVar) (decl : Decl)
    → shown ≡ decls_of proto count → index < length proto.vars → var ≡ get_or proto.vars index var
    → decl ≡ get_or shown index decl → decl ≡ decl_of proto count var
shown-decl proto count shown index var decl is below var_is decl_is =
    let stands : slice_get shown index ≡ Some decl =
    slice_get-get_or shown index decl (within proto count shown index is below) ∙ ap Some (sym decl_is) in
    let found : slice_get proto.vars index ≡ Some var =
    slice_get-get_or proto.vars index var below ∙ ap Some (sym var_is) in
    same_Some decl (decl_of proto count var)
    (sym stands ∙ ap (λ l. slice_get l index) is ∙ decl-at proto count index below
    ∙ ap (option_map (decl_of proto count)) found)

-- it has a first part
pub first-some : (proto : Proto) (count : ℕ) (shown : List Decl) (index : ℕ) (decl : Decl)
    → shown ≡ decls_of proto count → index < length proto.vars → decl ≡ get_or shown index decl
    → IsSome (slice_get (parts_of decl) 0)
first-some proto count shown index decl is below decl_is =
    elim (slice_get_cases proto.vars index).1 [
      | inl found ↦
          let same = shown-decl proto count shown index found.0 decl is below (sym found.3) decl_is in
          subst (λ (d : Decl). IsSome (slice_get (parts_of d) 0)) (sym same)
          (rw (first-part proto count found.0) refl)
      | inr past ↦ absurd (omega (arith, below, past.0))
    ]

-- the declaration of one variable more
pub decls-more : (sides : Sides) (proto : Proto) (count : ℕ) (shown : List Decl) (index : ℕ) (var : ProtoVar)
    (decl : Decl) (array made : Array) (old new : List Decl) → shown ≡ decls_of proto count
    → index < length proto.vars → var ≡ get_or proto.vars index var → decl ≡ get_or shown index decl
    → slice_get (parts_of decl) 0 ≡ Some array → made ≡ by_sides sides var.timed array
    → old ≡ map (grid_decl sides proto count) (take index proto.vars) → new ≡ old ++ Plain made ∷ []
    → new ≡ map (grid_decl sides proto count) (take (index + 1) proto.vars)
unfolding grid_array
decls-more sides proto count shown index var decl array made old new is below var_is decl_is first made_is so next =
    let f : ProtoVar → Decl = grid_decl sides proto count in
    let same = shown-decl proto count shown index var decl is below var_is decl_is in
    let array_is : array ≡ array_of proto count var =
    same_Some array (array_of proto count var)
    (sym first ∙ ap (λ (d : Decl). slice_get (parts_of d) 0) same ∙ first-part proto count var) in
    let one : Plain made ≡ f var = ap Plain (made_is ∙ ap (by_sides sides var.timed) array_is) in
    let more : take (index + 1) proto.vars ≡ take index proto.vars ++ var ∷ [] =
    take_more proto.vars index var below ∙ ap (λ (v : ProtoVar). take index proto.vars ++ v ∷ []) (sym var_is) in
    next ∙ ap (λ (l : List Decl). l ++ Plain made ∷ []) so
    ∙ ap (λ (d : Decl). map f (take index proto.vars) ++ d ∷ []) one
    ∙ sym (map-append f (take index proto.vars) (var ∷ [])) ∙ ap (map f) (sym more)
