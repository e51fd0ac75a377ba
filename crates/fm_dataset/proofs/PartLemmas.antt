-- Which variable a part of a declaration is, and what its array is.
use Rattle.std.proofs.Common.{◌≡◌, ℕ, zero, suc, ◌-◌, ◌<◌, ◌≤◌, Bool, true, false, List, [], ◌∷◌, ◌++◌, length, map, take, Option, Some, None, ◌⊎◌, inl, inr, refl, sym, ap, subst, ◌∙◌, arith}
use Rattle.std.specs.Prelude.{slice_get, option_and_then}
use Rattle.std.specs.List.{filter_map, cons_option}
use Rattle.std.specs.Option.{option_map}
use Rattle.std.proofs.lemmas.Bool.{eqb-true, and_parts, cases_lt}
use Rattle.std.proofs.lemmas.List.{length-map}
use Rattle.std.proofs.lemmas.List.Elements.{All-get_or}
use Rattle.std.proofs.lemmas.Option.{none-some, same_Some, slice_get-map, slice_get_past, slice_get_within, get_or_from_slice_get}
use Rattle.fm_base.proofs.ListLemmas.{length-filter_map, slice_get-append}
use Rattle.fm_model.specs.declared.proto.Proto.{Proto}
use Rattle.fm_model.specs.declared.proto.ProtoVar.{ProtoVar}
use Rattle.fm_model.specs.Attribute.{is_char}
use Rattle.fm_model.specs.Prototype.{offset_name, run_name, HasDims, IsSound}
use Rattle.dap_model.specs.declared.declaration.Array.{Array}
use Rattle.dap_model.specs.declared.declaration.DapKind.TheVariants as daps
use Rattle.dap_model.specs.declared.declaration.Decl.{Decl}
use Rattle.dap_model.specs.Picking.{parts_of}
use Rattle.fm_dataset.specs.Declarations.{array_dims, array_of, coordinate_of, coordinates_of, decl_of, decls_of, have_coordinates, is_grid, maps_of, rows_dim, seconds_of_rows}
use Rattle.fm_dataset.specs.Values.{array_at, var_of_part, IsPart, Shown}

-- or of the second
pub slice_get-after : {A : Type 0} (xs ys : List A) (n : ℕ) → length xs ≤ n
    → slice_get (xs ++ ys) n ≡ slice_get ys (n - length xs)
slice_get-after [] ys n past = let same : n ≡ n - 0 = omega arith in ap (slice_get ys) same
slice_get-after (x ∷ xs) ys zero past = absurd (omega arith)
slice_get-after (x ∷ xs) ys (suc n) past =
    let same : n - length xs ≡ suc n - suc (length xs) = omega arith in
    slice_get-after xs ys n (omega arith) ∙ ap (slice_get ys) same

-- where each item gives something, what it gives stands at its index
filter_map-at : {A B : Type 0} (f : A → Option B) (xs : List A) (n : ℕ) → length (filter_map f xs) ≡ length xs
    → slice_get (filter_map f xs) n ≡ option_and_then f (slice_get xs n)
filter_map-at f [] n full = refl
filter_map-at {B = B} f (x ∷ xs) n full = by_case (f x) refl full n (λ k rest. filter_map-at f xs k rest)
  where
    by_case : (o : Option B) → f x ≡ o → length (cons_option o (filter_map f xs)) ≡ suc (length xs) → (n : ℕ)
        → ((k : ℕ) → length (filter_map f xs) ≡ length xs
        → slice_get (filter_map f xs) k ≡ option_and_then f (slice_get xs k))
        → slice_get (cons_option o (filter_map f xs)) n ≡ option_and_then f (slice_get (x ∷ xs) n)
    by_case None is full n later =
        let most = length-filter_map f xs in absurd (omega (arith, most, full))
    by_case (Some y) is full zero later = sym is
    by_case (Some y) is full (suc k) later = later k (omega (arith, full))

module _ (proto : Proto) (count decl : ℕ) (var : ProtoVar) (there : slice_get proto.vars decl ≡ Some var) where
  own : (array : Array) → array_of proto count var ≡ array → IsPart proto count decl zero array
  unfolding var_of_part
  own array is = record { var = var; var_is = there; array_is = sym is }

  map_part : (k : ℕ) (array : Array) → have_coordinates proto (array_dims var) ≡ true
      → slice_get (maps_of proto count var) k ≡ Some array → IsPart proto count decl (suc k) array
  unfolding var_of_part maps_of coordinates_of
  map_part k array full e =
      let ids = array_dims var in
      let same = filter_map-at (coordinate_of proto) ids k (eqb-true _ _ full) in
      let found : option_map (array_of proto count) (option_and_then (coordinate_of proto) (slice_get ids k))
      ≡ Some array =
      ap (option_map (array_of proto count)) (sym same)
      ∙ sym (slice_get-map (array_of proto count) (filter_map (coordinate_of proto) ids) k) ∙ e in
      at (option_and_then (coordinate_of proto) (slice_get ids k)) refl found
    where
      at : (o : Option ProtoVar) → option_and_then (coordinate_of proto) (slice_get (array_dims var) k) ≡ o
          → option_map (array_of proto count) o ≡ Some array → IsPart proto count decl (suc k) array
      at None is d = absurd (none-some array d)
      at (Some other) is d = record { var = other; var_is = rw there is; array_is = sym (same_Some _ array d) }

  part_of : (part : ℕ) (array : Array) → slice_get (parts_of (decl_of proto count var)) part ≡ Some array
      → IsPart proto count decl part array
  unfolding decl_of is_grid
  part_of part array e = by_case (is_grid proto var) refl part e
    where
      by_case : (b : Bool) → is_grid proto var ≡ b → (part : ℕ)
          → slice_get (parts_of (decl_of proto count var)) part ≡ Some array → IsPart proto count decl part array
      by_case true is zero e =
          let d : Some (array_of proto count var) ≡ Some array = rw is at e in own array (same_Some _ array d)
      by_case false is zero e =
          let d : Some (array_of proto count var) ≡ Some array = rw is at e in own array (same_Some _ array d)
      by_case true is (suc k) e =
          let d : slice_get (maps_of proto count var) k ≡ Some array = rw is at e in
          map_part k array (and_parts _ _ is).1 d
      by_case false is (suc k) e =
          let d : None ≡ Some array = rw is at e in absurd (none-some array d)

-- a part of the declaration of a variable is the array of a variable
pub part_is : (shown : Shown) (decl part : ℕ) (array : Array) → decl < length shown.proto.vars
    → array_at shown decl part ≡ Some array → IsPart shown.proto (length shown.rows) decl part array
unfolding array_at decls_of
part_is shown decl part array below e =
    let proto = shown.proto in
    let count = length shown.rows in
    let below' : decl < length (map (decl_of proto count) proto.vars) =
    rw (length-map proto.vars (decl_of proto count)) below in
    let same : slice_get (decls_of proto count) decl ≡ option_map (decl_of proto count) (slice_get proto.vars decl) =
    slice_get-append (map (decl_of proto count) proto.vars) _ decl below'
    ∙ slice_get-map (decl_of proto count) proto.vars decl in
    let d : option_and_then (λ (found : Decl). slice_get (parts_of found) part)
    (option_map (decl_of proto count) (slice_get proto.vars decl)) ≡ Some array = rw same at e in
    at (slice_get proto.vars decl) refl d
  where
    at : (o : Option ProtoVar) → slice_get shown.proto.vars decl ≡ o
        → option_and_then (λ (found : Decl). slice_get (parts_of found) part)
        (option_map (decl_of shown.proto (length shown.rows)) o) ≡ Some array
        → IsPart shown.proto (length shown.rows) decl part array
    at None is d = absurd (none-some array d)
    at (Some var) is d = part_of shown.proto (length shown.rows) decl var is part array d

-- a dimension of a variable is one of the prototype's
pub dim_there : {proto : Proto} (decl k : ℕ) {id : ℕ} {var : ProtoVar} → IsSound proto
    → slice_get proto.vars decl ≡ Some var → slice_get (array_dims var) k ≡ Some id → id < length proto.dims
unfolding array_dims
dim_there {proto} decl k {id} {var} sound there e =
    let below = slice_get_within proto.vars decl var there in
    let all : HasDims proto var = subst (HasDims proto) (get_or_from_slice_get proto.vars decl var var there)
    (All-get_or (HasDims proto) proto.vars decl var below sound.in_range) in
    by_case (is_char var.kind) refl all
  where
    in_dims : slice_get var.dims k ≡ Some id → HasDims proto var → id < length proto.dims
    in_dims d all = subst (λ n. n < length proto.dims) (get_or_from_slice_get var.dims k id id d)
        (All-get_or (λ n. n < length proto.dims) var.dims k id (slice_get_within var.dims k id d) all)

    taken : (n : ℕ) (xs : List ℕ) (j : ℕ) → slice_get (take n xs) j ≡ Some id → slice_get xs j ≡ Some id
    taken zero xs j d = absurd (none-some id d)
    taken (suc n) [] j d = absurd (none-some id d)
    taken (suc n) (x ∷ xs) zero d = d
    taken (suc n) (x ∷ xs) (suc j) d = taken n xs j d

    by_case : (b : Bool) → is_char var.kind ≡ b → HasDims proto var → id < length proto.dims
    by_case true is all = let d : slice_get (take (length var.dims - 1) var.dims) k ≡ Some id = rw is at e in
        in_dims (taken (length var.dims - 1) var.dims k d) all
    by_case false is all = let d : slice_get var.dims k ≡ Some id = rw is at e in in_dims d all

-- what the code finds, by the parts of a declaration
pub no_decl : (proto : Proto) (decl part n : ℕ) → slice_get proto.vars decl ≡ None → (part ≡ 0 → ⊥)
    → length proto.vars ≤ n → slice_get proto.vars n ≡ var_of_part proto decl part
unfolding var_of_part
no_decl proto decl zero n none some past = absurd (some refl)
no_decl proto decl (suc k) n none some past = rw none (slice_get_past proto.vars n past)

pub no_dim : (proto : Proto) (decl part n : ℕ) {var : ProtoVar} → slice_get proto.vars decl ≡ Some var
    → (part ≡ 0 → ⊥) → slice_get (array_dims var) (part - 1) ≡ None → length proto.vars ≤ n
    → slice_get proto.vars n ≡ var_of_part proto decl part
unfolding var_of_part
no_dim proto decl zero n there some none past = absurd (some refl)
no_dim proto decl (suc k) n {var} there some none past =
    let back : suc k - 1 ≡ k = omega arith in
    let none' : slice_get (array_dims var) k ≡ None = rw back at none in
    rw (there, none') (slice_get_past proto.vars n past)

pub found_dim : (proto : Proto) (decl part n : ℕ) {id : ℕ} {var : ProtoVar} → slice_get proto.vars decl ≡ Some var
    → (part ≡ 0 → ⊥) → slice_get (array_dims var) (part - 1) ≡ Some id → slice_get proto.vars n ≡ coordinate_of proto id
    → slice_get proto.vars n ≡ var_of_part proto decl part
unfolding var_of_part
found_dim proto decl zero n there some found is = absurd (some refl)
found_dim proto decl (suc k) n {id} {var} there some found is =
    let back : suc k - 1 ≡ k = omega arith in
    let found' : slice_get (array_dims var) k ≡ Some id = rw back at found in
    rw (there, found') is

-- an array of the runs or of the offsets
pub record IsAdded (shown : Shown) (array : Array) : Type 0 where
  pub name : (array.name ≡ run_name shown.proto.axis) ⊎ (array.name ≡ offset_name shown.proto.axis)
  pub kind : array.kind ≡ daps.Int32
  pub dims : array.dims ≡ rows_dim shown.proto (length shown.rows) ∷ []

-- those that follow the variables are the runs and the offsets
pub added_array : (shown : Shown) (decl part : ℕ) (array : Array) → length shown.proto.vars ≤ decl
    → array_at shown decl part ≡ Some array → IsAdded shown array
unfolding array_at decls_of seconds_of_rows
added_array shown decl part array most e =
    let long = length-map shown.proto.vars (decl_of shown.proto (length shown.rows)) in
    let same : slice_get (decls_of shown.proto (length shown.rows)) decl
    ≡ slice_get added (decl - length shown.proto.vars) =
    slice_get-after (map (decl_of shown.proto (length shown.rows)) shown.proto.vars) added decl
    (omega (arith, long, most))
    ∙ ap (slice_get added) (ap (λ (n : ℕ). decl - n) long) in
    past (decl - length shown.proto.vars) part (rw same at e)
  where
    added : List Decl
    added = seconds_of_rows shown.proto (length shown.rows) (run_name shown.proto.axis)
        ∷ seconds_of_rows shown.proto (length shown.rows) (offset_name shown.proto.axis) ∷ []

    past : (n part : ℕ) → option_and_then (λ (found : Decl). slice_get (parts_of found) part) (slice_get added n)
        ≡ Some array → IsAdded shown array
    past zero zero d =
        subst (IsAdded shown) (same_Some _ array d) (record { name = inl refl; kind = refl; dims = refl })
    past (suc zero) zero d =
        subst (IsAdded shown) (same_Some _ array d) (record { name = inr refl; kind = refl; dims = refl })
    past zero (suc k) d = absurd (none-some array d)
    past (suc zero) (suc k) d = absurd (none-some array d)
    past (suc (suc n)) part d = absurd (none-some array d)

-- they are numbers
pub only_variables_have_texts : (shown : Shown) (decl part : ℕ) (array : Array) → array_at shown decl part ≡ Some array
    → array.kind ≡ daps.Text → decl < length shown.proto.vars
only_variables_have_texts shown decl part array e text = elim (cases_lt decl (length shown.proto.vars)) [
  | inl below ↦ below
  | inr most ↦
      let bad : daps.Int32 ≡ daps.Text = sym (added_array shown decl part array most e).kind ∙ text in
      absurd cc
]
