-- The arrays of a two-dimensional view, and the index lists of rows that its own pick.
use Rattle.std.proofs.Common.{◌≡◌, ◌≢◌, ◌⊎◌, ℕ, zero, suc, ◌-◌, ◌^◌, ◌<◌, ◌≤◌, true, false, List, [], ◌∷◌, length, map, drop, Option, Some, None, inl, inr, refl, sym, ap, subst, ◌∙◌, arith}
use Rattle.std.specs.Prelude.{slice_get, option_and_then, IsSomeAnd}
use Rattle.std.specs.Option.{option_map}
use Rattle.std.proofs.lemmas.List.{length-map}
use Rattle.std.proofs.lemmas.Option.{none-some, same_Some, slice_get-map, slice_get_within, slice_get_cases}
use Rattle.nc_model.specs.declared.header.Dim.{Dim}
use Rattle.nc_model.specs.Layout.{IsIndex}
use Rattle.fm_base.proofs.ListLemmas.{slice_get-append}
use Rattle.fm_model.specs.declared.proto.Proto.{Proto}
use Rattle.fm_model.specs.declared.proto.ProtoVar.{ProtoVar}
use Rattle.dap_model.specs.declared.declaration.Array.{Array}
use Rattle.dap_model.specs.declared.declaration.DapKind.{DapKind}
use Rattle.dap_model.specs.declared.declaration.DapKind.TheVariants.{Int32, Text}
use Rattle.dap_model.specs.declared.declaration.Decl.{Decl}
use Rattle.dap_model.specs.Picking.{parts_of}
use Rattle.dap_model.specs.Xdr.{bits_in, AreBitsOf}
use Rattle.fm_dataset.specs.Declarations.{array_dims, array_of, decl_of, decls_of, dim_at, dims_in, kind_in}
use Rattle.fm_dataset.specs.Values.{array_at, shape_of_array, HasNumber, HasNumberAt, HasText, HasTextAt, Shown}
use Rattle.fm_dataset.proofs.PartLemmas.{slice_get-after}
use Rattle.fm_dataset.proofs.ReadLemmas.{some_of}
use Rattle.dap_xdr.specs.Content.{array_in}
use Rattle.fm_twod.specs.Declarations.{by_sides, grid_array, grid_decl, grid_decls, grid_dims, seconds_along}
use Rattle.fm_twod.specs.Laid.{array_in_laid, decls_in, in_row, sides_in, HasIndex, Laid}
use Rattle.fm_twod.proofs.DeclareLemmas.{decl-at, first-part}

-- ---- which array a part is

-- the first part of the declaration of a variable in the dataset is the variable's array
pub array-at : (shown : Shown) (decl : ℕ) (var : ProtoVar) → slice_get shown.proto.vars decl ≡ Some var
    → array_at shown decl 0 ≡ Some (array_of shown.proto (length shown.rows) var)
unfolding array_at
array-at shown decl var there =
    let proto = shown.proto in
    let count = length shown.rows in
    let stands : slice_get (decls_of proto count) decl ≡ Some (decl_of proto count var) =
    decl-at proto count decl (slice_get_within proto.vars decl var there)
    ∙ ap (option_map (decl_of proto count)) there in
    ap (option_and_then (λ (found : Decl). slice_get (parts_of found) 0)) stands ∙ first-part proto count var

-- a plain array has one part
only-part : (made array : Array) (part : ℕ) → slice_get (made ∷ []) part ≡ Some array → array ≡ made
only-part made array zero e = sym (same_Some made array e)
only-part made array (suc part) e = absurd (none-some array e)

-- the part of the declaration of a variable is the variable's array, by run and offset
pub grid-var : (laid : Laid) (decl part : ℕ) (array : Array) (var : ProtoVar)
    → slice_get laid.cells.proto.vars decl ≡ Some var → array_in (decls_in laid) decl part ≡ Some array
    → array ≡ array_in_laid laid var
unfolding array_in grid_decls
grid-var laid decl part array var there e =
    let proto = laid.cells.proto in
    let f : ProtoVar → Decl = grid_decl (sides_in laid) proto (length laid.cells.rows) in
    let below : decl < length (map f proto.vars) =
    omega (arith, slice_get_within proto.vars decl var there, length-map proto.vars f) in
    let stands : slice_get (decls_in laid) decl ≡ Some (f var) =
    slice_get-append (map f proto.vars) _ decl below ∙ slice_get-map f proto.vars decl ∙ ap (option_map f) there in
    only-part (array_in_laid laid var) array part
    (sym (ap (option_and_then (λ (found : Decl). slice_get (parts_of found) part)) stands) ∙ e)

-- a part behind those of the variables has the runs or the offsets
pub record IsAdded (laid : Laid) (array : Array) : Type 0 where
  pub kind_is : array.kind ≡ Int32
  pub dims_are : (array.dims ≡ (sides_in laid).run ∷ []) ⊎ (array.dims ≡ (sides_in laid).offset ∷ [])

pub grid-added : (laid : Laid) (decl part : ℕ) (array : Array) → length laid.cells.proto.vars ≤ decl
    → array_in (decls_in laid) decl part ≡ Some array → IsAdded laid array
unfolding array_in grid_decls seconds_along
grid-added laid decl part array past e =
    let proto = laid.cells.proto in
    let f : ProtoVar → Decl = grid_decl (sides_in laid) proto (length laid.cells.rows) in
    let long = length-map proto.vars f in
    let stands : slice_get (decls_in laid) decl ≡ slice_get added (decl - length (map f proto.vars)) =
    slice_get-after (map f proto.vars) added decl (omega (arith, long, past)) in
    by_index (decl - length (map f proto.vars))
    (sym (ap (option_and_then (λ (found : Decl). slice_get (parts_of found) part)) stands) ∙ e)
  where
    added : List Decl
    added = seconds_along (sides_in laid).run ∷ seconds_along (sides_in laid).offset ∷ []

    by_index : (n : ℕ) → option_and_then (λ (found : Decl). slice_get (parts_of found) part) (slice_get added n)
        ≡ Some array → IsAdded laid array
    by_index zero found =
        let same = only-part _ array part found in
        record { kind_is = ap (λ (a : Array). a.kind) same; dims_are = inl (ap (λ (a : Array). a.dims) same) }
    by_index (suc zero) found =
        let same = only-part _ array part found in
        record { kind_is = ap (λ (a : Array). a.kind) same; dims_are = inr (ap (λ (a : Array). a.dims) same) }
    by_index (suc (suc n)) found = absurd (none-some array found)

pub none-past : {A : Type 0} (xs : List A) (n : ℕ) → slice_get xs n ≡ None → length xs ≤ n
none-past xs n none = elim (slice_get_cases xs n).1 [
  | inl some ↦ absurd (none-some some.0 (sym none ∙ some.2))
  | inr past ↦ past.0
]

-- ---- the kind and the index lists of a variable's array

pub grid-kind : (laid : Laid) (var : ProtoVar) → (array_in_laid laid var).kind ≡ kind_in laid.cells.proto var
unfolding grid_array by_sides array_of
grid-kind laid var = refl

pub array-kind : (proto : Proto) (count : ℕ) (var : ProtoVar) → (array_of proto count var).kind ≡ kind_in proto var
unfolding array_of
array-kind proto count var = refl

-- an index list of a variable along the axis has a run and an offset before the others
pub record IsTimedIndex (laid : Laid) (var : ProtoVar) (index : List ℕ) : Type 0 where
  pub two : 2 ≤ length index
  pub each : (number : ℕ) → number < length laid.cells.rows
      → IsIndex (shape_of_array (array_of laid.cells.proto (length laid.cells.rows) var)) (in_row number index)

pub timed-index : (laid : Laid) (var : ProtoVar) (index : List ℕ) → var.timed ≡ true
    → IsIndex (shape_of_array (array_in_laid laid var)) index → IsTimedIndex laid var index
unfolding grid_array by_sides grid_dims array_of dims_in array_dims
timed-index laid var [] timed is = let none : ⊥ = rw timed at is in absurd none
timed-index laid var (i ∷ []) timed is =
    let none : (i < (sides_in laid).run.size) × ⊥ = rw timed at is in absurd none.1
timed-index laid var (i ∷ j ∷ rest) timed is =
    let parts : (i < (sides_in laid).run.size) × ((j < (sides_in laid).offset.size)
    × IsIndex (map (λ (dim : Dim). dim.size) (map (dim_at laid.cells.proto) (drop 1 (array_dims var)))) rest) =
    rw timed at is in
    record { two = omega arith; each = λ number below. rw timed (below, parts.1.1) }

-- one of a variable without time is an index list of the dataset's array
pub whole-index : (laid : Laid) (var : ProtoVar) (index : List ℕ) → var.timed ≡ false
    → IsIndex (shape_of_array (array_in_laid laid var)) index
    → IsIndex (shape_of_array (array_of laid.cells.proto (length laid.cells.rows) var)) index
unfolding grid_array by_sides grid_dims array_of dims_in array_dims
whole-index laid var index untimed is =
    let whole : IsIndex (map (λ (dim : Dim). dim.size) (map (dim_at laid.cells.proto) (array_dims var))) index =
    rw untimed at is in
    rw untimed whole

-- ---- what may be asked of the dataset

dataset-number : (shown : Shown) (decl : ℕ) (var : ProtoVar) (index : List ℕ)
    → slice_get shown.proto.vars decl ≡ Some var → kind_in shown.proto var ≢ Text
    → IsIndex (shape_of_array (array_of shown.proto (length shown.rows) var)) index → HasNumber shown decl 0 index
dataset-number shown decl var index there number is =
    subst (λ (o : Option Array). IsSomeAnd o (HasNumberAt index)) (sym (array-at shown decl var there)) (record {
      number = λ text. number (sym (array-kind shown.proto (length shown.rows) var) ∙ text);
      index_is = is;
    })

dataset-text : (shown : Shown) (decl : ℕ) (var : ProtoVar) (index : List ℕ)
    → slice_get shown.proto.vars decl ≡ Some var → kind_in shown.proto var ≡ Text
    → IsIndex (shape_of_array (array_of shown.proto (length shown.rows) var)) index → HasText shown decl 0 index
dataset-text shown decl var index there text is =
    subst (λ (o : Option Array). IsSomeAnd o (HasTextAt index)) (sym (array-at shown decl var there)) (record {
      text = array-kind shown.proto (length shown.rows) var ∙ text;
      index_is = is;
    })

pub cell-number : (laid : Laid) (decl : ℕ) (var : ProtoVar) (index : List ℕ) (number : ℕ)
    → HasIndex laid decl var index → var.timed ≡ true → kind_in laid.cells.proto var ≢ Text
    → number < length laid.cells.rows → HasNumber laid.cells decl 0 (in_row number index)
cell-number laid decl var index number has timed kind below =
    dataset-number laid.cells decl var (in_row number index) has.var_is kind
    ((timed-index laid var index timed has.index_is).each number below)

pub cell-text : (laid : Laid) (decl : ℕ) (var : ProtoVar) (index : List ℕ) (number : ℕ)
    → HasIndex laid decl var index → var.timed ≡ true → kind_in laid.cells.proto var ≡ Text
    → number < length laid.cells.rows → HasText laid.cells decl 0 (in_row number index)
cell-text laid decl var index number has timed kind below =
    dataset-text laid.cells decl var (in_row number index) has.var_is kind
    ((timed-index laid var index timed has.index_is).each number below)

pub whole-number : (laid : Laid) (decl : ℕ) (var : ProtoVar) (index : List ℕ) → HasIndex laid decl var index
    → var.timed ≡ false → kind_in laid.cells.proto var ≢ Text → HasNumber laid.cells decl 0 index
whole-number laid decl var index has untimed kind =
    dataset-number laid.cells decl var index has.var_is kind (whole-index laid var index untimed has.index_is)

pub whole-text : (laid : Laid) (decl : ℕ) (var : ProtoVar) (index : List ℕ) → HasIndex laid decl var index
    → var.timed ≡ false → kind_in laid.cells.proto var ≡ Text → HasText laid.cells decl 0 index
whole-text laid decl var index has untimed kind =
    dataset-text laid.cells decl var index has.var_is kind (whole-index laid var index untimed has.index_is)

-- the bits of the dataset fit the variable's kind
pub bits-fit : (shown : Shown) (decl bits : ℕ) (var : ProtoVar) → slice_get shown.proto.vars decl ≡ Some var
    → ((array : Array) → array_at shown decl 0 ≡ Some array → AreBitsOf array.kind bits)
    → AreBitsOf (kind_in shown.proto var) bits
bits-fit shown decl bits var there fits =
    subst (λ (k : DapKind). AreBitsOf k bits) (array-kind shown.proto (length shown.rows) var)
    (fits (array_of shown.proto (length shown.rows) var) (array-at shown decl var there))

-- ---- what is asked of a part is asked of its variable

pub number-asked : (laid : Laid) (decl part : ℕ) (index : List ℕ) (var : ProtoVar)
    → IsSomeAnd (array_in (decls_in laid) decl part) (HasNumberAt index)
    → slice_get laid.cells.proto.vars decl ≡ Some var
    → HasIndex laid decl var index × (kind_in laid.cells.proto var ≢ Text)
number-asked laid decl part index var has there =
    let found = some_of (array_in (decls_in laid) decl part) (HasNumberAt index) has in
    let same = grid-var laid decl part found.0 var there found.1 in
    let is : HasNumberAt index (array_in_laid laid var) = subst (HasNumberAt index) same found.2 in (
      record { var_is = there; index_is = is.index_is },
      λ text. is.number (grid-kind laid var ∙ text),
    )

pub text-asked : (laid : Laid) (decl part : ℕ) (index : List ℕ) (var : ProtoVar)
    → IsSomeAnd (array_in (decls_in laid) decl part) (HasTextAt index)
    → slice_get laid.cells.proto.vars decl ≡ Some var
    → HasIndex laid decl var index × (kind_in laid.cells.proto var ≡ Text)
text-asked laid decl part index var has there =
    let found = some_of (array_in (decls_in laid) decl part) (HasTextAt index) has in
    let same = grid-var laid decl part found.0 var there found.1 in
    let is : HasTextAt index (array_in_laid laid var) = subst (HasTextAt index) same found.2 in (
      record { var_is = there; index_is = is.index_is },
      sym (grid-kind laid var) ∙ is.text,
    )

-- the bits fit the kind of a part's array
pub var-width : (laid : Laid) (decl part bits : ℕ) (array : Array) (var : ProtoVar)
    → slice_get laid.cells.proto.vars decl ≡ Some var → AreBitsOf (kind_in laid.cells.proto var) bits
    → array_in (decls_in laid) decl part ≡ Some array → AreBitsOf array.kind bits
var-width laid decl part bits array var there fits e =
    subst (λ (k : DapKind). AreBitsOf k bits)
    (sym (ap (λ (a : Array). a.kind) (grid-var laid decl part array var there e) ∙ grid-kind laid var)) fits

pub added-width : (laid : Laid) (decl part bits : ℕ) (array : Array) → slice_get laid.cells.proto.vars decl ≡ None
    → bits < 2 ^ 32 → array_in (decls_in laid) decl part ≡ Some array → AreBitsOf array.kind bits
unfolding bits_in
added-width laid decl part bits array none small e =
    let is = grid-added laid decl part array (none-past laid.cells.proto.vars decl none) e in
    subst (λ (k : DapKind). AreBitsOf k bits) (sym is.kind_is) small
