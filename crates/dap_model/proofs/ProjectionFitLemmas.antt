-- The slabs with which a part is sent fit its dimensions.
use Rattle.std.proofs.Common.{◌≡◌, ◌⊎◌, ℕ, zero, suc, ◌+◌, ◌<◌, ◌≤◌, true, ◌||◌, ◌==◌, List, [], ◌∷◌, length, map, take, drop, slice_get, Option, Some, None, refl, sym, ap, subst, ◌∙◌, inl, inr, arith}
use Rattle.std.specs.List.{AllZip}
use Rattle.std.specs.Option.{option_map, option_map_or}
use Rattle.std.proofs.lemmas.Bool.{cases_Bool, cond-true, cond-false, and_parts, or_cases, eqb-true, leb-true, ltb-true}
use Rattle.std.proofs.lemmas.Option.{none-some, same_Some, slice_get-map}
use Rattle.nc_model.specs.declared.header.Dim.{Dim}
use Rattle.fm_base.proofs.OptionLemmas.{mapped_some}
use Rattle.dap_model.specs.declared.declaration.Array.{Array}
use Rattle.dap_model.specs.declared.declaration.Decl.{Decl}
use Rattle.dap_model.specs.declared.declaration.Decl.TheVariants.{Plain, Grid, Structure}
use Rattle.dap_model.specs.declared.projection.Clause.{Clause}
use Rattle.dap_model.specs.declared.projection.Slab.{Slab}
use Rattle.dap_model.specs.Box.{whole_slab, EachPicks}
use Rattle.dap_model.specs.ClauseFaults.{path_text, rank_fault, is_within, range_fault}
use Rattle.dap_model.specs.Picking.{parts_of, dims_of, part_dims, Picked, nothing, every, only, picked_by, whole_slabs, or_whole, spread, slabs_for, given_by, picked_dims}
use Rattle.dap_model.specs.ProjectionFacts.{IsGridded, FitsDim}
use Rattle.dap_model.proofs.SlabLemmas.{whole_slab-some}
use Rattle.dap_model.proofs.ProjectionAgreeLemmas.{Sound}
use Rattle.dap_model.proofs.WholeClauseLemmas.{no_spread}

whole_fit : (dim : Dim) (size : ℕ) → dim.size ≡ size → FitsDim dim (whole_slab size)
unfolding whole_slab
whole_fit dim zero e = record { stride = omega arith; within = λ turned. absurd (omega arith) }
whole_fit dim (suc last) e =
    let fits : FitsDim dim (record { start = 0; stride = 1; stop = last }) =
    record { stride = omega arith; within = λ ordered. omega arith } in
    subst (FitsDim dim) (sym (whole_slab-some last)) fits

within_fit : (dim : Dim) (slab : Slab) → is_within dim.size slab ≡ true → FitsDim dim slab
unfolding is_within
within_fit dim slab e =
    let tests = and_parts _ _ e in
    let front = and_parts _ _ tests.0 in
    record { stride = leb-true 1 slab.stride front.0; within = λ ordered. ltb-true slab.stop dim.size tests.1 }

-- no slab, or one for each dimension
pub ranked : (name : List ℕ) (dims : List Dim) (slabs : List Slab) → rank_fault name dims slabs ≡ None
    → (length slabs ≡ 0) ⊎ (length slabs ≡ length dims)
unfolding rank_fault
ranked name dims slabs none = elim (cases_Bool (length slabs == 0 || length slabs == length dims)) [
  | inl t ↦ elim (or_cases _ _ t) [ inl empty ↦ inl (eqb-true _ _ empty) | inr same ↦ inr (eqb-true _ _ same) ]
  | inr f ↦ absurd (none-some _ (sym none ∙ cond-false _ _ _ f))
]

-- the map of a Grid at an index, and its one dimension
record MapAt (array : Array) (maps : List Array) (index : ℕ) : Type 0 where
  part : Array
  dim : Dim
  part_is : slice_get maps index ≡ Some part
  dim_is : slice_get array.dims index ≡ Some dim
  dims_are : part.dims ≡ dim ∷ []

some_part : (maps : List Array) (index : ℕ) → index < length maps → (part : Array) × (slice_get maps index ≡ Some part)
some_part [] index within = absurd (omega arith)
some_part (part ∷ maps) zero within = (part, refl)
some_part (part ∷ maps) (suc index) within = some_part maps index (omega arith)

map_at : (array : Array) (maps : List Array) (index : ℕ) → index < length maps
    → map (λ (part : Array). part.dims) maps ≡ map (λ (dim : Dim). dim ∷ []) array.dims → MapAt array maps index
map_at array maps index within gridded =
    let part = some_part maps index within in
    let dims : slice_get (map (λ (dim : Dim). dim ∷ []) array.dims) index ≡ Some part.0.dims =
    ap (λ (l : List (List Dim)). slice_get l index) (sym gridded) ∙ slice_get-map (λ (p : Array). p.dims) maps index
    ∙ ap (option_map (λ (p : Array). p.dims)) part.1 in
    let dim =
    mapped_some (λ (d : Dim). d ∷ []) (slice_get array.dims index) part.0.dims
    (sym (slice_get-map (λ (d : Dim). d ∷ []) array.dims index) ∙ dims) in
    record { part = part.0; dim = dim.0; part_is = part.1; dim_is = dim.1; dims_are = sym dim.2 }

-- a fact of a dimension and a slab holds of all that are sent, where it does of the whole dimension and of each slab
-- that lies within it
module _ (R : Dim → Slab → Type 0) (whole : (dim : Dim) → R dim (whole_slab dim.size))
    (inside : (dim : Dim) (slab : Slab) → is_within dim.size slab ≡ true → R dim slab) where
  -- whole dimensions
  whole-each : (dims : List Dim) → AllZip R dims (whole_slabs dims)
  unfolding whole_slabs
  whole-each [] = tt
  whole-each (dim ∷ dims) = (whole dim, whole-each dims)

  -- as many slabs as dimensions, and none out of range
  in_range-each : (name : List ℕ) (index : ℕ) (dims : List Dim) (slabs : List Slab) → length slabs ≡ length dims
      → range_fault name index dims slabs ≡ None → AllZip R dims slabs
  unfolding range_fault
  in_range-each name index [] [] same none = tt
  in_range-each name index [] (slab ∷ slabs) same none = absurd (omega arith)
  in_range-each name index (dim ∷ dims) [] same none = absurd (omega arith)
  in_range-each name index (dim ∷ dims) (slab ∷ slabs) same none = elim (cases_Bool (is_within dim.size slab)) [
    | inl t ↦
        (inside dim slab t, in_range-each name (index + 1) dims slabs (omega arith) (sym (cond-true _ _ _ t) ∙ none))
    | inr f ↦ absurd (none-some _ (sym none ∙ cond-false _ _ _ f))
  ]

  -- slabs without a fault, or the whole where there are none
  or_whole-each : (name : List ℕ) (dims : List Dim) (slabs : List Slab) → rank_fault name dims slabs ≡ None
      → range_fault name 0 dims slabs ≡ None → AllZip R dims (or_whole dims slabs)
  or_whole-each name dims [] rank range = whole-each dims
  or_whole-each name dims (slab ∷ slabs) rank range = elim (ranked name dims (slab ∷ slabs) rank) [
    | inl empty ↦ absurd (omega arith)
    | inr same ↦ in_range-each name 0 dims (slab ∷ slabs) same range
  ]

  none_spread-each : (dims : List Dim) (part : ℕ) → AllZip R dims (or_whole dims (spread [] part))
  none_spread-each dims part =
      subst (λ (slabs : List Slab). AllZip R dims (or_whole dims slabs)) (sym (no_spread part))
      (whole-each dims)

  -- the slab of one dimension
  one-each : (dims : List Dim) (slabs : List Slab) (index : ℕ) (dim : Dim) → AllZip R dims slabs
      → slice_get dims index ≡ Some dim
      → AllZip R (dim ∷ []) (or_whole (dim ∷ []) (take 1 (drop index slabs)))
  one-each [] slabs index dim fits is = absurd (none-some dim is)
  one-each (first ∷ dims) [] index dim fits is = absurd fits
  one-each (first ∷ dims) (slab ∷ slabs) zero dim fits is =
      (subst (λ (d : Dim). R d slab) (same_Some first dim is) fits.0, tt)
  one-each (first ∷ dims) (slab ∷ slabs) (suc index) dim fits is = one-each dims slabs index dim fits.1 is

  map-each : (array : Array) (maps : List Array) (slabs : List Slab) (index : ℕ) → index < length maps
      → map (λ (part : Array). part.dims) maps ≡ map (λ (dim : Dim). dim ∷ []) array.dims
      → AllZip R array.dims slabs
      → AllZip R (option_map_or (λ (part : Array). part.dims) (slice_get maps index) [])
      (or_whole (option_map_or (λ (part : Array). part.dims) (slice_get maps index) []) (take 1 (drop index slabs)))
  map-each array maps slabs index within gridded fits =
      let at = map_at array maps index within gridded in
      let dims : at.dim ∷ [] ≡ option_map_or (λ (part : Array). part.dims) (slice_get maps index) [] =
      sym (ap (λ (o : Option Array). option_map_or (λ (part : Array). part.dims) o []) at.part_is ∙ at.dims_are) in
      subst (λ (l : List Dim). AllZip R l (or_whole l (take 1 (drop index slabs)))) dims
      (one-each array.dims slabs index at.dim fits at.dim_is)

  -- the slabs of a whole declaration, spread over its parts
  spread-each : (decl : Decl) (name : List ℕ) (slabs : List Slab) (part : ℕ) → IsGridded decl
      → part < length (parts_of decl) → rank_fault name (dims_of decl) slabs ≡ None
      → range_fault name 0 (dims_of decl) slabs ≡ None
      → AllZip R (part_dims decl part) (or_whole (part_dims decl part) (spread slabs part))
  spread-each decl name [] part gridded within rank range = none_spread-each (part_dims decl part) part
  spread-each (Plain array) name (slab ∷ slabs) zero gridded within rank range =
      or_whole-each name array.dims (slab ∷ slabs) rank range
  spread-each (Plain array) name (slab ∷ slabs) (suc part) gridded within rank range = absurd (omega arith)
  spread-each (Grid label array maps) name (slab ∷ slabs) zero gridded within rank range =
      or_whole-each name array.dims (slab ∷ slabs) rank range
  spread-each (Grid label array maps) name (slab ∷ slabs) (suc index) gridded within rank range =
      map-each array maps (slab ∷ slabs) index (omega arith) gridded
      (or_whole-each name array.dims (slab ∷ slabs) rank range)
  spread-each (Structure label members) name (slab ∷ slabs) part gridded within rank range =
      elim (ranked name [] (slab ∷ slabs) rank) [
        | inl empty ↦ absurd (omega arith)
        | inr same ↦ absurd (omega arith)
      ]

  -- the slabs that a clause without a fault gives to a part
  given-each : (decl : Decl) (earlier : List Clause) (clause : Clause) (part : ℕ) (slabs : List Slab) → IsGridded decl
      → part < length (parts_of decl) → Sound decl earlier clause
      → given_by decl clause part ≡ Some slabs → AllZip R (part_dims decl part) slabs
  unfolding given_by
  given-each decl earlier clause part slabs gridded within sound e =
      go (picked_by decl clause.path) sound.rank sound.range e where
        go : (picked : Picked) → rank_fault (path_text clause.path) (picked_dims decl picked) clause.slabs ≡ None
            → range_fault (path_text clause.path) 0 (picked_dims decl picked) clause.slabs ≡ None
            → slabs_for decl clause.slabs part picked ≡ Some slabs → AllZip R (part_dims decl part) slabs
        go nothing rank range h = absurd (none-some slabs h)
        go every rank range h =
            subst (AllZip R (part_dims decl part)) (same_Some _ slabs h)
            (spread-each decl (path_text clause.path) clause.slabs part gridded within rank range)
        go (only other) rank range h = elim (cases_Bool (other == part)) [
          | inl t ↦
              let same = eqb-true other part t in
              subst (AllZip R (part_dims decl part)) (same_Some _ slabs (sym (cond-true _ _ _ t) ∙ h))
              (subst (λ (p : ℕ). AllZip R (part_dims decl p) (or_whole (part_dims decl p) clause.slabs)) same
              (or_whole-each (path_text clause.path) (part_dims decl other) clause.slabs rank range))
          | inr f ↦ absurd (none-some slabs (sym (cond-false _ _ _ f) ∙ h))
        ]

-- ---- what is sent fits

whole_fits : (dim : Dim) → FitsDim dim (whole_slab dim.size)
whole_fits dim = whole_fit dim dim.size refl

-- whole dimensions fit
pub whole_slabs-fit : (dims : List Dim) → AllZip FitsDim dims (whole_slabs dims)
whole_slabs-fit dims = whole-each FitsDim whole_fits within_fit dims

-- the slabs that a clause without a fault gives to a part
pub given-fit : (decl : Decl) (earlier : List Clause) (clause : Clause) (part : ℕ) (slabs : List Slab) → IsGridded decl
    → part < length (parts_of decl) → Sound decl earlier clause
    → given_by decl clause part ≡ Some slabs → AllZip FitsDim (part_dims decl part) slabs
given-fit decl earlier clause part slabs gridded within sound e =
    given-each FitsDim whole_fits within_fit decl earlier clause part slabs gridded within sound e

-- ---- what is sent picks an index of each dimension that isn't empty

-- a slab's start is an index, unless the dimension is empty
abbrev pub Picks : Dim → Slab → Type 0
Picks dim slab = 1 ≤ dim.size → slab.start ≤ slab.stop

whole_picks : (dim : Dim) → Picks dim (whole_slab dim.size)
whole_picks dim = by_size dim.size refl
  where
    by_size : (size : ℕ) → dim.size ≡ size → Picks dim (whole_slab size)
    by_size zero e = λ some. absurd (omega (arith, e, some))
    by_size (suc last) e = λ some.
        subst (λ (slab : Slab). slab.start ≤ slab.stop) (sym (whole_slab-some last)) (omega arith)

within_picks : (dim : Dim) (slab : Slab) → is_within dim.size slab ≡ true → Picks dim slab
unfolding is_within
within_picks dim slab e = λ some.
    let tests = and_parts _ _ e in
    let front = and_parts _ _ tests.0 in
    leb-true slab.start slab.stop front.1

pub whole_slabs-pick : (dims : List Dim) → AllZip Picks dims (whole_slabs dims)
whole_slabs-pick dims = whole-each Picks whole_picks within_picks dims

pub given-pick : (decl : Decl) (earlier : List Clause) (clause : Clause) (part : ℕ) (slabs : List Slab)
    → IsGridded decl → part < length (parts_of decl) → Sound decl earlier clause
    → given_by decl clause part ≡ Some slabs → AllZip Picks (part_dims decl part) slabs
given-pick decl earlier clause part slabs gridded within sound e =
    given-each Picks whole_picks within_picks decl earlier clause part slabs gridded within sound e

-- what fitting slabs pick lies within the dimensions
pub picked_within : (dims : List Dim) (slabs : List Slab) (index : List ℕ) → AllZip FitsDim dims slabs
    → EachPicks slabs index → AllZip (λ (dim : Dim) (i : ℕ). i < dim.size) dims index
picked_within [] [] [] fits picks = tt
picked_within [] [] (i ∷ index) fits picks = absurd picks
picked_within [] (slab ∷ slabs) index fits picks = absurd fits
picked_within (dim ∷ dims) [] index fits picks = absurd fits
picked_within (dim ∷ dims) (slab ∷ slabs) [] fits picks = absurd picks
picked_within (dim ∷ dims) (slab ∷ slabs) (i ∷ index) fits picks =
    let low = picks.0.from_start in
    let high = picks.0.to_stop in
    let within = fits.0.within (omega arith) in
    (omega arith, picked_within dims slabs index fits.1 picks.1)
