-- A Grid that stays one has a map for each dimension, as long as what is left of it.
use Rattle.std.proofs.Common.{◌≡◌, ℕ, zero, suc, ◌+◌, ◌<◌, true, List, [], ◌∷◌, length, map, take, drop, All, Option, Some, inl, inr, refl, sym, ap, ap₂, subst, ◌∙◌, arith}
use Rattle.std.specs.Prelude.{slice_get}
use Rattle.std.specs.List.{enumerate_from, AllZip}
use Rattle.std.specs.Option.{option_map, option_map_or}
use Rattle.std.proofs.lemmas.Option.{same_Some, slice_get_within}
use Rattle.nc_model.specs.declared.header.Dim.{Dim}
use Rattle.dap_model.specs.declared.declaration.Array.{Array}
use Rattle.dap_model.specs.declared.declaration.Decl.{Decl}
use Rattle.dap_model.specs.declared.projection.Clause.{Clause}
use Rattle.dap_model.specs.declared.projection.Sent.{Sent}
use Rattle.dap_model.specs.declared.projection.Slab.{Slab}
use Rattle.dap_model.specs.Box.{whole_slab}
use Rattle.dap_model.specs.Picking.{given_by, or_whole, part_dims, parts_of, picked_by, slabs_for, spread, whole_slabs}
use Rattle.dap_model.specs.Projection.{cut_array, cut_dim, cut_parts, is_kept, slabs_of}
use Rattle.dap_model.specs.ProjectionFacts.{AreNamedApart, FitsDim, IsGridded}
use Rattle.dap_model.proofs.GridLemmas.{alone_if_kept}
use Rattle.dap_model.proofs.ListLemmas.{filter_map-each, slice_get-numbered, Has, Has-from_contains, Has-slice_get}
use Rattle.dap_model.proofs.PickingLemmas.{front_picks}
use Rattle.dap_model.proofs.ProjectionAgreeLemmas.{slabs_of-given, Faultless}
use Rattle.dap_model.proofs.ProjectionSentLemmas.{FitsPart-sent, PartSent}
use Rattle.dap_model.proofs.WholeClauseLemmas.{no_spread, slabs_of-all}
use Rattle.dap_client.specs.Message.{map_of, AreMapsOf}
use Rattle.reply_laws.proofs.ShapeLemmas.{AreMaps}
use Rattle.reply_laws.proofs.TextLemmas.{as_long, cut_dims}

-- ---- the maps of a Grid, each cut by the slab of its dimension

-- a part, cut by what goes to it of the slabs of its declaration
abbrev pub cut_by : List Slab → ℕ × Array → Array
cut_by slabs numbered = cut_array (or_whole numbered.1.dims (spread slabs numbered.0)) numbered.1

one_map : (slabs : List Slab) (n : ℕ) (dim : Dim) (slab : Slab) (part : Array) → part.name ≡ dim.name
    → part.dims ≡ dim ∷ [] → or_whole (dim ∷ []) (spread slabs n) ≡ slab ∷ []
    → cut_by slabs (n, part) ≡ map_of (cut_dim (dim, slab)) part.kind
unfolding cut_array
one_map slabs n dim slab part named along is =
    let made : List ℕ → List Dim → Array = λ name dims. record { name = name; kind = part.kind; dims = dims } in
    ap (λ (dims : List Dim). made part.name (cut_dims part.dims (or_whole dims (spread slabs n)))) along
    ∙ ap (λ (each : List Slab). made part.name (cut_dims part.dims each)) is
    ∙ ap₂ (λ (name : List ℕ) (dims : List Dim). made name (cut_dims dims (slab ∷ []))) named along

-- whole maps, whatever their numbers
maps_whole : (n : ℕ) (dims : List Dim) (maps : List Array) → AreMaps dims maps
    → AreMapsOf (cut_dims dims (whole_slabs dims)) (map (cut_by []) (enumerate_from n maps))
unfolding whole_slabs cut_array
maps_whole n [] [] are = tt
maps_whole n [] (part ∷ maps) are = absurd are
maps_whole n (dim ∷ dims) [] are = absurd are
maps_whole n (dim ∷ dims) (part ∷ maps) are = (
  one_map [] n dim (whole_slab dim.size) part are.0.0 are.0.1
      (ap (or_whole (dim ∷ [])) (no_spread n)),
  maps_whole (n + 1) dims maps are.1,
)

next : (i : ℕ) (slabs : List Slab) (slab : Slab) (rest : List Slab) → drop i slabs ≡ slab ∷ rest
    → drop (suc i) slabs ≡ rest
next zero [] slab rest is = absurd (cc)
next zero (x ∷ slabs) slab rest is = cc
next (suc i) [] slab rest is = absurd (cc)
next (suc i) (x ∷ slabs) slab rest is = next i slabs slab rest is

-- maps from a number on, each with the slab of its dimension
maps_given : (slabs : List Slab) (i n : ℕ) (dims : List Dim) (rest : List Slab) (maps : List Array) → n ≡ suc i
    → drop i slabs ≡ rest → length rest ≡ length dims → AreMaps dims maps
    → AreMapsOf (cut_dims dims rest) (map (cut_by slabs) (enumerate_from n maps))
unfolding cut_array
maps_given slabs i n [] [] [] at left same are = tt
maps_given slabs i n [] (slab ∷ rest) [] at left same are = absurd (omega (arith, same))
maps_given slabs i n [] rest (part ∷ maps) at left same are = absurd are
maps_given slabs i n (dim ∷ dims) [] maps at left same are = absurd (omega (arith, same))
maps_given slabs i n (dim ∷ dims) (slab ∷ rest) [] at left same are = absurd are
maps_given slabs i n (dim ∷ dims) (slab ∷ rest) (part ∷ maps) at left same are =
    let one : spread slabs n ≡ slab ∷ [] = ap (spread slabs) at ∙ ap (take 1) left in (
      one_map slabs n dim slab part are.0.0 are.0.1 (ap (or_whole (dim ∷ [])) one),
      maps_given slabs (suc i) (n + 1) dims rest maps (omega (arith, at)) (next i slabs slab rest left)
          (omega (arith, same)) are.1,
    )

-- the maps of slabs that are given, or of none
pub maps_cut : (array : Array) (maps : List Array) (slabs : List Slab)
    → length (or_whole array.dims slabs) ≡ length array.dims → AreMaps array.dims maps
    → AreMapsOf (cut_dims array.dims (or_whole array.dims slabs)) (map (cut_by slabs) (enumerate_from 1 maps))
maps_cut array maps [] same are = maps_whole 1 array.dims maps are
maps_cut array maps (slab ∷ slabs) same are =
    maps_given (slab ∷ slabs) 0 1 array.dims (slab ∷ slabs) maps refl refl same are

-- ---- a Grid that some clause names alone

-- slabs of a declaration, spread over its parts
pub record IsSpread (clauses : List Clause) (decl : Decl) : Type 0 where
  pub slabs : List Slab
  pub each : (part : ℕ) → part < length (parts_of decl)
      → slabs_of clauses decl part ≡ Some (or_whole (part_dims decl part) (spread slabs part))

module _ (decls : List Decl) (clauses : List Clause) (apart : AreNamedApart decls) (gridded : All IsGridded decls)
    (none : Faultless decls [] clauses) (index : ℕ) (decl : Decl) (there : slice_get decls index ≡ Some decl)
    (kept : is_kept clauses decl ≡ true) where
  pub spread_of : IsSpread clauses decl
  unfolding given_by
  spread_of = by_clauses clauses refl
    where
      none_given : clauses ≡ [] → IsSpread clauses decl
      none_given is = record {
        slabs = [];
        each = λ part within. ap (λ (l : List Clause). slabs_of l decl part) is ∙ slabs_of-all decl part
            ∙ ap (λ (slabs : List Slab). Some (or_whole (part_dims decl part) slabs)) (sym (no_spread part));
      }

      by_clauses : (l : List Clause) → clauses ≡ l → IsSpread clauses decl
      by_clauses [] is = none_given is
      by_clauses (x ∷ l) is = elim (alone_if_kept clauses decl kept) [
        | inl empty ↦ none_given empty
        | inr named ↦ record {
          slabs = named.0.slabs;
          each = λ part within.
              slabs_of-given decls clauses decl named.0 part
              (or_whole (part_dims decl part) (spread named.0.slabs part)) apart
              (Has-slice_get decls index decl there) within none
              (Has-from_contains clauses named.0 named.1)
              (ap (slabs_for decl named.0.slabs part) (ap (picked_by decl) named.2 ∙ front_picks decl []));
        }
      ]

  -- the parts that are cut are all parts
  pub all_cut : cut_parts clauses decl ≡ map (cut_by spread_of.slabs) (enumerate_from 0 (parts_of decl))
  unfolding cut_parts
  all_cut = filter_map-each (λ (numbered : ℕ × Array).
      option_map (λ (each : List Slab). cut_array each numbered.1) (slabs_of clauses decl numbered.0))
      (cut_by spread_of.slabs) (enumerate_from 0 (parts_of decl)) one
    where
      one : (numbered : ℕ × Array) → Has (enumerate_from 0 (parts_of decl)) numbered
          → option_map (λ (each : List Slab). cut_array each numbered.1) (slabs_of clauses decl numbered.0)
          ≡ Some (cut_by spread_of.slabs numbered)
      one numbered has =
          let found = slice_get-numbered 0 (parts_of decl) numbered has in
          let at : numbered.0 ≡ found.0 = omega (arith, found.1) in
          let part : slice_get (parts_of decl) numbered.0 ≡ Some numbered.1 =
          ap (slice_get (parts_of decl)) at ∙ found.2 in
          let dims : part_dims decl numbered.0 ≡ numbered.1.dims =
          ap (λ (o : Option Array). option_map_or (λ (array : Array). array.dims) o []) part in
          ap (option_map (λ (each : List Slab). cut_array each numbered.1))
          (spread_of.each numbered.0 (slice_get_within (parts_of decl) numbered.0 numbered.1 part))
          ∙ ap (λ (l : List Dim). Some (cut_array (or_whole l (spread spread_of.slabs numbered.0)) numbered.1)) dims

  -- there is a slab for each dimension of the first part
  pub first_long : 0 < length (parts_of decl)
      → length (or_whole (part_dims decl 0) spread_of.slabs) ≡ length (part_dims decl 0)
  first_long some =
      let slabs : List Slab = or_whole (part_dims decl 0) spread_of.slabs in
      let sent : Sent = record { decl = index; part = 0; slabs = slabs } in
      let is : PartSent decls clauses sent =
      record { decl = decl; decl_is = there; within = some; slabs_are = spread_of.each 0 some } in
      let fit = FitsPart-sent decls clauses sent apart gridded none is in
      let same : fit.decl ≡ decl = same_Some fit.decl decl (sym fit.decl_is ∙ there) in
      as_long (part_dims decl 0) slabs
      (subst (λ (d : Decl). AllZip FitsDim (part_dims d 0) slabs) same fit.fits)
