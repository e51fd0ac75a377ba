-- Something of each declaration that is sent is sent.
use Rattle.std.proofs.Common.{◌≡◌, ℕ, ◌<◌, ltb, Bool, true, false, cond, List, [], ◌∷◌, length, Some, None, inl, inr, refl, sym, ap, subst, ◌∙◌, arith, zero-add}
use Rattle.std.specs.Prelude.{slice_get}
use Rattle.std.specs.List.{enumerate_from, position_or_len}
use Rattle.std.specs.Option.{option_map, option_map_or}
use Rattle.std.specs.Str.{bytes_eq}
use Rattle.std.proofs.lemmas.Bool.{cond-true, eq-eqb, ltb-true, true≢false}
use Rattle.std.proofs.lemmas.Option.{slice_get_cases}
use Rattle.dap_model.specs.declared.declaration.Array.{Array}
use Rattle.dap_model.specs.declared.declaration.Decl.{Decl}
use Rattle.dap_model.specs.declared.declaration.Decl.TheVariants.{Grid, Plain, Structure}
use Rattle.dap_model.specs.declared.projection.Clause.{Clause}
use Rattle.dap_model.specs.declared.projection.Slab.{Slab}
use Rattle.dap_model.specs.Picking.{every, given_by, is_picked, name_of, named_parts, nothing, only, parts_of, picked_below, picked_by, picked_part, slabs_for, Picked}
use Rattle.dap_model.specs.Projection.{cut_array, cut_parts, is_sent, slabs_of}
use Rattle.dap_model.proofs.ListLemmas.{some_passes, Has, Has-filter_map, Has-numbered}
use Rattle.dap_model.proofs.WholeClauseLemmas.{slabs_of-all}

-- ---- the part that a path picks is there

by_position : (parts : List Array) (test : Array → Bool) (part : ℕ) (b : Bool)
    → ltb (position_or_len test parts) (length parts) ≡ b
    → option_map_or only (cond b (Some (position_or_len test parts)) None) nothing ≡ only part → part < length parts
by_position parts test part true within is =
    let same : position_or_len test parts ≡ part = cc in
    subst (λ (k : ℕ). k < length parts) same (ltb-true (position_or_len test parts) (length parts) within)
by_position parts test part false within is = absurd (cc)

named_there : (decl : Decl) (part : ℕ) → part < length (named_parts decl) → part < length (parts_of decl)
named_there (Plain array) part within = absurd (omega (arith, within))
named_there (Grid name array maps) part within = within
named_there (Structure name members) part within = within

below_there : (decl : Decl) (names : List (List ℕ)) (part : ℕ) → picked_below decl names ≡ only part
    → part < length (parts_of decl)
unfolding picked_part
below_there decl [] part is = absurd (cc)
below_there decl (name ∷ []) part is =
    named_there decl part (by_position (named_parts decl) (λ (each : Array). bytes_eq each.name name) part
    (ltb (position_or_len (λ (each : Array). bytes_eq each.name name) (named_parts decl)) (length (named_parts decl)))
    refl is)
below_there decl (name ∷ next ∷ names) part is = absurd (cc)

picked_there : (decl : Decl) (path : List (List ℕ)) (part : ℕ) → picked_by decl path ≡ only part
    → part < length (parts_of decl)
unfolding picked_by
picked_there decl [] part is = absurd (cc)
picked_there decl (name ∷ names) part is = by_name (bytes_eq (name_of decl) name) is
  where
    by_name : (b : Bool) → cond b (picked_below decl names) nothing ≡ only part → part < length (parts_of decl)
    by_name true same = below_there decl names part same
    by_name false same = absurd (cc)

-- ---- a clause gives slabs to some part of what it picks

record Gives (decl : Decl) (clause : Clause) : Type 0 where
  part : ℕ
  within : part < length (parts_of decl)
  slabs : List Slab
  is : given_by decl clause part ≡ Some slabs

gives_some : (decl : Decl) (clause : Clause) → 0 < length (parts_of decl)
    → is_picked (picked_by decl clause.path) ≡ true → Gives decl clause
unfolding given_by
gives_some decl clause some picked = by_picked (picked_by decl clause.path) refl picked
  where
    by_picked : (found : Picked) → picked_by decl clause.path ≡ found → is_picked found ≡ true → Gives decl clause
    by_picked nothing is passes = absurd (true≢false (sym passes))
    by_picked every is passes = record {
      part = 0;
      within = some;
      slabs = _;
      is = ap (slabs_for decl clause.slabs 0) is;
    }
    by_picked (only part) is passes = record {
      part = part;
      within = picked_there decl clause.path part is;
      slabs = _;
      is = ap (slabs_for decl clause.slabs part) is ∙ cond-true _ _ _ (eq-eqb part part refl);
    }

-- ---- so some part is sent

first_of : {A : Type 0} (xs : List A) (x : A) → Has xs x → (y : A) × (slice_get xs 0 ≡ Some y)
first_of [] x has = absurd has
first_of (y ∷ xs) x has = (y, refl)

longer : {A : Type 0} (xs : List A) (x : A) → Has xs x → 0 < length xs
longer [] x has = absurd has
longer (y ∷ xs) x has = omega arith

-- a part with slabs is among those that are cut
part_cut : (clauses : List Clause) (decl : Decl) (part : ℕ) (slabs : List Slab) → part < length (parts_of decl)
    → slabs_of clauses decl part ≡ Some slabs → 0 < length (cut_parts clauses decl)
unfolding cut_parts
part_cut clauses decl part slabs within is = elim (slice_get_cases (parts_of decl) part).1 [
  | inl found ↦
      longer _ _ (Has-filter_map (λ (numbered : ℕ × Array).
      option_map (λ (each : List Slab). cut_array each numbered.1) (slabs_of clauses decl numbered.0))
      (enumerate_from 0 (parts_of decl)) (part, found.0) (cut_array slabs found.0)
      (subst (λ (n : ℕ). Has (enumerate_from 0 (parts_of decl)) (n, found.0)) (zero-add part)
      (Has-numbered 0 (parts_of decl) part found.0 found.2))
      (ap (option_map (λ (each : List Slab). cut_array each found.0)) is))
  | inr past ↦ absurd (omega (arith, within, past.0))
]

pub some_cut : (clauses : List Clause) (decl : Decl) → 0 < length (parts_of decl) → is_sent clauses decl ≡ true
    → 0 < length (cut_parts clauses decl)
unfolding is_sent slabs_of
some_cut [] decl some sent = part_cut [] decl 0 _ some (slabs_of-all decl 0)
some_cut (clause ∷ clauses) decl some sent =
    let passes = some_passes (λ (each : Clause). is_picked (picked_by decl each.path)) (clause ∷ clauses) sent in
    let gives = gives_some decl passes.0 some passes.2 in
    let found = first_of _ gives.slabs (Has-filter_map (λ (each : Clause). given_by decl each gives.part)
    (clause ∷ clauses) passes.0 gives.slabs passes.1 gives.is) in
    part_cut (clause ∷ clauses) decl gives.part found.0 gives.within found.1
