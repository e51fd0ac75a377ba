-- Which declaration the path of a clause names, and the dimensions of what it names.
use Rattle.std.proofs.Common.{◌≡◌, ◌≢◌, ℕ, zero, suc, ◌<◌, true, false, List, [], ◌∷◌, length, get_or, slice_get, Option, Some, None, refl, sym, ap, ap₂, subst, ◌∙◌, inl, inr, arith}
use Rattle.std.specs.List.{position, position_or_len}
use Rattle.std.specs.Option.{option_map_or}
use Rattle.std.specs.Str.{bytes_eq}
use Rattle.std.proofs.lemmas.Bool.{cases_Bool, cond-true, cond-false, cases_lt, lt-ltb, le-ltb, true≢false}
use Rattle.std.proofs.lemmas.List.Sums.{fails_before_first, passes_at_first}
use Rattle.std.proofs.lemmas.Option.{none-some, same_Some, slice_get-get_or}
use Rattle.std.proofs.lemmas.Slice.Eq.{bytes_eq-Decides}
use Rattle.dap_model.specs.FaultFacts.{IsNamedBy, IsPartNamed, HasDims}
use Rattle.dap_model.specs.Picking.{name_of, named_parts, part_dims, Picked, nothing, every, only, picked_part, picked_below, picked_by, is_picked, is_every, picked_dims, decl_named}
use Rattle.dap_model.specs.ProjectionFacts.{Names}
use Rattle.dap_model.specs.declared.declaration.Array.{Array}
use Rattle.dap_model.specs.declared.declaration.Decl.{Decl}
use Rattle.dap_model.specs.declared.declaration.Decl.TheVariants.{Plain, Grid, Structure}
use Rattle.dap_model.proofs.GridLemmas.{alone_if_every}
use Rattle.dap_model.proofs.ListLemmas.{Has}
use Rattle.dap_model.proofs.PickingLemmas.{Names-picked, picked_if_named, blank, is_named}

none_in_front : (path : List (List ℕ)) (decl : Decl) (decls : List Decl) (index : ℕ)
    → is_picked (picked_by decl path) ≡ false
    → ((before : ℕ) (other : Decl) → before < index → slice_get decls before ≡ Some other → Names other path → ⊥)
    → (before : ℕ) (other : Decl) → before < suc index → slice_get (decl ∷ decls) before ≡ Some other → Names other path
    → ⊥
none_in_front path decl decls index unpicked none zero other below is names =
    let picked = picked_if_named decl path (subst (λ (d : Decl). Names d path) (sym (same_Some decl other is)) names) in
    true≢false (sym picked ∙ unpicked)
none_in_front path decl decls index unpicked none (suc before) other below is names =
    none before other (omega arith) is names

-- the declaration that is found is the first that the path names
pub IsNamedBy-decl_named : (decls : List Decl) (path : List (List ℕ)) (decl : Decl)
    → decl_named decls path ≡ Some decl → IsNamedBy decls path decl
unfolding decl_named
IsNamedBy-decl_named [] path decl e = absurd (none-some decl e)
IsNamedBy-decl_named (first ∷ decls) path decl e = elim (cases_Bool (is_picked (picked_by first path))) [
  | inl t ↦
      let same : first ≡ decl = same_Some _ _ (sym (cond-true _ _ _ t) ∙ e) in
      record {
        index = 0;
        decl_is = ap Some same;
        names = subst (λ (d : Decl). Names d path) same (Names-picked first path t);
        first = λ before other below. absurd (omega arith);
      }
  | inr f ↦
      let s = IsNamedBy-decl_named decls path decl (sym (cond-false _ _ _ f) ∙ e) in
      record {
        index = suc s.index;
        decl_is = s.decl_is;
        names = s.names;
        first = none_in_front path first decls s.index f s.first;
      }
]

-- where none is found, the path names none
pub unnamed : (decls : List Decl) (path : List (List ℕ)) (decl : Decl)
    → decl_named decls path ≡ None → Has decls decl → Names decl path → ⊥
unfolding decl_named
unnamed [] path decl e has names = has
unnamed (first ∷ decls) path decl e has names = elim (cases_Bool (is_picked (picked_by first path))) [
  | inl t ↦ none-some _ (sym e ∙ cond-true _ _ _ t)
  | inr f ↦ elim has [
    | inl same ↦
        let picked = picked_if_named first path (subst (λ (d : Decl). Names d path) (sym same) names) in
        true≢false (sym picked ∙ f)
    | inr later ↦ unnamed decls path decl (sym (cond-false _ _ _ f) ∙ e) later names
  ]
]

-- the part at an index, where it is the first of its name
record PartAt (parts : List Array) (name : List ℕ) (index : ℕ) : Type 0 where
  part : Array
  part_is : slice_get parts index ≡ Some part
  name_is : part.name ≡ name
  first : (before : ℕ) (other : Array) → before < index → slice_get parts before ≡ Some other → other.name ≢ name

part_at : (parts : List Array) (name : List ℕ) (index : ℕ) → position (is_named name) parts ≡ Some index
    → PartAt parts name index
part_at parts name index e =
    let count = position_or_len (is_named name) parts in
    elim (cases_lt count (length parts)) [
      | inr past ↦ absurd (none-some index (sym (cond-false _ _ _ (le-ltb count (length parts) past)) ∙ e))
      | inl within ↦
          let same : count ≡ index = same_Some _ _ (sym (cond-true _ _ _ (lt-ltb count (length parts) within)) ∙ e) in
          let part = get_or parts count (blank name) in
          record {
            part = part;
            part_is = ap (slice_get parts) (sym same) ∙ slice_get-get_or parts count (blank name) within;
            name_is = (bytes_eq-Decides part.name name).0 (passes_at_first (is_named name) parts (blank name) within);
            first = λ before other below is named.
                let stands : slice_get parts before ≡ Some (get_or parts before (blank name)) =
                slice_get-get_or parts before (blank name) (omega arith) in
                let other_is = same_Some _ _ (sym stands ∙ is) in
                let passes : is_named name other ≡ true = (bytes_eq-Decides other.name name).1 named in
                let fails = fails_before_first (is_named name) parts before (blank name) (omega arith) in
                true≢false (sym passes ∙ ap (is_named name) (sym other_is) ∙ fails);
          }
    ]

-- the name behind the declaration's, and the index of the part that it picks
record OnlyPart (decl : Decl) (path : List (List ℕ)) (index : ℕ) : Type 0 where
  name : List ℕ
  path_is : path ≡ name_of decl ∷ name ∷ []
  index_is : position (is_named name) (named_parts decl) ≡ Some index

same_index : (o : Option ℕ) (index : ℕ) → option_map_or only o nothing ≡ only index → o ≡ Some index
same_index None index e = absurd cc
same_index (Some other) index e = let same : other ≡ index = cc in ap Some same

only_below : (decl : Decl) (names : List (List ℕ)) (index : ℕ) → picked_below decl names ≡ only index
    → (name : List ℕ) × (names ≡ name ∷ []) × (position (is_named name) (named_parts decl) ≡ Some index)
unfolding picked_part
only_below decl [] index e = absurd cc
only_below decl (name ∷ []) index e = (name, refl, same_index _ index e)
only_below decl (name ∷ next ∷ names) index e = absurd cc

only_part : (decl : Decl) (path : List (List ℕ)) (index : ℕ) → picked_by decl path ≡ only index
    → OnlyPart decl path index
unfolding picked_by
only_part decl [] index e = absurd cc
only_part decl (name ∷ names) index e = elim (cases_Bool (bytes_eq (name_of decl) name)) [
  | inl t ↦
      let s = only_below decl names index (sym (cond-true _ _ _ t) ∙ e) in
      let same = (bytes_eq-Decides (name_of decl) name).0 t in
      record {
        name = s.0;
        path_is = ap₂ (λ (n : List ℕ) (l : List (List ℕ)). n ∷ l) (sym same) s.1;
        index_is = s.2;
      }
  | inr f ↦ let none : nothing ≡ only index = sym (cond-false _ _ _ f) ∙ e in absurd cc
]

dims_of_part : (decl : Decl) (index : ℕ) (part : Array) → slice_get (named_parts decl) index ≡ Some part
    → part_dims decl index ≡ part.dims
dims_of_part (Plain array) index part e = absurd (none-some part e)
dims_of_part (Grid name array maps) index part e =
    ap (λ (o : Option Array). option_map_or (λ (a : Array). a.dims) o []) e
dims_of_part (Structure name members) index part e =
    ap (λ (o : Option Array). option_map_or (λ (a : Array). a.dims) o []) e

-- the dimensions of what is picked are those of what the path names
pub HasDims-picked : (decl : Decl) (path : List (List ℕ)) → is_picked (picked_by decl path) ≡ true
    → HasDims decl path (picked_dims decl (picked_by decl path))
HasDims-picked decl path picked = go (picked_by decl path) refl picked where
  go : (p : Picked) → picked_by decl path ≡ p → is_picked p ≡ true → HasDims decl path (picked_dims decl p)
  go nothing e t = absurd (true≢false (sym t))
  go every e t = inl (alone_if_every decl path (ap is_every e), refl)
  go (only index) e t =
      let s = only_part decl path index e in
      let at = part_at (named_parts decl) s.name index s.index_is in
      inr (
        at.part,
        s.path_is ∙ ap (λ (n : List ℕ). name_of decl ∷ n ∷ []) (sym at.name_is),
        subst (λ (n : List ℕ). IsPartNamed (named_parts decl) n at.part) (sym at.name_is)
            (record { index = index; part_is = at.part_is; name_is = at.name_is; first = at.first }),
        dims_of_part decl index at.part at.part_is,
      )
