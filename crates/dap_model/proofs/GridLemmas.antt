-- Where a Grid stays one.
use Rattle.std.proofs.Common.{◌≡◌, ℕ, suc, Bool, true, false, List, [], ◌∷◌, length, slice_get, Option, Some, None, refl, sym, ap, subst, ◌∙◌, inl, inr, arith}
use Rattle.std.specs.List.{enumerate_from, filter_map, position}
use Rattle.std.specs.Option.{option_map, option_map_or}
use Rattle.std.specs.Str.{bytes_eq}
use Rattle.std.proofs.lemmas.Bool.{cases_Bool, cond-true, cond-false, true≢false}
use Rattle.std.proofs.lemmas.List.FromFn.{length-enumerate_from}
use Rattle.std.proofs.lemmas.Slice.Eq.{bytes_eq-Decides}
use Rattle.dap_model.specs.declared.declaration.Array.{Array}
use Rattle.dap_model.specs.declared.declaration.Decl.{Decl}
use Rattle.dap_model.specs.declared.declaration.Decl.TheVariants.{Grid, Structure}
use Rattle.dap_model.specs.declared.projection.Clause.{Clause}
use Rattle.dap_model.specs.declared.projection.Slab.{Slab}
use Rattle.dap_model.specs.Picking.{name_of, parts_of, part_dims, named_parts, nothing, every, only, picked_part, picked_below, picked_by, is_every, given_by, slabs_for, spread, or_whole}
use Rattle.dap_model.specs.Projection.{slabs_of, cut_array, cut_parts, is_kept, rebuilt, decl_sent}
use Rattle.dap_model.specs.ProjectionFacts.{NamesAlone, IsGridOf}
use Rattle.dap_model.proofs.WholeClauseLemmas.{is_kept-all, slabs_of-all}
use Rattle.dap_model.proofs.ListLemmas.{Has, some_passes, any_passes, Has-from_contains, contains_from_Has, Has-filter_map, filter_map-some}

no_items : {A : Type 0} (x : A) (xs : List A) → x ∷ xs ≡ [] → ⊥
no_items x xs e = cc

not_every : (o : Option ℕ) → is_every (option_map_or only o nothing) ≡ false
not_every None = refl
not_every (Some part) = refl

below : (decl : Decl) (name : List ℕ) (names : List (List ℕ)) → name_of decl ≡ name
    → is_every (picked_below decl names) ≡ true → name ∷ names ≡ name_of decl ∷ []
unfolding picked_part
below decl name [] same e = ap (λ (n : List ℕ). n ∷ []) (sym same)
below decl name (part ∷ []) same e =
    absurd (true≢false (sym e ∙ not_every (position (λ each. bytes_eq each.name part) (named_parts decl))))
below decl name (part ∷ next ∷ names) same e = absurd (true≢false (sym e))

-- a path that picks all of a declaration is its name
pub alone_if_every : (decl : Decl) (path : List (List ℕ)) → is_every (picked_by decl path) ≡ true
    → path ≡ name_of decl ∷ []
unfolding picked_by picked_part
alone_if_every decl [] e = absurd (true≢false (sym e))
alone_if_every decl (name ∷ names) e = elim (cases_Bool (bytes_eq (name_of decl) name)) [
  | inl t ↦
      below decl name names ((bytes_eq-Decides (name_of decl) name).0 t) (sym (ap is_every (cond-true _ _ _ t)) ∙ e)
  | inr f ↦ absurd (true≢false (sym e ∙ ap is_every (cond-false _ _ _ f)))
]

every_if_alone : (decl : Decl) (path : List (List ℕ)) → path ≡ name_of decl ∷ [] → picked_by decl path ≡ every
unfolding picked_by
every_if_alone decl path same =
    ap (picked_by decl) same ∙ cond-true _ _ _ ((bytes_eq-Decides (name_of decl) (name_of decl)).1 refl)

pub kept_if_alone : (clauses : List Clause) (decl : Decl) → NamesAlone clauses (name_of decl)
    → is_kept clauses decl ≡ true
unfolding is_kept
kept_if_alone [] decl alone = is_kept-all decl
kept_if_alone (x ∷ clauses) decl (inl none) = absurd (no_items x clauses none)
kept_if_alone (x ∷ clauses) decl (inr named) =
    any_passes (λ (each : Clause). is_every (picked_by decl each.path)) (x ∷ clauses) named.0
    (Has-from_contains (x ∷ clauses) named.0 named.1)
    (ap is_every (every_if_alone decl named.0.path named.2))

pub alone_if_kept : (clauses : List Clause) (decl : Decl) → is_kept clauses decl ≡ true
    → NamesAlone clauses (name_of decl)
unfolding is_kept
alone_if_kept [] decl kept = inl refl
alone_if_kept (x ∷ clauses) decl kept =
    let s = some_passes (λ (each : Clause). is_every (picked_by decl each.path)) (x ∷ clauses) kept in
    inr (s.0, contains_from_Has (x ∷ clauses) s.0 s.1, alone_if_every decl s.0.path s.2)

-- a list with an item has a first one
first_of_some : {A : Type 0} (xs : List A) (x : A) → Has xs x → (y : A) × (slice_get xs 0 ≡ Some y)
first_of_some [] x has = absurd has
first_of_some (y ∷ xs) x has = (y, refl)

-- each part of a declaration that some clause names alone is sent
part_is_sent : (clauses : List Clause) (decl : Decl) (part : ℕ) → NamesAlone clauses (name_of decl)
    → (slabs : List Slab) × (slabs_of clauses decl part ≡ Some slabs)
unfolding slabs_of given_by
part_is_sent [] decl part alone = (_, slabs_of-all decl part)
part_is_sent (x ∷ clauses) decl part (inl none) = absurd (no_items x clauses none)
part_is_sent (x ∷ clauses) decl part (inr named) =
    let gives = ap (slabs_for decl named.0.slabs part) (every_if_alone decl named.0.path named.2) in
    first_of_some (filter_map (λ (each : Clause). given_by decl each part) (x ∷ clauses))
    (or_whole (part_dims decl part) (spread named.0.slabs part))
    (Has-filter_map (λ (each : Clause). given_by decl each part) (x ∷ clauses) named.0 _
    (Has-from_contains (x ∷ clauses) named.0 named.1) gives)

all_kept : {A B : Type 0} (h : A → Option B) (xs : List A) → ((x : A) → (y : B) × (h x ≡ Some y))
    → length (filter_map h xs) ≡ length xs
all_kept h [] each = refl
all_kept h (x ∷ xs) each = ap length (filter_map-some h x xs (each x).0 (each x).1) ∙ ap suc (all_kept h xs each)

parts_sent : (clauses : List Clause) (decl : Decl) → NamesAlone clauses (name_of decl)
    → length (cut_parts clauses decl) ≡ length (parts_of decl)
unfolding cut_parts
parts_sent clauses decl alone =
    all_kept (λ (numbered : ℕ × Array). option_map (λ (slabs : List Slab). cut_array slabs numbered.1)
    (slabs_of clauses decl numbered.0)) (enumerate_from 0 (parts_of decl))
    (λ numbered.
    let s = part_is_sent clauses decl numbered.0 alone in
    (cut_array s.0 numbered.1, ap (option_map (λ (slabs : List Slab). cut_array slabs numbered.1)) s.1))
    ∙ length-enumerate_from 0 (parts_of decl)

grid_of : (name : List ℕ) (array : Array) (maps parts : List Array) → length parts ≡ suc (length maps)
    → IsGridOf name maps (rebuilt true (Grid name array maps) parts)
grid_of name array maps [] count = absurd (omega arith)
grid_of name array maps (first ∷ others) count =
    record { array = first; others = others; count = omega arith; sent_is = refl }

-- a Grid that some clause names alone is sent as one
pub IsGridOf-decl_sent : (clauses : List Clause) (name : List ℕ) (array : Array) (maps : List Array)
    → NamesAlone clauses name → IsGridOf name maps (decl_sent clauses (Grid name array maps))
unfolding decl_sent
IsGridOf-decl_sent clauses name array maps alone =
    let decl = Grid name array maps in
    subst (λ (kept : Bool). IsGridOf name maps (rebuilt kept decl (cut_parts clauses decl)))
    (sym (kept_if_alone clauses decl alone))
    (grid_of name array maps (cut_parts clauses decl) (parts_sent clauses decl alone))

cut_grid : (name : List ℕ) (array : Array) (maps parts : List Array)
    → rebuilt false (Grid name array maps) parts ≡ Structure name parts
cut_grid name array maps [] = refl
cut_grid name array maps (part ∷ parts) = refl

-- a Grid that no clause names alone is sent as a Structure
pub structure_sent : (clauses : List Clause) (name : List ℕ) (array : Array) (maps : List Array)
    → (NamesAlone clauses name → ⊥)
    → decl_sent clauses (Grid name array maps) ≡ Structure name (cut_parts clauses (Grid name array maps))
unfolding decl_sent
structure_sent clauses name array maps other =
    let decl = Grid name array maps in
    elim (cases_Bool (is_kept clauses decl)) [
      | inl t ↦ absurd (other (alone_if_kept clauses decl t))
      | inr f ↦ ap (λ (kept : Bool). rebuilt kept decl (cut_parts clauses decl)) f
          ∙ cut_grid name array maps (cut_parts clauses decl)
    ]
