-- Declarations as they are sent: their names and their order, and that they are as they stand where there is no clause.
use Rattle.std.proofs.Common.{◌≡◌, ℕ, Bool, true, false, List, [], ◌∷◌, map, filter, slice_get, Option, Some, None, refl, ap, ap₂, ◌∙◌, zero-add}
use Rattle.std.specs.List.{enumerate_from, filter_map, zip}
use Rattle.std.specs.Option.{option_map, option_map_or}
use Rattle.nc_model.specs.declared.header.Dim.{Dim}
use Rattle.dap_model.specs.declared.declaration.Array.{Array}
use Rattle.dap_model.specs.declared.declaration.Decl.{Decl}
use Rattle.dap_model.specs.declared.declaration.Decl.TheVariants.{Plain, Grid, Structure}
use Rattle.dap_model.specs.declared.projection.Clause.{Clause}
use Rattle.dap_model.specs.declared.projection.Slab.{Slab}
use Rattle.dap_model.specs.Box.{slab_count}
use Rattle.dap_model.specs.Picking.{name_of, parts_of, part_dims, whole_slabs}
use Rattle.dap_model.specs.Projection.{slabs_of, cut_array, cut_parts, is_sent, is_kept, rebuilt, decl_sent, all_sent}
use Rattle.std.proofs.lemmas.Bool.{cond-true}
use Rattle.dap_model.proofs.SlabLemmas.{slab_count-whole}
use Rattle.dap_model.proofs.WholeClauseLemmas.{is_sent-all, is_kept-all, slabs_of-all}
use Rattle.dap_model.proofs.ListLemmas.{Has, slice_get-numbered, filter_map-each, items-numbered, map-same, map-map}

whole_cut : (dims : List Dim)
    → map (λ (pair : Dim × Slab). record pair.0 { size = slab_count pair.1 }) (zip dims (whole_slabs dims)) ≡ dims
unfolding whole_slabs
whole_cut [] = refl
whole_cut (dim ∷ dims) =
    ap₂ (λ (n : ℕ) (l : List Dim). record dim { size = n } ∷ l) (slab_count-whole dim.size) (whole_cut dims)

-- whole slabs leave an array as it is
cut_array-whole : (array : Array) → cut_array (whole_slabs array.dims) array ≡ array
unfolding cut_array
cut_array-whole array = ap (λ (dims : List Dim). record array { dims = dims }) (whole_cut array.dims)

part_whole : (decl : Decl) (numbered : ℕ × Array) → Has (enumerate_from 0 (parts_of decl)) numbered
    → option_map (λ (slabs : List Slab). cut_array slabs numbered.1) (slabs_of [] decl numbered.0) ≡ Some numbered.1
part_whole decl numbered has =
    let found = slice_get-numbered 0 (parts_of decl) numbered has in
    let same : numbered.0 ≡ found.0 = found.1 ∙ zero-add found.0 in
    let dims : part_dims decl numbered.0 ≡ numbered.1.dims =
    ap (λ (o : Option Array). option_map_or (λ (array : Array). array.dims) o [])
    (ap (slice_get (parts_of decl)) same ∙ found.2) in
    ap (option_map (λ (slabs : List Slab). cut_array slabs numbered.1)) (slabs_of-all decl numbered.0)
    ∙ ap (λ (each : List Dim). Some (cut_array (whole_slabs each) numbered.1)) dims
    ∙ ap Some (cut_array-whole numbered.1)

parts_whole : (decl : Decl) → cut_parts [] decl ≡ parts_of decl
unfolding cut_parts
parts_whole decl =
    filter_map-each (λ (numbered : ℕ × Array). option_map (λ (slabs : List Slab). cut_array slabs numbered.1)
    (slabs_of [] decl numbered.0)) (λ (numbered : ℕ × Array). numbered.1)
    (enumerate_from 0 (parts_of decl)) (part_whole decl)
    ∙ items-numbered 0 (parts_of decl)

rebuilt_whole : (decl : Decl) → rebuilt true decl (parts_of decl) ≡ decl
rebuilt_whole (Plain array) = refl
rebuilt_whole (Grid name array maps) = refl
rebuilt_whole (Structure name members) = refl

-- a declaration is sent as it is
decl_sent-whole : (decl : Decl) → decl_sent [] decl ≡ decl
unfolding decl_sent
decl_sent-whole decl =
    ap (λ (kept : Bool). rebuilt kept decl (cut_parts [] decl)) (is_kept-all decl)
    ∙ ap (rebuilt true decl) (parts_whole decl)
    ∙ rebuilt_whole decl

kept_all : (decls : List Decl) → filter (is_sent []) decls ≡ decls
kept_all [] = refl
kept_all (decl ∷ decls) =
    cond-true _ _ _ (is_sent-all decl) ∙ ap (λ (l : List Decl). decl ∷ l) (kept_all decls)

-- all declarations are sent as they are
pub all_sent-whole : (decls : List Decl) → (all_sent decls []).decls ≡ decls
unfolding all_sent
all_sent-whole decls = ap (map (decl_sent [])) (kept_all decls) ∙ map-same (decl_sent []) decls decl_sent-whole

plain_name : (clauses : List Clause) (array : Array) (o : Option (List Slab)) → o ≡ slabs_of clauses (Plain array) 0
    → name_of (rebuilt (is_kept clauses (Plain array)) (Plain array)
    (filter_map (λ (numbered : ℕ × Array). option_map (λ (slabs : List Slab). cut_array slabs numbered.1) o)
    ((0, array) ∷ []))) ≡ array.name
unfolding cut_array
plain_name clauses array None e = refl
plain_name clauses array (Some slabs) e = refl

grid_name : (kept : Bool) (name : List ℕ) (array : Array) (maps parts : List Array)
    → name_of (rebuilt kept (Grid name array maps) parts) ≡ name
grid_name true name array maps [] = refl
grid_name true name array maps (part ∷ parts) = refl
grid_name false name array maps [] = refl
grid_name false name array maps (part ∷ parts) = refl

-- a declaration keeps its name
pub name_of-sent : (clauses : List Clause) (decl : Decl) → name_of (decl_sent clauses decl) ≡ name_of decl
unfolding decl_sent cut_parts
name_of-sent clauses (Plain array) = plain_name clauses array (slabs_of clauses (Plain array) 0) refl
name_of-sent clauses (Grid name array maps) =
    grid_name (is_kept clauses (Grid name array maps)) name array maps (cut_parts clauses (Grid name array maps))
name_of-sent clauses (Structure name members) = refl

-- declarations are sent in their order
pub names_sent : (decls : List Decl) (clauses : List Clause)
    → map name_of (all_sent decls clauses).decls ≡ map name_of (filter (is_sent clauses) decls)
unfolding all_sent
names_sent decls clauses =
    map-map name_of (decl_sent clauses) name_of (filter (is_sent clauses) decls) (name_of-sent clauses)
