-- The declarations of what is sent are those of a message.
use Rattle.std.proofs.Common.{◌≡◌, ℕ, ◌<◌, Bool, true, false, List, [], ◌∷◌, ◌++◌, length, filter, All, Some, refl, sym, subst, arith}
use Rattle.std.specs.Prelude.{slice_get}
use Rattle.std.specs.List.{flat_map, AllByRecursion}
use Rattle.fm_base.specs.Name.{is_name_byte}
use Rattle.nc_model.specs.declared.header.Dim.{Dim}
use Rattle.fm_model.proofs.Members.{in_filter, in_map, Each, Each-from_in, In}
use Rattle.fm_dataset.proofs.NameLemmas.{held_index}
use Rattle.dap_model.specs.declared.declaration.Array.{Array}
use Rattle.dap_model.specs.declared.declaration.Decl.{Decl}
use Rattle.dap_model.specs.declared.declaration.Decl.TheVariants.{Grid, Plain, Structure}
use Rattle.dap_model.specs.declared.projection.Clause.{Clause}
use Rattle.dap_model.specs.declared.projection.Slab.{Slab}
use Rattle.dap_model.specs.Picking.{or_whole, parts_of}
use Rattle.dap_model.specs.Projection.{all_sent, cut_array, cut_parts, decl_sent, is_kept, is_sent, rebuilt}
use Rattle.dap_model.specs.ProjectionFacts.{AreNamedApart, IsGridded}
use Rattle.dap_model.proofs.ProjectionAgreeLemmas.{Faultless}
use Rattle.dap_client.specs.Message.{AreMapsOf, IsArray, IsDecl, IsWord}
use Rattle.reply_laws.proofs.KeptLemmas.{all_cut, first_long, maps_cut, spread_of}
use Rattle.reply_laws.proofs.ShapeLemmas.{IsDeclared, IsDeclaredGrid}
use Rattle.reply_laws.proofs.SomeLemmas.{some_cut}
use Rattle.reply_laws.proofs.TextLemmas.{cut_dims}

-- ---- shapes

-- a Grid has the name of its array, a dimension or more, and a map for each
pub record IsGridShaped (name : List ℕ) (array : Array) (maps : List Array) : Type 0 where
  pub name_is : name ≡ array.name
  pub some : 0 < length array.dims
  pub maps_are : AreMapsOf array.dims maps

-- a declaration is as one of a message, but for its arrays
abbrev pub IsShaped : Decl → Type 0
IsShaped (Plain array) = Unit {0}
IsShaped (Grid name array maps) = IsGridShaped name array maps
IsShaped (Structure name members) = IsWord is_name_byte name × (0 < length members)

some_dims : (dims : List Dim) (slabs : List Slab) → 0 < length dims → length slabs ≡ length dims
    → 0 < length (cut_dims dims slabs)
some_dims [] slabs some same = absurd (omega (arith, some))
some_dims (dim ∷ dims) [] some same = absurd (omega (arith, same))
some_dims (dim ∷ dims) (slab ∷ slabs) some same = omega arith

plain_shape : (whole : Array) (kept : Bool) (parts : List Array) → 0 < length parts
    → IsShaped (rebuilt kept (Plain whole) parts)
plain_shape whole kept [] some = absurd (omega (arith, some))
plain_shape whole kept (part ∷ parts) some = tt

structure_shape : (name : List ℕ) (array : Array) (maps parts : List Array) → IsWord is_name_byte name
    → 0 < length parts → IsShaped (rebuilt false (Grid name array maps) parts)
structure_shape name array maps [] word some = absurd (omega (arith, some))
structure_shape name array maps (part ∷ parts) word some = (word, omega arith)

module _ (decls : List Decl) (clauses : List Clause) (apart : AreNamedApart decls) (gridded : All IsGridded decls)
    (none : Faultless decls [] clauses) where
  kept_shape : (index : ℕ) (name : List ℕ) (array : Array) (maps : List Array)
      → slice_get decls index ≡ Some (Grid name array maps) → IsDeclaredGrid name array maps
      → is_kept clauses (Grid name array maps) ≡ true
      → IsShaped (rebuilt true (Grid name array maps) (cut_parts clauses (Grid name array maps)))
  unfolding cut_array
  kept_shape index name array maps there is kept =
      let decl : Decl = Grid name array maps in
      let slabs : List Slab = (spread_of decls clauses apart gridded none index decl there kept).slabs in
      let long : length (or_whole array.dims slabs) ≡ length array.dims =
      first_long decls clauses apart gridded none index decl there kept (omega arith) in
      subst (λ (parts : List Array). IsShaped (rebuilt true decl parts))
      (sym (all_cut decls clauses apart gridded none index decl there kept))
      (record {
        name_is = is.name_is;
        some = some_dims array.dims (or_whole array.dims slabs) is.some long;
        maps_are = maps_cut array maps slabs long is.maps_are;
      })

  sent_shape : (index : ℕ) (decl : Decl) → slice_get decls index ≡ Some decl → IsDeclared decl
      → is_sent clauses decl ≡ true → IsShaped (decl_sent clauses decl)
  unfolding decl_sent
  sent_shape index (Plain whole) there is sent =
      plain_shape whole (is_kept clauses (Plain whole)) (cut_parts clauses (Plain whole))
      (some_cut clauses (Plain whole) (omega arith) sent)
  sent_shape index (Grid name array maps) there is sent = by_kept (is_kept clauses (Grid name array maps)) refl
    where
      by_kept : (b : Bool) → is_kept clauses (Grid name array maps) ≡ b
          → IsShaped (rebuilt b (Grid name array maps) (cut_parts clauses (Grid name array maps)))
      by_kept true kept = kept_shape index name array maps there is kept
      by_kept false cut = structure_shape name array maps (cut_parts clauses (Grid name array maps)) is.word
          (some_cut clauses (Grid name array maps) (omega arith) sent)
  sent_shape index (Structure name members) there is sent = absurd is

  -- the shapes of all that is sent
  pub shapes_sent : ((decl : Decl) → In decl decls → IsDeclared decl)
      → Each IsShaped (all_sent decls clauses).decls
  unfolding all_sent
  shapes_sent declared = Each-from_in IsShaped _ (λ sent held.
      let found = in_map (decl_sent clauses) sent (filter (is_sent clauses) decls) held in
      let kept = in_filter (is_sent clauses) found.0 decls found.1 in
      let at = held_index found.0 decls kept.0 in
      subst IsShaped found.2 (sent_shape at.0 found.0 at.1 (declared found.0 kept.0) kept.1))

-- ---- declarations

by_recursion : {A : Type 0} (P : A → Type 0) (xs : List A) → Each P xs → AllByRecursion P xs
by_recursion P [] each = tt
by_recursion P (x ∷ xs) each = (each.0, by_recursion P xs each.1)

front_each : {A : Type 0} (P : A → Type 0) (xs ys : List A) → Each P (xs ++ ys) → Each P xs × Each P ys
front_each P [] ys each = (tt, each)
front_each P (x ∷ xs) ys each = let more = front_each P xs ys each.1 in ((each.0, more.0), more.1)

one_decl : (decl : Decl) → Each IsArray (parts_of decl) → IsShaped decl → IsDecl decl
one_decl (Plain array) arrays shaped = arrays.0
one_decl (Grid name array maps) arrays shaped = record {
  name_is = shaped.name_is;
  array_is = arrays.0;
  some = shaped.some;
  maps_are = shaped.maps_are;
}
one_decl (Structure name members) arrays shaped =
    record { name_is = shaped.0; some = shaped.1; members_are = by_recursion IsArray members arrays }

-- declarations by their arrays and their shapes
pub decls_are : (decls : List Decl) → Each IsArray (flat_map parts_of decls) → Each IsShaped decls
    → AllByRecursion IsDecl decls
decls_are [] arrays shapes = tt
decls_are (decl ∷ decls) arrays shapes =
    let parts = front_each IsArray (parts_of decl) (flat_map parts_of decls) arrays in
    (one_decl decl parts.0 shapes.0, decls_are decls parts.1 shapes.1)
