-- The arrays and the texts of a dataset are small.
use Rattle.std.proofs.Common.{◌≡◌, ℕ, zero, suc, ◌+◌, ◌-◌, ◌*◌, ◌^◌, ◌<◌, ◌≤◌, List, [], ◌∷◌, length, take, drop, Option, Some, None, ◌⊎◌, inl, inr, refl, sym, ap, subst, ◌∙◌, arith}
use Rattle.std.specs.Prelude.{slice_get, ◌==◌}
use Rattle.std.specs.List.{suffix_len}
use Rattle.std.specs.Option.{option_map_or}
use Rattle.std.proofs.lemmas.Bool.{cases_order}
use Rattle.std.proofs.lemmas.List.{length-take}
use Rattle.nc_model.specs.declared.header.Dim.{Dim}
use Rattle.nc_model.specs.Layout.{product, rank_in}
use Rattle.nc_layout.proofs.RankLemmas.{length-index}
use Rattle.fm_model.specs.declared.proto.Proto.{Proto}
use Rattle.fm_model.specs.declared.proto.ProtoVar.{ProtoVar}
use Rattle.fm_model.specs.Attribute.{trimmed}
use Rattle.fm_model.specs.Prototype.{lengths_of}
use Rattle.fm_model.specs.Site.{IsPrototype}
use Rattle.fm_model.proofs.CellLemmas.{in_from_slice_get}
use Rattle.fm_model.proofs.Members.{Each-in}
use Rattle.fm_model.proofs.ProtoLemmas.{IsSound-given}
use Rattle.dap_model.specs.declared.declaration.Array.{Array}
use Rattle.fm_dataset.specs.Declarations.{rows_dim}
use Rattle.fm_dataset.specs.Kept.{length_at, slot_number, HasCharacters}
use Rattle.fm_dataset.specs.Rows.{AreRows}
use Rattle.fm_dataset.specs.Values.{array_at, characters, row_dims, row_index, row_shape, text_of_part, var_of_part, var_text, HasText, IsSmall, Shown}
use Rattle.fm_dataset.proofs.ElementLemmas.{some_block, var_there}
use Rattle.fm_dataset.proofs.PartLemmas.{added_array, part_is}
use Rattle.fm_dataset.proofs.PieceLemmas.{characters_are}
use Rattle.fm_dataset.proofs.ReadLemmas.{has_characters}
use Rattle.fm_dataset.proofs.PrototypeLimits.{limits, HasLimits}
use Rattle.fm_dataset.proofs.SmallLemmas.{small_array, small_by}

-- the array of each part is small
pub small_arrays : (shown : Shown) (decl part : ℕ) (array : Array) → IsPrototype shown.proto
    → AreRows shown.proto shown.rows → array_at shown decl part ≡ Some array → IsSmall array
unfolding product
small_arrays shown decl part array given rows_are e = by_order (cases_order decl (length shown.proto.vars))
  where
    past : length shown.proto.vars ≤ decl → IsSmall array
    past most =
        let dims = (added_array shown decl part array most e).dims in
        let few = rows_are.few in
        small_by array (rows_dim shown.proto (length shown.rows) ∷ []) dims (omega arith) (rows_are.some, tt)
        (omega (arith, few))

    by_order : (decl ≡ length shown.proto.vars) ⊎ (decl < length shown.proto.vars) ⊎ (length shown.proto.vars < decl)
        → IsSmall array
    by_order (inl same) = past (omega (arith, same))
    by_order (inr (inl below)) =
        let is = part_is shown decl part array below e in
        let there = var_there shown.proto decl part is.var is.var_is in
        subst IsSmall (sym is.array_is)
        (small_array shown.proto (IsSound-given shown.proto given) there.0 is.var there.1 given shown.rows rows_are)
    by_order (inr (inr over)) = past (omega (arith, over))

-- the length of a dimension
short_length : (proto : Proto) → HasLimits proto → (id : ℕ) → length_at proto id < 2 ^ 31
short_length proto small id = by_dim (slice_get proto.dims id) refl
  where
    by_dim : (o : Option Dim) → slice_get proto.dims id ≡ o
        → option_map_or (λ (dim : Dim). dim.size) o 0 < 2 ^ 31
    by_dim None is = omega arith
    by_dim (Some dim) is = Each-in (λ (d : Dim). d.size < 2 ^ 31) dim proto.dims small.sizes
        (in_from_slice_get proto.dims id dim is)

-- of all dimensions but the first few, at most one is left
short_product : (proto : Proto) → HasLimits proto → (k : ℕ) (ids : List ℕ) → length ids ≤ k + 1
    → product (drop k (lengths_of proto ids)) < 2 ^ 31
unfolding product
short_product proto small zero [] few = omega arith
short_product proto small zero (id ∷ []) few =
    let here = short_length proto small id in omega (arith, here)
short_product proto small zero (id ∷ other ∷ ids) few = absurd (omega arith)
short_product proto small (suc k) [] few = omega arith
short_product proto small (suc k) (id ∷ ids) few = short_product proto small k ids (omega arith)

short_text : (shown : Shown) → HasLimits shown.proto → (var : ProtoVar) (slot : ℕ) (index : List ℕ)
    → HasCharacters shown.proto shown.rows var slot index
    → length (var_text shown.proto shown.rows var index) < 2 ^ 31
unfolding trimmed
short_text shown small var slot index has =
    let block = some_block shown.proto shown.rows var slot index has.block in
    let len : ℕ = product (drop (length (row_index var index)) (row_shape shown.proto var)) in
    let first : ℕ = rank_in (take (length (row_index var index)) (row_shape shown.proto var)) (row_index var index) in
    let all = ap length (characters_are block.is has.small has.some (length-index _ _ has.index_is) refl refl) in
    let taken = length-take (len * 1) (drop (block.begin + len * first) block.bytes) in
    let few = short_product shown.proto small (length (row_index var index)) (row_dims var) has.last in
    let text : List ℕ = characters shown.proto shown.rows var index in
    let front = length-take (length text - suffix_len (λ byte. byte == 0) text) text in
    omega (arith, all, taken, few, front)

-- each text is short
pub short_texts : (shown : Shown) (decl part : ℕ) (index : List ℕ) → IsPrototype shown.proto
    → AreRows shown.proto shown.rows → HasText shown decl part index
    → length (text_of_part shown decl part index) < 2 ^ 31
unfolding text_of_part
short_texts shown decl part index given rows_are has = by_var (var_of_part shown.proto decl part) refl
  where
    by_var : (o : Option ProtoVar) → var_of_part shown.proto decl part ≡ o
        → length (option_map_or (λ var. var_text shown.proto shown.rows var index) o []) < 2 ^ 31
    by_var None is = omega arith
    by_var (Some var) is =
        let there = var_there shown.proto decl part var is in
        short_text shown (limits shown.proto given) var (slot_number shown.proto there.0) index
        (has_characters shown (IsSound-given shown.proto given) rows_are decl part index there.0 var
        (there.1 ∙ sym is) there.1 (slot_number shown.proto there.0) refl has)
