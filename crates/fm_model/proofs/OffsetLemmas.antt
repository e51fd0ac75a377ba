-- Where an element lies, by the slot of its variable.
use Rattle.std.proofs.Common.{◌≡◌, ℕ, ◌+◌, ◌*◌, Bool, true, false, not, List, [], ◌∷◌, drop, map, refl, sym, ap, ◌∙◌, arith}
use Rattle.std.specs.Prelude.{IsTrue, slice_get, ◌==◌}
use Rattle.std.specs.Option.{option_map_or}
use Rattle.std.proofs.lemmas.Bool.{and_parts, eqb-true, false≢true}
use Rattle.nc_model.specs.declared.header.Header.{Header as FileHeader}
use Rattle.nc_model.specs.declared.header.NcVar.{NcVar}
use Rattle.nc_model.specs.Kind.{size_of}
use Rattle.nc_model.specs.Layout.{is_record_var, offset_of, product, rank_in, shape_of, size_at}
use Rattle.nc_model.specs.Reading.{names_record_dim}
use Rattle.fm_model.specs.LoadVars.{slot_in}
use Rattle.fm_model.specs.Variable.{dim_of_axis, stands_first_alone, lies_along}

-- the offset of an element by the slot of its variable
offset_by_slot : (header : FileHeader) (axis var : NcVar) (first : ℕ) (others : List ℕ) (k : ℕ) (index : List ℕ)
    → var.dims ≡ first ∷ others → first ≡ dim_of_axis axis
    → offset_of header var (k ∷ index) ≡ (slot_in header axis var).begin + k * (slot_in header axis var).step
    + size_of var.kind * rank_in (drop 1 (shape_of header var)) index
unfolding offset_of slot_in rank_in product
offset_by_slot header axis var first others k index dims same = by_record (names_record_dim header.dims first) refl
  where
    records_is : is_record_var header var ≡ names_record_dim header.dims first
    records_is = ap (λ (l : List ℕ). option_map_or (names_record_dim header.dims) (slice_get l 0) false) dims

    shape_is : shape_of header var ≡ size_at header first ∷ map (size_at header) others
    shape_is = ap (map (size_at header)) dims

    by_record : (b : Bool) → names_record_dim header.dims first ≡ b
        → offset_of header var (k ∷ index) ≡ (slot_in header axis var).begin + k * (slot_in header axis var).step
        + size_of var.kind * rank_in (drop 1 (shape_of header var)) index
    by_record true is =
        let has : is_record_var header var ≡ true = records_is ∙ is in
        let along : names_record_dim header.dims (dim_of_axis axis)
        ≡ true = ap (names_record_dim header.dims) (sym same)
        ∙ is in
        rw (has, along) refl
    by_record false is =
        let has : is_record_var header var ≡ false = records_is ∙ is in
        let along : names_record_dim header.dims (dim_of_axis axis)
        ≡ false = ap (names_record_dim header.dims) (sym same)
        ∙ is in
        rw (has, along, shape_is) (omega arith)

-- where an element stands, by the slot of its variable
pub offset_of-slot : (header : FileHeader) (axis var : NcVar) (k : ℕ) (index : List ℕ)
    → IsTrue (stands_first_alone (dim_of_axis axis) var.dims)
    → offset_of header var (k ∷ index) ≡ (slot_in header axis var).begin + k * (slot_in header axis var).step
    + size_of var.kind * rank_in (drop 1 (shape_of header var)) index
unfolding stands_first_alone
offset_of-slot header axis var k index alone = by_dims var.dims refl alone
  where
    by_dims : (dims : List ℕ) → var.dims ≡ dims → IsTrue (stands_first_alone (dim_of_axis axis) dims)
        → offset_of header var (k ∷ index) ≡ (slot_in header axis var).begin + k * (slot_in header axis var).step
        + size_of var.kind * rank_in (drop 1 (shape_of header var)) index
    by_dims [] is alone = absurd (false≢true alone)
    by_dims (first ∷ others) is alone = offset_by_slot header axis var first others k index is
        (eqb-true first (dim_of_axis axis)
        (and_parts (first == dim_of_axis axis) (not (lies_along (dim_of_axis axis) others)) alone).0)
