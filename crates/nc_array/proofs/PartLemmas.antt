-- The elements of a part lie one after another, and the elements of a variable are those of its parts.
use Rattle.std.proofs.Common.{◌≡◌, ℕ, zero, suc, ◌+◌, ◌*◌, Bool, true, false, cond, List, [], ◌∷◌, ◌++◌, map, take, drop, refl, sym, ap, ◌∙◌, arith, append-nil}
use Rattle.std.specs.List.{flat_map, range_with_len, slice_index}
use Rattle.std.proofs.Math.Seq.{take-add}
use Rattle.std.proofs.lemmas.List.{drop-drop}
use Rattle.std.proofs.lemmas.List.Concat.{flat_map-append}
use Rattle.std.proofs.lemmas.List.Folds.{flat_map-map}
use Rattle.nc_model.specs.declared.header.Header.{Header}
use Rattle.nc_model.specs.declared.header.NcVar.{NcVar}
use Rattle.nc_model.specs.Kind.{size_of}
use Rattle.nc_model.specs.Layout.{product, rank_in, indices_of, is_record_var, fixed_shape, vsize, element, elements_of}
use Rattle.nc_layout.specs.LaidOut.{part_begin, part_count}
use Rattle.nc_layout.proofs.HeaderLemmas.{shape_of-fixed, shape_of-record, offset_of-part}
use Rattle.nc_layout.proofs.OrderLemmas.{flat_map_all, map-rank_in, range-append}
use Rattle.nc_array.specs.Parts.{part_bytes}

flat_map-flat_map : {A B C : Type 0} (f : B → List C) (g : A → List B) (xs : List A)
    → flat_map f (flat_map g xs) ≡ flat_map (λ x. flat_map f (g x)) xs
flat_map-flat_map f g [] = refl
flat_map-flat_map f g (x ∷ xs) =
    flat_map-append f (g x) (flat_map g xs) ∙ ap (λ ys. flat_map f (g x) ++ ys) (flat_map-flat_map f g xs)

-- pieces of one size, one after another
pub pieces : (bytes : List ℕ) (begin size a n : ℕ)
    → flat_map (λ r. take size (drop (begin + size * r) bytes)) (range_with_len a n)
    ≡ take (size * n) (drop (begin + size * a) bytes)
pieces bytes begin size a zero =
    let none : 0 ≡ size * 0 = omega arith in
    ap (λ n. take n (drop (begin + size * a) bytes)) none
pieces bytes begin size a (suc n) =
    let from : begin + size * (a + 1) ≡ begin + size * a + size = omega arith in
    let len : size + size * n ≡ size * suc n = omega arith in
    ap (λ ys. take size (drop (begin + size * a) bytes) ++ ys)
    (pieces bytes begin size (a + 1) n ∙ ap (λ at. take (size * n) (drop at bytes)) from ∙ ap (take (size * n))
    (sym (drop-drop size (begin + size * a) bytes)))
    ∙ sym (take-add size (size * n) (drop (begin + size * a) bytes))
    ∙ ap (λ k. take k (drop (begin + size * a) bytes)) len

-- the elements of a part
pub elements_at : (bytes : List ℕ) (begin size : ℕ) (shape : List ℕ)
    → flat_map (λ index. take size (drop (begin + size * rank_in shape index) bytes)) (indices_of shape)
    ≡ take (size * product shape) (drop begin bytes)
elements_at bytes begin size shape =
    let from : begin + size * 0 ≡ begin = omega arith in
    sym (flat_map-map (λ r. take size (drop (begin + size * r) bytes)) (rank_in shape) (indices_of shape))
    ∙ ap (flat_map (λ r. take size (drop (begin + size * r) bytes))) (map-rank_in shape)
    ∙ pieces bytes begin size 0 (product shape)
    ∙ ap (λ at. take (size * product shape) (drop at bytes)) from

-- the elements of a variable are the bytes of its parts
pub elements_of-parts : (bytes : List ℕ) (header : Header) (var : NcVar)
    → elements_of bytes header var ≡ flat_map (part_bytes bytes header var) (range_with_len 0 (part_count header var))
unfolding element elements_of indices_of vsize
elements_of-parts bytes header var = by_case (is_record_var header var) refl
  where
    moved : {at to : ℕ} → at ≡ to → take (size_of var.kind) (drop at bytes) ≡ take (size_of var.kind) (drop to bytes)
    moved e = ap (λ offset. take (size_of var.kind) (drop offset bytes)) e

    by_case : (b : Bool) → is_record_var header var ≡ b
        → elements_of bytes header var
        ≡ flat_map (part_bytes bytes header var) (range_with_len 0 (cond b header.numrecs 1))
    by_case true is =
        let fixed = fixed_shape header var in
        ap (λ shape. flat_map (element bytes header var) (indices_of shape)) (shape_of-record header var is)
        ∙ flat_map-flat_map _ (λ (i : ℕ). map (λ (index : List ℕ). i ∷ index) (indices_of fixed))
        (range_with_len 0 header.numrecs)
        ∙ flat_map_all _ _ (λ i.
        flat_map-map (element bytes header var) (λ (index : List ℕ). i ∷ index) (indices_of fixed)
        ∙ flat_map_all _ _ (λ index. moved (offset_of-part header var (i ∷ index) ∙ rw is refl)) (indices_of fixed)
        ∙ elements_at bytes (part_begin header var i) (size_of var.kind) fixed) (range_with_len 0 header.numrecs)
    by_case false is =
        let fixed = fixed_shape header var in
        ap (λ shape. flat_map (element bytes header var) (indices_of shape)) (shape_of-fixed header var is)
        ∙ flat_map_all _ _ (λ index. moved (offset_of-part header var index ∙ rw is refl)) (indices_of fixed)
        ∙ elements_at bytes (part_begin header var 0) (size_of var.kind) fixed
        ∙ sym (append-nil (part_bytes bytes header var 0))

-- one part more
pub flat_map-range_more : (f : ℕ → List ℕ) (k : ℕ)
    → flat_map f (range_with_len 0 (k + 1)) ≡ flat_map f (range_with_len 0 k) ++ f k
flat_map-range_more f k =
    let at : 0 + k ≡ k = omega arith in
    ap (flat_map f) (sym (range-append 0 k 1)) ∙ flat_map-append f (range_with_len 0 k) (range_with_len (0 + k) 1)
    ∙ ap (λ ys. flat_map f (range_with_len 0 k) ++ ys) (append-nil (f (0 + k)))
    ∙ ap (λ n. flat_map f (range_with_len 0 k) ++ f n) at
