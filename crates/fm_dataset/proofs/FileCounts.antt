-- The elements of a variable are at most as many as the bytes of its file, times the number of records.
use Rattle.std.proofs.Common.{◌≡◌, ℕ, zero, suc, ◌+◌, ◌-◌, ◌*◌, ◌^◌, ◌<◌, ◌≤◌, Bool, true, false, cond, List, map, drop, refl, sym, ap, subst, ◌∙◌, arith}
use Rattle.std.proofs.lemmas.Nat.{mul-le}
use Rattle.nc_model.specs.declared.header.Header.{Header}
use Rattle.nc_model.specs.declared.header.NcVar.{NcVar}
use Rattle.nc_model.specs.Kind.{size_of}
use Rattle.nc_model.specs.Layout.{fixed_shape, is_record_var, last_index, offset_of, product, rank_in, shape_of}
use Rattle.nc_model.proofs.EndLaws.{rank_in-last, EndsWithin}
use Rattle.nc_layout.specs.Kept.{part_of}
use Rattle.nc_layout.specs.LaidOut.{part_begin}
use Rattle.nc_layout.proofs.HeaderLemmas.{offset_of-part, shape_of-fixed, shape_of-record}
use Rattle.fm_dataset.proofs.CountLemmas.{count_fits}

-- a factor isn't 0 where the product isn't
second_factor : (m n : ℕ) → 0 < m * n → 0 < n
second_factor m zero some = absurd (omega arith)
second_factor m (suc n) some = omega arith

-- the elements of one record, or all where there are no records, are at most as many as the bytes of the file
fixed_few : (header : Header) (var : NcVar) (len : ℕ) → EndsWithin header len var → 0 < product (shape_of header var)
    → product (fixed_shape header var) ≤ len
unfolding product
fixed_few header var len ends some = by_case (is_record_var header var) refl
  where
    last : List ℕ
    last = map (λ n. n - 1) (fixed_shape header var)

    -- where the part of the last element begins
    first : ℕ
    first = part_begin header var (part_of header var (last_index header var))

    -- where the last of them ends
    enough : (begin : ℕ) → offset_of header var (last_index header var)
        ≡ begin + size_of var.kind * rank_in (fixed_shape header var) last
        → 0 < product (fixed_shape header var) → product (fixed_shape header var) ≤ len
    enough begin offset positive =
        let rank = rank_in-last (fixed_shape header var) positive in
        let end = ends some in
        let turned : size_of var.kind * product (fixed_shape header var)
        ≡ size_of var.kind * rank_in (fixed_shape header var) last + size_of var.kind =
        ap (λ (n : ℕ). size_of var.kind * n) (sym rank) ∙ omega arith in
        count_fits var.kind begin (product (fixed_shape header var)) len (omega (arith, end, offset, turned))

    by_case : (b : Bool) → is_record_var header var ≡ b → product (fixed_shape header var) ≤ len
    by_case true is =
        let shape = shape_of-record header var is in
        let positive : 0 < product (fixed_shape header var) =
        second_factor header.numrecs (product (fixed_shape header var)) (subst (λ (l : List ℕ). 0 < product l) shape
        some) in
        let offset = offset_of-part header var (last_index header var) in
        let within : rank_in (fixed_shape header var) (cond (is_record_var header var) (drop 1 (last_index header var))
        (last_index header var)) ≡ rank_in (fixed_shape header var) last =
        ap (λ (b : Bool). rank_in (fixed_shape header var)
        (cond b (drop 1 (last_index header var)) (last_index header var))) is
        ∙ ap (λ (l : List ℕ). rank_in (fixed_shape header var) (drop 1 (map (λ n. n - 1) l))) shape in
        enough first (offset ∙ ap (λ (n : ℕ). first + size_of var.kind * n) within) positive
    by_case false is =
        let shape = shape_of-fixed header var is in
        let positive : 0 < product (fixed_shape header var) = subst (λ (l : List ℕ). 0 < product l) shape some in
        let offset = offset_of-part header var (last_index header var) in
        let within : rank_in (fixed_shape header var) (cond (is_record_var header var) (drop 1 (last_index header var))
        (last_index header var)) ≡ rank_in (fixed_shape header var) last =
        ap (λ (b : Bool). rank_in (fixed_shape header var)
        (cond b (drop 1 (last_index header var)) (last_index header var))) is
        ∙ ap (λ (l : List ℕ). rank_in (fixed_shape header var) (map (λ n. n - 1) l)) shape in
        enough first (offset ∙ ap (λ (n : ℕ). first + size_of var.kind * n) within) positive

-- and all elements are at most that times the number of records
pub shape_few : (header : Header) (var : NcVar) (len : ℕ) → header.numrecs < 2 ^ 31 → EndsWithin header len var
    → product (shape_of header var) ≤ 2 ^ 31 * len
unfolding product
shape_few header var len numrecs ends = by_count (product (shape_of header var)) refl
  where
    by_case : (b : Bool) → is_record_var header var ≡ b → product (fixed_shape header var) ≤ len
        → product (shape_of header var) ≤ 2 ^ 31 * len
    by_case true is few =
        let whole = ap product (shape_of-record header var is) in
        let most = mul-le header.numrecs (product (fixed_shape header var)) (2 ^ 31) len (omega (arith, numrecs)) few in
        omega (arith, whole, most)
    by_case false is few =
        let whole = ap product (shape_of-fixed header var is) in
        omega (arith, whole, few)

    by_count : (n : ℕ) → product (shape_of header var) ≡ n → product (shape_of header var) ≤ 2 ^ 31 * len
    by_count zero none = omega (arith, none)
    by_count (suc n) is =
        by_case (is_record_var header var) refl (fixed_few header var len ends (omega (arith, is)))
