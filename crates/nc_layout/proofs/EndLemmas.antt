-- Where the last element of a variable ends: with its last part. No element ends past it.
use Rattle.std.proofs.Common.{◌≡◌, ℕ, ◌+◌, ◌-◌, ◌*◌, ◌<◌, ◌≤◌, Bool, true, false, cond, not, eqb, List, map, drop, Option, None, Some, refl, ap, ◌∙◌, arith}
use Rattle.std.specs.List.{slice_index}
use Rattle.std.proofs.Math.Nat.{le-mul_of_pos_right}
use Rattle.std.proofs.lemmas.Bool.{ne_eqb}
use Rattle.std.proofs.lemmas.Nat.{mul-le}
use Rattle.nc_model.specs.declared.header.Header.{Header}
use Rattle.nc_model.specs.declared.header.NcVar.{NcVar}
use Rattle.nc_model.specs.Kind.{size_of}
use Rattle.nc_model.specs.Layout.{product, rank_in, is_record_var, shape_of, fixed_shape, vsize, record_size, offset_of, last_index, end_of, has_elements, IsIndex}
use Rattle.nc_layout.specs.Kept.{HasLengths, end_if_any, part_of, index_in_part}
use Rattle.nc_layout.specs.LaidOut.{part_begin, part_count}
use Rattle.nc_layout.proofs.HeaderLemmas.{shape_of-fixed, shape_of-record, offset_of-part, index-part}
use Rattle.nc_layout.proofs.ProductLemmas.{product-pos}
use Rattle.nc_model.proofs.EndLaws.{rank_in-last, rank_in-lt, offset_of-le-end_of}

times_last : (size rank whole : ℕ) → rank + 1 ≡ whole → size * rank + size ≡ size * whole
times_last size rank whole e = rw (← e) (omega arith)

-- the last index list of a variable is the last of its last part
last-index : (header : Header) (var : NcVar) → (part_of header var (last_index header var) ≡ part_count header var - 1)
    × (index_in_part header var (last_index header var) ≡ map (λ n. n - 1) (fixed_shape header var))
last-index header var = by_case (is_record_var header var) refl
  where
    by_case : (b : Bool) → is_record_var header var ≡ b
        → (cond b (slice_index (last_index header var) 0) 0 ≡ cond b header.numrecs 1 - 1)
        × (cond b (drop 1 (last_index header var)) (last_index header var) ≡ map (λ n. n - 1) (fixed_shape header var))
    by_case true some =
        let shape = shape_of-record header var some in (
          ap (λ (s : List ℕ). slice_index (map (λ n. n - 1) s) 0) shape,
          ap
              (λ (s : List ℕ). drop 1 (map (λ n. n - 1) s)) shape,
        )
    by_case false none = (refl, ap (map (λ n. n - 1)) (shape_of-fixed header var none))

-- so its end is that of the last part
pub last-part : (header : Header) (var : NcVar) → HasLengths header var
    → end_of header var ≡ part_begin header var (part_count header var - 1) + vsize header var
unfolding vsize
last-part header var all =
    let start = offset_of-part header var (last_index header var) in
    let last = last-index header var in
    let at = ap (part_begin header var) last.0 in
    let offset = ap (λ rest. size_of var.kind * rank_in (fixed_shape header var) rest) last.1 in
    let whole = times_last (size_of var.kind) _ _ (rank_in-last (fixed_shape header var)
    (product-pos (fixed_shape header var) all)) in
    omega arith

-- how many elements a variable has
product-parts : (header : Header) (var : NcVar)
    → product (shape_of header var) ≡ part_count header var * product (fixed_shape header var)
unfolding product
product-parts header var = by_case (is_record_var header var) refl
  where
    by_case : (b : Bool) → is_record_var header var ≡ b
        → product (shape_of header var) ≡ cond b header.numrecs 1 * product (fixed_shape header var)
    by_case true some = ap product (shape_of-record header var some)
    by_case false none = ap product (shape_of-fixed header var none) ∙ omega arith

-- it has one where it has a part
pub has-elements : (header : Header) (var : NcVar) → HasLengths header var → 0 < part_count header var
    → has_elements header var ≡ true
has-elements header var all some =
    let count = product-parts header var in
    let most = le-mul_of_pos_right (part_count header var) (product-pos (fixed_shape header var) all) in
    ap not (ne_eqb (product (shape_of header var)) 0 (λ e. absurd (omega arith)))

pub end_if_any-some : (header : Header) (var : NcVar) → HasLengths header var → 0 < part_count header var
    → end_if_any header var ≡ Some (part_begin header var (part_count header var - 1) + vsize header var)
end_if_any-some header var all some =
    ap (λ b. cond b (Some (end_of header var)) None) (has-elements header var all some)
    ∙ ap Some (last-part header var all)

pub end_if_any-none : (header : Header) (var : NcVar) → part_count header var ≡ 0 → end_if_any header var ≡ None
end_if_any-none header var none =
    let count : product (shape_of header var) ≡ 0 = product-parts header var ∙ rw none (omega arith) in
    ap (λ n. cond (not (eqb n 0)) (Some (end_of header var)) None) count

-- each part ends with the last at the latest, and an element with its part
pub part-le-end : (header : Header) (var : NcVar) (k : ℕ) → HasLengths header var → k < part_count header var
    → part_begin header var k + vsize header var ≤ end_of header var
part-le-end header var k all below =
    let last = last-part header var all in
    let before =
    mul-le k (record_size header) (part_count header var - 1) (record_size header) (omega arith) (omega arith) in
    omega arith

pub element-within : (header : Header) (var : NcVar) (index : List ℕ) → IsIndex (fixed_shape header var) index
    → size_of var.kind * rank_in (fixed_shape header var) index + size_of var.kind ≤ vsize header var
unfolding vsize
element-within header var index is =
    let below = rank_in-lt (fixed_shape header var) index is in
    let most = mul-le (size_of var.kind) (rank_in (fixed_shape header var) index + 1) (size_of var.kind)
    (product (fixed_shape header var)) (omega arith) (omega arith) in
    omega arith

pub ruleset ends = (end_if_any-some, end_if_any-none, offset_of-le-end_of)
