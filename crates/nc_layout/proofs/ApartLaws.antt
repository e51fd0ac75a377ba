-- No two elements of a variable share a byte.
use Rattle.std.proofs.Common.{◌≡◌, ◌≢◌, ℕ, zero, suc, ◌+◌, ◌*◌, ◌/◌, ◌<◌, ◌≤◌, Bool, true, false, cond, ltb, List, [], ◌∷◌, length, sum_by, Some, inl, inr, refl, sym, ap, ◌∙◌, arith}
use Rattle.std.specs.List.{slice_get, filter}
use Rattle.std.proofs.lemmas.Bool.{cases_eq, cases_order, cond_both}
use Rattle.std.proofs.lemmas.List.Sums.{sum_by-cons}
use Rattle.std.proofs.lemmas.Nat.{mul-le}
use Rattle.nc_model.specs.declared.header.Header.{Header}
use Rattle.nc_model.specs.declared.header.NcVar.{NcVar}
use Rattle.nc_model.specs.Kind.{size_of}
use Rattle.nc_model.specs.Layout.{rank_in, is_record_var, shape_of, fixed_shape, vsize, record_vars, record_size, offset_of, IsIndex}
use Rattle.nc_layout.specs.Kept.{part_of, index_in_part}
use Rattle.nc_layout.specs.Meaning.{AreApart}
use Rattle.nc_layout.specs.LaidOut.{part_begin, part_count}
use Rattle.nc_layout.proofs.EndLemmas.{element-within}
use Rattle.nc_layout.proofs.HeaderLemmas.{offset_of-part, index-part, same_part}
use Rattle.nc_layout.proofs.OrderLemmas.{same_rank}
use Rattle.nc_layout.proofs.RecordLemmas.{padded_vsize, lone_vsize, of_one, of_others}

-- what a record variable adds to a sum over the record variables is at most the sum
term-le-sum : (p : NcVar → Bool) (f : NcVar → ℕ) (vars : List NcVar) (i : ℕ) (var : NcVar) → slice_get vars i ≡ Some var
    → p var ≡ true
    → f var ≤ sum_by f (filter p vars)
term-le-sum p f [] i var there is = absurd cc
term-le-sum p f (v ∷ vars) zero var there is =
    let same : v ≡ var = cc in rw (same, is) (rw (sum_by-cons f var (filter p vars)) (omega arith))
term-le-sum p f (v ∷ vars) (suc i) var there is = by_case (p v) (term-le-sum p f vars i var there is)
  where
    by_case : (b : Bool) → f var ≤ sum_by f (filter p vars)
        → f var ≤ sum_by f (cond b (v ∷ filter p vars) (filter p vars))
    by_case true less = rw (sum_by-cons f v (filter p vars)) (omega arith)
    by_case false less = less

vsize-le-padded : (n : ℕ) → n ≤ (n + 3) / 4 * 4
vsize-le-padded n = omega arith

vsize-le-lone : (header : Header) (var : NcVar) → vsize header var ≤ lone_vsize header var
vsize-le-lone header var =
    cond_both (ltb (size_of var.kind) 4) (vsize header var) (padded_vsize header var) (λ n. vsize header var ≤ n)
    (λ _. omega arith) (λ _. vsize-le-padded (vsize header var))

-- one record of a variable is at most one of all
vsize-le-record_size : (header : Header) (i : ℕ) (var : NcVar) → slice_get header.vars i ≡ Some var
    → is_record_var header var ≡ true
    → vsize header var ≤ record_size header
unfolding record_size
vsize-le-record_size header i var there is = elim (cases_eq (length (record_vars header)) 1) [
  | inl one ↦
      let some = term-le-sum (is_record_var header) (lone_vsize header) header.vars i var there is in
      let least = vsize-le-lone header var in
      let whole = of_one header (record_vars header) one in
      omega arith
  | inr others ↦
      let some = term-le-sum (is_record_var header) (padded_vsize header) header.vars i var there is in
      let least = vsize-le-padded (vsize header var) in
      let whole = of_others header (record_vars header) others in
      omega arith
]

-- two elements of one part
offsets_apart : (size : ℕ) (shape index other : List ℕ) → IsIndex shape index → IsIndex shape other → index ≢ other
    → AreApart size (size * rank_in shape index) (size * rank_in shape other)
offsets_apart size shape index other is also ne = elim (cases_order (rank_in shape index) (rank_in shape other)) [
  | inl same ↦ absurd (ne (same_rank shape index other is also same))
  | inr (inl before) ↦
      inl (let most = mul-le size (rank_in shape index + 1) size (rank_in shape other) (omega arith)
      (omega arith) in omega arith)
  | inr (inr after) ↦
      inr (let most = mul-le size (rank_in shape other + 1) size (rank_in shape index) (omega arith)
      (omega arith) in omega arith)
]

-- a record variable has no more than one record's bytes in its part, and another variable has one part
next-part : (header : Header) (number : ℕ) (var : NcVar) (i j : ℕ) → slice_get header.vars number ≡ Some var → i < j
    → j < part_count header var
    → part_begin header var i + vsize header var ≤ part_begin header var j
next-part header number var i j there before below = by_case (is_record_var header var) refl below
  where
    by_case : (b : Bool) → is_record_var header var ≡ b → j < cond b header.numrecs 1
        → part_begin header var i + vsize header var ≤ part_begin header var j
    by_case true some below =
        let least = vsize-le-record_size header number var there some in
        let records = mul-le (i + 1) (record_size header) j (record_size header) (omega arith) (omega arith) in
        omega arith
    by_case false none below = absurd (omega arith)

-- no two elements of a variable of a header share a byte
pub offset_of-apart : (header : Header) (number : ℕ) (var : NcVar) (index other : List ℕ)
    → slice_get header.vars number ≡ Some var
    → IsIndex (shape_of header var) index → IsIndex (shape_of header var) other → index ≢ other
    → AreApart (size_of var.kind) (offset_of header var index) (offset_of header var other)
offset_of-apart header number var index other there is also ne =
    rw (offset_of-part header var index, offset_of-part header var other)
    (elim (cases_order (part_of header var index) (part_of header var other)) [
      | inl same ↦
          rw same (moved _ _ _ _
          (offsets_apart (size_of var.kind) (fixed_shape header var) (index_in_part header var index)
          (index_in_part header var other) parts.1 others.1
          (λ rest. ne (same_part header var index other is also same rest))))
      | inr (inl before) ↦
          inl (let next = next-part header number var _ _ there before others.0 in
          let last = element-within header var _ parts.1 in omega arith)
      | inr (inr after) ↦
          inr (let next = next-part header number var _ _ there after parts.0 in
          let last = element-within header var _ others.1 in omega arith)
    ])
  where
    parts : (part_of header var index < part_count header var)
        × IsIndex (fixed_shape header var) (index_in_part header var index)
    parts = index-part header var index is

    others : (part_of header var other < part_count header var)
        × IsIndex (fixed_shape header var) (index_in_part header var other)
    others = index-part header var other also

    moved : (size by offset last : ℕ) → AreApart size offset last → AreApart size (by + offset) (by + last)
    moved size by offset last (inl before) = inl (omega arith)
    moved size by offset last (inr after) = inr (omega arith)

pub ruleset aparts = (offset_of-apart)
