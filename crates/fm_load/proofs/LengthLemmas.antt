-- A variable has one element exactly where each of its lengths is 1; and the lengths of one that lies along one
-- dimension.
use Rattle.std.proofs.Common.{◌≡◌, ℕ, zero, suc, ◌+◌, ◌*◌, ◌<◌, ◌≤◌, true, false, not, List, [], ◌∷◌, length, drop, map, get_or, refl, sym, ap, ◌∙◌, arith}
use Rattle.std.specs.Prelude.{◌==◌, slice_index}
use Rattle.std.proofs.lemmas.Bool.{and_parts, eqb-true, ne_eqb}
use Rattle.std.proofs.lemmas.List.{drop_all, drop_more}
use Rattle.nc_model.specs.declared.header.Dim.{Dim}
use Rattle.nc_model.specs.declared.header.Header.{Header}
use Rattle.nc_model.specs.declared.header.NcVar.{NcVar}
use Rattle.nc_model.specs.declared.kind.Kind.{Kind}
use Rattle.nc_model.specs.Layout.{IsIndex, product, shape_of, size_at}
use Rattle.fm_base.proofs.NumberLemmas.{factors}
use Rattle.fm_model.specs.Attribute.{is_char}
use Rattle.fm_model.specs.LoadTimes.{is_one_number}
use Rattle.fm_model.specs.Variable.{dim_of_axis, is_coordinate}

-- a product is 1 only where each factor is
one_factor : (n m : ℕ) → n * m ≡ 1 → n ≡ 1
one_factor zero m is = absurd (omega arith)
one_factor (suc zero) m is = refl
one_factor (suc (suc n)) zero is = absurd (omega arith)
one_factor (suc (suc n)) (suc m) is = absurd (omega arith)

not_one : (n m : ℕ) → (n ≡ 1 → ⊥) → false ≡ (n * m == 1)
not_one n m other = sym (ne_eqb (n * m) 1 (λ is. other (one_factor n m is)))

step : (f : ℕ → ℕ) (ids : List ℕ) (i : ℕ) → i < length ids
    → product (map f (drop i ids)) ≡ f (get_or ids i 0) * product (map f (drop (i + 1) ids))
unfolding product
step f ids i within = ap (λ l. product (map f l)) (drop_more ids i 0 within)

pub one-less : (f : ℕ → ℕ) (ids : List ℕ) (i n : ℕ) → i < length ids → n ≡ f (get_or ids i 0)
    → product (map f (drop i ids)) ≡ product (map f ids) → (n ≡ 1 → ⊥) → false ≡ (product (map f ids) == 1)
one-less f ids i n within is left other =
    not_one n (product (map f (drop (i + 1) ids))) other
    ∙ ap (λ z. z == 1) (ap (λ z. z * product (map f (drop (i + 1) ids))) is ∙ sym (step f ids i within) ∙ left)

pub one-more : (f : ℕ → ℕ) (ids : List ℕ) (i n : ℕ) → i < length ids → n ≡ f (get_or ids i 0)
    → product (map f (drop i ids)) ≡ product (map f ids) → n ≡ 1
    → product (map f (drop (i + 1) ids)) ≡ product (map f ids)
one-more f ids i n within is left one =
    let rest : ℕ = product (map f (drop (i + 1) ids)) in
    let alone : rest ≡ 1 * rest = omega arith in
    alone ∙ ap (λ z. z * rest) (sym one ∙ is) ∙ sym (step f ids i within) ∙ left

pub one-all : (f : ℕ → ℕ) (ids : List ℕ) (i : ℕ) → length ids ≤ i
    → product (map f (drop i ids)) ≡ product (map f ids) → true ≡ (product (map f ids) == 1)
unfolding product
one-all f ids i all left = ap (λ z. z == 1) (sym (ap (λ l. product (map f l)) (drop_all i ids all)) ∙ left)

pub ruleset ones = (one-less, one-more, one-all)

first_of_some : (f : ℕ → ℕ) (ids : List ℕ) → 0 < product (map f ids) → IsIndex (map f ids) (map (λ id. 0) ids)
unfolding product
first_of_some f [] some = tt
first_of_some f (id ∷ ids) some =
    let parts = factors (f id) (product (map f ids)) some in (parts.0, first_of_some f ids parts.1)

-- the first index list of a variable that is one number
pub one_number-first : (header : Header) (var : NcVar) → is_one_number header var ≡ true
    → IsIndex (shape_of header var) (map (λ id. 0) var.dims)
unfolding is_one_number
one_number-first header var one =
    let is = eqb-true (product (shape_of header var)) 1
    (and_parts (not (is_char var.kind)) (product (shape_of header var) == 1) one).1 in
    first_of_some (size_at header) var.dims (omega (arith, is))

-- a coordinate variable has one dimension
pub coordinate-rank : (dims : List Dim) (name : List ℕ) (kind : Kind) (ids : List ℕ)
    → is_coordinate dims name kind ids ≡ true → length ids ≡ 1
unfolding is_coordinate
coordinate-rank dims name kind [] is = absurd cc
coordinate-rank dims name kind (id ∷ []) is = refl
coordinate-rank dims name kind (id ∷ other ∷ ids) is = absurd cc

only : (f : ℕ → ℕ) (ids : List ℕ) → length ids ≡ 1 → map f ids ≡ f (slice_index ids 0) ∷ []
only f [] one = absurd (omega arith)
only f (id ∷ []) one = refl
only f (id ∷ other ∷ ids) one = absurd (omega arith)

pub shape_of-axis : (header : Header) (axis : NcVar) → length axis.dims ≡ 1
    → shape_of header axis ≡ size_at header (dim_of_axis axis) ∷ []
shape_of-axis header axis one = only (size_at header) axis.dims one

pub ruleset axes = (coordinate-rank, shape_of-axis)
