-- The numbers of index lists in row-major order.
use Rattle.std.proofs.Common.{◌≡◌, ℕ, suc, ◌+◌, ◌*◌, ◌<◌, ◌≤◌, List, [], ◌∷◌, length, get_or, drop, map, All, refl, sym, ap, ◌∙◌, arith}
use Rattle.std.proofs.Math.Nat.{le-mul_of_pos_right}
use Rattle.std.proofs.lemmas.List.{drop_more, drop_all, drop-map, length-map}
use Rattle.std.proofs.lemmas.List.Elements.{All-nil, All-cons, All-drop}
use Rattle.nc_model.specs.Layout.{product, rank_in, IsIndex}
use Rattle.nc_model.proofs.EndLaws.{rank_in-lt}
use Rattle.nc_layout.proofs.ProductLemmas.{product-pos}

-- an index list has one index for each length
pub length-index : (shape index : List ℕ) → IsIndex shape index → length index ≡ length shape
length-index [] [] is = refl
length-index [] (i ∷ index) is = absurd is
length-index (n ∷ shape) [] is = absurd is
length-index (n ∷ shape) (i ∷ index) is = ap suc (length-index shape index is.1)

-- an array with an element has no length 0
pub lengths-index : (shape index : List ℕ) → IsIndex shape index → All (λ n. 1 ≤ n) shape
lengths-index [] index is = All-nil (λ n. 1 ≤ n)
lengths-index (n ∷ shape) [] is = absurd is
lengths-index (n ∷ shape) (i ∷ index) is =
    All-cons (λ n. 1 ≤ n) n shape (let below = is.0 in omega arith) (lengths-index shape index is.1)

rank_step : (so_far n i whole rest : ℕ) → so_far * (n * whole) + (i * whole + rest) ≡ (so_far * n + i) * whole + rest
rank_step so_far n i whole rest = omega arith

-- an index that goes into the number so far
pub rank_more : (f : ℕ → ℕ) (so_far : ℕ) {n i total : ℕ} (ids index : List ℕ) (at : ℕ) → at < length ids
    → at < length index
    → n ≡ f (get_or ids at 0) → i ≡ get_or index at 0
    → so_far * product (map f (drop at ids)) + rank_in (map f (drop at ids)) (drop at index) ≡ total
    → (so_far * n + i) * product (map f (drop (at + 1) ids)) + rank_in (map f (drop (at + 1) ids)) (drop (at + 1) index)
    ≡ total
unfolding rank_in product
rank_more f so_far {n} {i} {total} ids index at below there is here e =
    let index_more : drop at index ≡ i ∷ drop (at + 1) index = rw here (drop_more index at 0 there) in
    let e' = rw (drop_more ids at 0 below, index_more, ← is) at e in
    let shape = map f (drop (at + 1) ids) in
    sym (rank_step so_far n i (product shape) (rank_in shape (drop (at + 1) index))) ∙ e'

-- no index is left
pub rank_all : (f : ℕ → ℕ) {so_far total : ℕ} (ids index : List ℕ) (at : ℕ) → length ids ≤ at
    → so_far * product (map f (drop at ids)) + rank_in (map f (drop at ids)) (drop at index) ≡ total → so_far ≡ total
unfolding rank_in product
rank_all f {so_far} {total} ids index at past e =
    let none : drop at ids ≡ [] = drop_all at ids past in
    let e' = rw none at e in
    omega arith

-- there are as many indices as dimensions
pub length-index_of_ids : (f : ℕ → ℕ) (ids index : List ℕ) → IsIndex (map f ids) index → length index ≡ length ids
length-index_of_ids f ids index is = length-index (map f ids) index is ∙ length-map ids f

-- the number with the next index is below the number of elements
pub rank_fits : (f : ℕ → ℕ) (so_far : ℕ) {n i : ℕ} (ids index : List ℕ) (at : ℕ) → IsIndex (map f ids) index
    → at < length ids
    → n ≡ f (get_or ids at 0) → i ≡ get_or index at 0
    → so_far * product (map f (drop at ids)) + rank_in (map f (drop at ids)) (drop at index) ≡ rank_in (map f ids) index
    → so_far * n + i < product (map f ids)
rank_fits f so_far {n} {i} ids index at is below read here e =
    let same = length-index_of_ids f ids index is in
    let there : at < length index = omega arith in
    let more = rank_more f so_far ids index at below there read here e in
    let all : All (λ n. 1 ≤ n) (map f (drop (at + 1) ids)) =
    rw (← drop-map f (at + 1) ids)
    (All-drop (λ n. 1 ≤ n) (at + 1) (map f ids) (lengths-index (map f ids) index is)) in
    let most : so_far * n + i ≤ (so_far * n + i) * product (map f (drop (at + 1) ids)) =
    le-mul_of_pos_right (so_far * n + i) (product-pos (map f (drop (at + 1) ids)) all) in
    let least = rank_in-lt (map f ids) index is in
    omega arith

pub ruleset ranks = (rank_more, rank_all, rank_fits, length-index_of_ids)
