-- Products of lengths of which none is 0: what a loop over dimensions keeps of them.
use Rattle.std.proofs.Common.{◌≡◌, ℕ, ◌+◌, ◌*◌, ◌<◌, ◌≤◌, List, [], ◌∷◌, length, get_or, map, drop, All, ◌∙◌, arith}
use Rattle.std.proofs.Math.Nat.{mul_assoc, le-mul_of_pos_right}
use Rattle.std.proofs.lemmas.List.{drop_more, drop_all, drop-map}
use Rattle.std.proofs.lemmas.List.Elements.{All-head, All-tail, All-drop}
use Rattle.std.proofs.lemmas.Nat.{mul-le}
use Rattle.nc_model.specs.Layout.{product}

-- numbers that are not 0 have a product that is not 0
pub product-pos : (ns : List ℕ) → All (λ n. 1 ≤ n) ns → 1 ≤ product ns
unfolding product
product-pos [] all = omega arith
product-pos (n ∷ ns) all =
    mul-le 1 1 n (product ns) (All-head (λ m. 1 ≤ m) n ns all) (product-pos ns (All-tail (λ m. 1 ≤ m) n ns all))

-- a length that goes into the product so far
pub product_more : (f : ℕ → ℕ) (so_far n total : ℕ) (ids : List ℕ) (i : ℕ) → i < length ids → n ≡ f (get_or ids i 0)
    → so_far * product (map f (drop i ids)) ≡ total → so_far * n * product (map f (drop (i + 1) ids)) ≡ total
unfolding product
product_more f so_far n total ids i below read is =
    rw read (mul_assoc so_far (f (get_or ids i 0)) (product (map f (drop (i + 1) ids))) ∙
    (rw (drop_more ids i 0 below) at is))

-- no length is left
pub product_all : (f : ℕ → ℕ) (so_far total : ℕ) (ids : List ℕ) (i : ℕ) → length ids ≤ i
    → so_far * product (map f (drop i ids)) ≡ total → so_far ≡ total
unfolding product
product_all f so_far total ids i past is =
    let none : drop i ids ≡ [] = drop_all i ids past in
    let one : so_far * 1 ≡ total = rw none at is in
    omega arith

-- where the product so far is above a limit, so is the whole product
pub product_over : (f : ℕ → ℕ) (limit so_far total : ℕ) (ids : List ℕ) (i : ℕ) → All (λ n. 1 ≤ n) (map f ids)
    → limit < so_far → so_far * product (map f (drop i ids)) ≡ total → limit < total
product_over f limit so_far total ids i all over is =
    let rest : All (λ n. 1 ≤ n) (map f (drop i ids)) =
    rw (← drop-map f i ids) (All-drop (λ n. 1 ≤ n) i (map f ids) all) in
    let most : so_far ≤ so_far * product (map f (drop i ids)) =
    le-mul_of_pos_right so_far (product-pos (map f (drop i ids)) rest) in
    omega arith

pub ruleset products = (product_more, product_all, product_over)
