-- How many elements some dimensions have.
use Rattle.std.proofs.Common.{◌≡◌, ℕ, ◌+◌, ◌*◌, ◌<◌, ◌≤◌, List, [], ◌∷◌, length, get_or, map, take, drop, All, ◌++◌, refl, sym, ap, ◌∙◌, arith}
use Rattle.std.proofs.Math.Nat.{le-mul_of_pos_right, mul-le-mul_left, mul_assoc, mul_comm}
use Rattle.std.proofs.lemmas.List.{drop-map, take-append-drop}
use Rattle.std.proofs.lemmas.List.Elements.{All-drop}
use Rattle.nc_model.specs.declared.kind.Kind.{Kind}
use Rattle.nc_model.specs.declared.kind.Kind.TheVariants as kinds
use Rattle.nc_model.specs.Kind.{size_of}
use Rattle.nc_model.specs.Layout.{product, rank_in}
use Rattle.nc_layout.proofs.ProductLemmas.{product-pos, product_more}

-- the product so far with one length more is at most the whole product
pub product_so_far : (f : ℕ → ℕ) (so_far n total i : ℕ) (ids : List ℕ) → All (λ n. 1 ≤ n) (map f ids)
    → i < length ids → n ≡ f (get_or ids i 0) → so_far * product (map f (drop i ids)) ≡ total → so_far * n ≤ total
product_so_far f so_far n total i ids all below read is =
    let more = product_more f so_far n total ids i below read is in
    let rest : All (λ n. 1 ≤ n) (map f (drop (i + 1) ids)) =
    rw (← drop-map f (i + 1) ids) (All-drop (λ n. 1 ≤ n) (i + 1) (map f ids) all) in
    let most : so_far * n ≤ so_far * n * product (map f (drop (i + 1) ids)) =
    le-mul_of_pos_right (so_far * n) (product-pos (map f (drop (i + 1) ids)) rest) in
    omega arith

-- the length of the only dimension, where there is one
pub no_length : (f : ℕ → ℕ) (ids : List ℕ) → length ids < 1 → 1 ≡ product (map f ids)
unfolding product
no_length f [] none = refl
no_length f (id ∷ ids) none = absurd (omega arith)

pub one_length : (f : ℕ → ℕ) (ids : List ℕ) (n : ℕ) → length ids ≤ 1 → 1 ≤ length ids → n ≡ f (get_or ids 0 0)
    → n ≡ product (map f ids)
unfolding product
one_length f [] n few some is = absurd (omega arith)
one_length f (id ∷ []) n few some is = omega arith
one_length f (id ∷ other ∷ ids) n few some is = absurd (omega arith)

pub ruleset text_lengths = (no_length, one_length)

pub size-pos : (kind : Kind) → 1 ≤ size_of kind
size-pos kinds.Byte = omega arith
size-pos kinds.Char = omega arith
size-pos kinds.Short = omega arith
size-pos kinds.Int = omega arith
size-pos kinds.Float = omega arith
size-pos kinds.Double = omega arith

-- there are no more elements than bytes
pub count_fits : (kind : Kind) (begin n len : ℕ) → begin + size_of kind * n ≤ len → n ≤ len
count_fits kind begin n len fits =
    let least : n ≤ n * size_of kind = le-mul_of_pos_right n (size-pos kind) in
    omega arith

-- some pieces of a size lie within a length where all do
pub pieces_within : (begin size first count n len : ℕ) → begin + size * n ≤ len → first + count ≤ n
    → begin + size * first + size * count ≤ len
pieces_within begin size first count n len all few =
    let most : size * (first + count) ≤ size * n = mul-le-mul_left size few in
    omega arith

-- the product of two lists of lengths
pub product-append : (front back : List ℕ) → product (front ++ back) ≡ product front * product back
unfolding product
product-append [] back = omega arith
product-append (n ∷ front) back =
    ap (λ (k : ℕ). n * k) (product-append front back) ∙ sym (mul_assoc n (product front) (product back))

-- the number of an index list that is made of two
pub rank-append : (front back index more : List ℕ) → length index ≡ length front
    → rank_in (front ++ back) (index ++ more) ≡ rank_in front index * product back + rank_in back more
unfolding rank_in
rank-append [] back [] more same = omega arith
rank-append [] back (i ∷ index) more same = absurd (omega arith)
rank-append (n ∷ front) back [] more same = absurd (omega arith)
rank-append (n ∷ front) back (i ∷ index) more same =
    let rest = rank-append front back index more (omega arith) in
    let whole = product-append front back in
    rw (whole, rest) (sum_of i (product front) (product back) (rank_in front index) (rank_in back more))
  where
    sum_of : (a b d x y : ℕ) → a * (b * d) + (x * d + y) ≡ (a * b + x) * d + y
    sum_of a b d x y = omega arith

-- a text of the characters along the last dimension lies within the bytes
pub text_within : (shape : List ℕ) (k begin first len total : ℕ) → begin + 1 * product shape ≤ total
    → first + 1 ≤ product (take k shape) → len ≡ product (drop k shape) → begin + len * first + len * 1 ≤ total
text_within shape k begin first len total all few len_is =
    let whole : product shape ≡ product (take k shape) * product (drop k shape) =
    ap product (sym (take-append-drop k shape)) ∙ product-append (take k shape) (drop k shape) in
    let fits : begin + len * product (take k shape) ≤ total =
    rw len_is (omega (arith, whole, all, mul_comm (product (drop k shape)) (product (take k shape)))) in
    pieces_within begin len first 1 (product (take k shape)) total fits few

-- there are no more texts than bytes, where one has a character
pub texts_few : (shape : List ℕ) (k begin len total : ℕ) → begin + 1 * product shape ≤ total
    → len ≡ product (drop k shape) → (len ≡ 0 → ⊥) → product (take k shape) ≤ total
texts_few shape k begin len total all len_is some =
    let whole : product shape ≡ product (take k shape) * product (drop k shape) =
    ap product (sym (take-append-drop k shape)) ∙ product-append (take k shape) (drop k shape) in
    let positive : 1 ≤ product (drop k shape) = omega (arith, len_is, some) in
    let least : product (take k shape) ≤ product (take k shape) * product (drop k shape) =
    le-mul_of_pos_right (product (take k shape)) positive in
    omega (arith, whole, all, least)
