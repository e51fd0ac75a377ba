-- The index lists of an array, in row-major order, have the numbers 0, 1, 2 and so on.
use Rattle.std.proofs.Common.{◌≡◌, ℕ, zero, suc, ◌+◌, ◌*◌, ◌<◌, List, [], ◌∷◌, ◌++◌, map, length, get_or, All, Some, inl, inr, refl, sym, ap, ap₂, ◌∙◌, arith}
use Rattle.std.specs.List.{flat_map, range_with_len, slice_get}
use Rattle.std.proofs.lemmas.List.{length-map, map-append, get_or-map}
use Rattle.std.proofs.lemmas.List.Elements.{All-nil, All-cons, All-append, All-head, All-tail, All-map, All-weaker, All-get_or}
use Rattle.std.proofs.lemmas.List.FromFn.{length-range_with_len, get_or-range_with_len}
use Rattle.std.proofs.lemmas.Option.{slice_get-get_or}
use Rattle.std.proofs.lemmas.Bool.{cases_order}
use Rattle.std.proofs.lemmas.Nat.{mul-le}
use Rattle.nc_model.specs.Layout.{product, rank_in, indices_of, IsIndex}
use Rattle.nc_model.proofs.EndLaws.{rank_in-lt}

-- a range is cut in two
pub range-append : (a n m : ℕ) → range_with_len a n ++ range_with_len (a + n) m ≡ range_with_len a (n + m)
range-append a zero m =
    let from : a + 0 ≡ a = omega arith in
    let len : m ≡ 0 + m = omega arith in
    ap₂ (λ b k. range_with_len b k) from len
range-append a (suc n) m =
    let from : a + suc n ≡ a + 1 + n = omega arith in
    let len : suc (n + m) ≡ suc n + m = omega arith in
    ap (λ b. a ∷ (range_with_len (a + 1) n ++ range_with_len b m)) from ∙ ap (λ ys. a ∷ ys) (range-append (a + 1) n m)
    ∙ ap (range_with_len a) len

map-map : {A B C : Type 0} (f : B → C) (g : A → B) (xs : List A) → map f (map g xs) ≡ map (λ x. f (g x)) xs
map-map f g [] = refl
map-map f g (x ∷ xs) = ap (λ ys. f (g x) ∷ ys) (map-map f g xs)

map-flat_map : {A B C : Type 0} (f : B → C) (g : A → List B) (xs : List A)
    → map f (flat_map g xs) ≡ flat_map (λ x. map f (g x)) xs
map-flat_map f g [] = refl
map-flat_map f g (x ∷ xs) = map-append f (g x) (flat_map g xs) ∙ ap (λ ys. map f (g x) ++ ys) (map-flat_map f g xs)

-- two functions with the same lists have the same lists in a row
pub flat_map_all : {A B : Type 0} (f g : A → List B) → ((x : A) → f x ≡ g x) → (xs : List A)
    → flat_map f xs ≡ flat_map g xs
flat_map_all f g same [] = refl
flat_map_all f g same (x ∷ xs) = ap₂ (λ ys zs. ys ++ zs) (same x) (flat_map_all f g same xs)

-- a range, moved on
map-range : (a b n : ℕ) → map (λ r. a + r) (range_with_len b n) ≡ range_with_len (a + b) n
map-range a b zero = refl
map-range a b (suc n) =
    let from : a + (b + 1) ≡ a + b + 1 = omega arith in
    ap (λ ys. (a + b) ∷ ys) (map-range a (b + 1) n ∙ ap (λ c. range_with_len c n) from)

-- ranges of one length, one after another
rows : (whole a n : ℕ)
    → flat_map (λ i. range_with_len (i * whole) whole) (range_with_len a n) ≡ range_with_len (a * whole) (n * whole)
rows whole a zero =
    let none : 0 ≡ 0 * whole = omega arith in
    ap (range_with_len (a * whole)) none
rows whole a (suc n) =
    let from : (a + 1) * whole ≡ a * whole + whole = omega arith in
    let len : whole + n * whole ≡ suc n * whole = omega arith in
    ap (λ ys. range_with_len (a * whole) whole ++ ys)
    (rows whole (a + 1) n ∙ ap (λ b. range_with_len b (n * whole)) from)
    ∙ range-append (a * whole) whole (n * whole)
    ∙ ap (range_with_len (a * whole)) len

-- the numbers of the index lists with this first index
row : (shape : List ℕ) (i n : ℕ) → map (rank_in shape) (indices_of shape) ≡ range_with_len 0 (product shape)
    → map (rank_in (n ∷ shape)) (map (λ index. i ∷ index) (indices_of shape))
    ≡ range_with_len (i * product shape) (product shape)
unfolding rank_in
row shape i n is =
    let from : i * product shape + 0 ≡ i * product shape = omega arith in
    map-map (rank_in (n ∷ shape)) (λ index. i ∷ index) (indices_of shape)
    ∙ sym (map-map (λ r. i * product shape + r) (rank_in shape) (indices_of shape))
    ∙ ap (map (λ r. i * product shape + r)) is
    ∙ map-range (i * product shape) 0 (product shape)
    ∙ ap (λ a. range_with_len a (product shape)) from

-- the numbers in row-major order are 0, 1, 2 and so on
pub map-rank_in : (shape : List ℕ) → map (rank_in shape) (indices_of shape) ≡ range_with_len 0 (product shape)
unfolding rank_in indices_of product
map-rank_in [] = refl
map-rank_in (n ∷ shape) =
    let is = map-rank_in shape in
    let from : 0 * product shape ≡ 0 = omega arith in
    map-flat_map (rank_in (n ∷ shape)) (λ i. map (λ index. i ∷ index) (indices_of shape)) (range_with_len 0 n)
    ∙ flat_map_all _ _ (λ i. row shape i n is) (range_with_len 0 n)
    ∙ rows (product shape) 0 n
    ∙ ap (λ a. range_with_len a (n * product shape)) from

-- there are as many as the array has elements
pub length-indices_of : (shape : List ℕ) → length (indices_of shape) ≡ product shape
length-indices_of shape =
    sym (length-map (indices_of shape) (rank_in shape)) ∙ ap length (map-rank_in shape)
    ∙ length-range_with_len 0 (product shape)

All-flat_map : {A B : Type 0} (P : B → Type 0) (f : A → List B) (Q : A → Type 0) → ((x : A) → Q x → All P (f x))
    → (xs : List A) → All Q xs → All P (flat_map f xs)
All-flat_map P f Q each [] all = All-nil P
All-flat_map P f Q each (x ∷ xs) all =
    All-append P (f x) (flat_map f xs) (each x (All-head Q x xs all)) (All-flat_map P f Q each xs (All-tail Q x xs all))

All-range : (a n : ℕ) → All (λ i. i < a + n) (range_with_len a n)
All-range a n =
    λ k d below.
    let at = get_or-range_with_len a n k d (omega (arith, length-range_with_len a n)) in omega
    (arith, length-range_with_len a n)

-- each of them is an index list of the array
pub All-indices_of : (shape : List ℕ) → All (IsIndex shape) (indices_of shape)
unfolding indices_of
All-indices_of [] = All-cons (IsIndex []) [] [] tt (All-nil (IsIndex []))
All-indices_of (n ∷ shape) =
    All-flat_map (IsIndex (n ∷ shape)) (λ i. map (λ (rest : List ℕ). i ∷ rest) (indices_of shape)) (λ i. i < 0 + n)
    (λ i below. All-map (IsIndex (n ∷ shape)) (λ (rest : List ℕ). i ∷ rest) (indices_of shape)
    (All-weaker (IsIndex shape) (λ rest. IsIndex (n ∷ shape) (i ∷ rest)) (λ rest is. (omega arith, is))
    (indices_of shape) (All-indices_of shape)))
    (range_with_len 0 n) (All-range 0 n)

-- no two index lists have one number
pub same_rank : (shape index other : List ℕ) → IsIndex shape index → IsIndex shape other
    → rank_in shape index ≡ rank_in shape other → index ≡ other
unfolding rank_in
same_rank [] [] [] is also same = refl
same_rank [] [] (j ∷ other) is also same = absurd also
same_rank [] (i ∷ index) other is also same = absurd is
same_rank (n ∷ shape) [] other is also same = absurd is
same_rank (n ∷ shape) (i ∷ index) [] is also same = absurd also
same_rank (n ∷ shape) (i ∷ index) (j ∷ other) is also same =
    let below = rank_in-lt shape index is.1 in
    let under = rank_in-lt shape other also.1 in
    elim (cases_order i j) [
      | inl e ↦ ap₂ (λ k ks. k ∷ ks) e (same_rank shape index other is.1 also.1
          (let rows = ap (λ k. k * product shape) e in omega arith))
      | inr (inl before) ↦
          absurd (let rows = mul-le (i + 1) (product shape) j (product shape) (omega arith)
          (omega arith) in omega arith)
      | inr (inr after) ↦
          absurd (let rows = mul-le (j + 1) (product shape) i (product shape) (omega arith)
          (omega arith) in omega arith)
    ]

-- each index list stands at its number
pub slice_get-indices_of : (shape index : List ℕ) → IsIndex shape index
    → slice_get (indices_of shape) (rank_in shape index) ≡ Some index
slice_get-indices_of shape index is =
    let at = rank_in shape index in
    let below = rank_in-lt shape index is in
    let there : at < length (indices_of shape) = rw (length-indices_of shape) below in
    let other = get_or (indices_of shape) at index in
    let rank = sym (get_or-map (rank_in shape) (indices_of shape) at index 0 there)
    ∙ ap (λ ranks. get_or ranks at 0) (map-rank_in shape) ∙ get_or-range_with_len 0 (product shape) at 0 below in
    let same : 0 + at ≡ at = omega arith in
    slice_get-get_or (indices_of shape) at index there
    ∙ ap Some
    (same_rank shape other index
    (All-get_or (IsIndex shape) (indices_of shape) at index there (All-indices_of shape)) is (rank ∙ same))

pub ruleset orders = (map-rank_in, length-indices_of, slice_get-indices_of, All-indices_of)
