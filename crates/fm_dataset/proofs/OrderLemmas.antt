-- What follows an index list in its row follows it in the array.
use Rattle.std.proofs.Common.{◌≡◌, ℕ, zero, suc, ◌+◌, ◌-◌, ◌*◌, ◌<◌, ◌≤◌, min, Bool, true, false, List, [], ◌∷◌, ◌++◌, length, map, take, drop, refl, sym, ap, subst, ◌∙◌, arith}
use Rattle.std.specs.List.{flat_map, range_with_len}
use Rattle.std.proofs.Math.Seq.{drop-append-add}
use Rattle.std.proofs.lemmas.List.{drop-append-le, length-drop, length-map, take-append-le, take_min}
use Rattle.nc_model.specs.Layout.{product, rank_in, indices_of, IsIndex}
use Rattle.nc_model.proofs.EndLaws.{rank_in-lt}
use Rattle.nc_layout.proofs.OrderLemmas.{length-indices_of}
use Rattle.fm_model.specs.declared.proto.Proto.{Proto}
use Rattle.fm_model.specs.declared.proto.ProtoVar.{ProtoVar}
use Rattle.fm_model.specs.Attribute.{is_char}
use Rattle.fm_model.specs.Prototype.{lengths_of}
use Rattle.fm_dataset.specs.Declarations.{array_dims, array_of, dims_in}
use Rattle.fm_dataset.specs.Values.{indices_from, indices_in_row, left_in_row, shape_of_array}
use Rattle.fm_dataset.proofs.IndexLemmas.{lengths_are}

-- the items of lists of one length, from an index in one of them on
drop_blocks : {A : Type 0} (g : ℕ → List A) (whole : ℕ) → ((i : ℕ) → length (g i) ≡ whole) → (a n i r : ℕ) → i < n
    → r ≤ whole
    → drop (i * whole + r) (flat_map g (range_with_len a n))
    ≡ drop r (g (a + i)) ++ flat_map g (range_with_len (a + i + 1) (n - i - 1))
drop_blocks g whole long a zero i r below few = absurd (omega arith)
drop_blocks g whole long a (suc n) zero r below few =
    let at : 0 * whole + r ≡ r = omega arith in
    let here : a + 0 ≡ a = omega arith in
    let left : suc n - 0 - 1 ≡ n = omega arith in
    let fits : r ≤ length (g a) = omega (arith, long a, few) in
    rw (at, here, left) (drop-append-le r (g a) (flat_map g (range_with_len (a + 1) n)) fits)
drop_blocks g whole long a (suc n) (suc i) r below few =
    let at : suc i * whole + r ≡ length (g a) + (i * whole + r) = omega (arith, long a) in
    let here : a + suc i ≡ a + 1 + i = omega arith in
    let left : suc n - suc i - 1 ≡ n - i - 1 = omega arith in
    rw (at, here, left) (drop-append-add (g a) (flat_map g (range_with_len (a + 1) n)) (i * whole + r)
    ∙ drop_blocks g whole long (a + 1) n i r (omega arith) few)

-- at most `most` of the index lists that begin with one, from one of them on, are as many of those of all rows
row_of_all : (shape : List ℕ) (count i rank most : ℕ) → i < count → rank ≤ product shape
    → take most (drop rank (map (λ (rest : List ℕ). i ∷ rest) (indices_of shape)))
    ≡ take (min most (product shape - rank)) (drop (i * product shape + rank) (indices_of (count ∷ shape)))
unfolding indices_of
row_of_all shape count i rank most below few =
    let g : ℕ → List (List ℕ) = λ j. map (λ (rest : List ℕ). j ∷ rest) (indices_of shape) in
    let long : (j : ℕ) → length (g j) ≡ product shape =
    λ j. length-map (indices_of shape) (λ (rest : List ℕ). j ∷ rest) ∙ length-indices_of shape in
    let left : length (drop rank (g i)) ≡ product shape - rank =
    length-drop rank (g i) ∙ ap (λ (n : ℕ). n - rank) (long i) in
    let all = drop_blocks g (product shape) long 0 count i rank below few in
    let here : 0 + i ≡ i = omega arith in
    let fits : min most (product shape - rank) ≤ length (drop rank (g i)) = omega (arith, left) in
    sym (take_min most (drop rank (g i))) ∙ ap (λ (n : ℕ). take (min most n) (drop rank (g i))) left
    ∙ sym (take-append-le (min most (product shape - rank)) (drop rank (g i)) _ fits)
    ∙ ap (take (min most (product shape - rank)))
    (ap (λ (k : ℕ). drop rank (g k) ++ flat_map g (range_with_len (0 + i + 1) (count - i - 1))) (sym here) ∙ sym all)

-- and so they are of an array without rows
whole_of_all : (shape : List ℕ) (rank most : ℕ)
    → take most (drop rank (indices_of shape)) ≡ take (min most (product shape - rank)) (drop rank (indices_of shape))
whole_of_all shape rank most =
    let left : length (drop rank (indices_of shape)) ≡ product shape - rank =
    length-drop rank (indices_of shape) ∙ ap (λ (n : ℕ). n - rank) (length-indices_of shape) in
    sym (take_min most (drop rank (indices_of shape)))
    ∙ ap (λ (n : ℕ). take (min most n) (drop rank (indices_of shape))) left

-- the lengths of an array that isn't of characters
shape_with_time : (proto : Proto) (count : ℕ) (var : ProtoVar) → is_char var.kind ≡ false → var.timed ≡ true
    → shape_of_array (array_of proto count var) ≡ count ∷ lengths_of proto (drop 1 var.dims)
unfolding array_of dims_in array_dims
shape_with_time proto count var number timed =
    rw (number, timed) (ap (λ ns. count ∷ ns) (lengths_are proto (drop 1 var.dims)))

shape_without : (proto : Proto) (count : ℕ) (var : ProtoVar) → is_char var.kind ≡ false → var.timed ≡ false
    → shape_of_array (array_of proto count var) ≡ lengths_of proto var.dims
unfolding array_of dims_in array_dims
shape_without proto count var number untimed = rw (number, untimed) (lengths_are proto var.dims)

-- the index lists that follow one in its row follow it in the array, in row-major order
pub follow_in_array : (proto : Proto) (count : ℕ) (var : ProtoVar) (index : List ℕ) (most : ℕ)
    → is_char var.kind ≡ false → IsIndex (shape_of_array (array_of proto count var)) index
    → take most (indices_from proto var index)
    ≡ take (min most (left_in_row proto var index))
    (drop (rank_in (shape_of_array (array_of proto count var)) index)
    (indices_of (shape_of_array (array_of proto count var))))
unfolding indices_from indices_in_row rank_in
follow_in_array proto count var index most number is = by_time var.timed refl
  where
    all : List ℕ
    all = shape_of_array (array_of proto count var)

    Follows : List ℕ → List ℕ → Type 0
    Follows index shape = take most (indices_from proto var index)
        ≡ take (min most (left_in_row proto var index)) (drop (rank_in shape index) (indices_of shape))

    with_time : (index : List ℕ) → var.timed ≡ true
        → IsIndex (count ∷ lengths_of proto (drop 1 var.dims)) index
        → Follows index (count ∷ lengths_of proto (drop 1 var.dims))
    with_time [] timed is = absurd is
    with_time (i ∷ rest) timed is =
        let below = rank_in-lt (lengths_of proto (drop 1 var.dims)) rest is.1 in
        rw timed (row_of_all (lengths_of proto (drop 1 var.dims)) count i
        (rank_in (lengths_of proto (drop 1 var.dims)) rest) most is.0 (omega (arith, below)))

    without : var.timed ≡ false → Follows index (lengths_of proto var.dims)
    without untimed =
        rw untimed (whole_of_all (lengths_of proto var.dims) (rank_in (lengths_of proto var.dims) index) most)

    by_time : (b : Bool) → var.timed ≡ b → Follows index all
    by_time true timed =
        let same = shape_with_time proto count var number timed in
        let within = subst (λ (shape : List ℕ). IsIndex shape index) same is in
        subst (Follows index) (sym same) (with_time index timed within)
    by_time false untimed =
        let same = shape_without proto count var number untimed in
        subst (Follows index) (sym same) (without untimed)
