-- How many index lists a box has, and that of each element.
use Rattle.std.proofs.Common.{◌≡◌, ℕ, zero, suc, ◌+◌, ◌*◌, ◌/◌, ◌%◌, ◌<◌, List, [], ◌∷◌, ◌++◌, length, get_or, map, refl, sym, ap, ap₂, subst, ◌∙◌, arith, ◌↔◌}
use Rattle.std.specs.List.{All, Contains, flat_map}
use Rattle.std.proofs.lemmas.List.{get_or_append_left, get_or-append-add, get_or-map, length-map, length-append}
use Rattle.std.proofs.Math.Nat.{mul_comm}
use Rattle.std.proofs.lemmas.List.Elements.{All-tail}
use Rattle.std.proofs.lemmas.Nat.{div-add-mod', div-mul-add, mod-mul-add, div_below, mod_below, mul-add-lt}
use Rattle.nc_model.specs.Layout.{product, indices_of}
use Rattle.dap_model.specs.declared.projection.Slab.{Slab}
use Rattle.dap_model.specs.Box.{HasStride, slab_count, slab_index, slab_indices, box_of, box_len, index_at, whole_slab, EachPicks}
use Rattle.dap_model.proofs.SlabLemmas.{length-slab_indices, get_or-slab_indices, same_strides, Picks-slab_index, strides_within, slab_count-whole, slab_indices-whole}

-- the index lists that begin with one of these numbers, in rows
abbrev rows : List ℕ → List (List ℕ) → List (List ℕ)
rows firsts box = flat_map (λ (i : ℕ). map (λ (index : List ℕ). i ∷ index) box) firsts

length-rows : (firsts : List ℕ) (box : List (List ℕ)) → length (rows firsts box) ≡ length firsts * length box
length-rows [] box = omega arith
length-rows (i ∷ firsts) box =
    length-append (map (λ (index : List ℕ). i ∷ index) box) (rows firsts box)
    ∙ ap₂ (λ (m n : ℕ). m + n) (length-map box (λ (index : List ℕ). i ∷ index)) (length-rows firsts box)
    ∙ grind arith

get_or-rows : (firsts : List ℕ) (box : List (List ℕ)) (q r : ℕ) (d : List ℕ) → q < length firsts → r < length box
    → get_or (rows firsts box) (q * length box + r) d ≡ get_or firsts q 0 ∷ get_or box r []
get_or-rows [] box q r d within below = absurd (omega arith)
get_or-rows (i ∷ firsts) box zero r d within below =
    let row = map (λ (index : List ℕ). i ∷ index) box in
    let short : r < length row =
    subst (λ (n : ℕ). r < n) (sym (length-map box (λ (index : List ℕ). i ∷ index))) below in
    ap (λ (n : ℕ). get_or (row ++ rows firsts box) n d) (omega arith)
    ∙ get_or_append_left row (rows firsts box) d r short
    ∙ get_or-map (λ (index : List ℕ). i ∷ index) box r [] d below
get_or-rows (i ∷ firsts) box (suc q) r d within below =
    let row = map (λ (index : List ℕ). i ∷ index) box in
    let count = length-map box (λ (index : List ℕ). i ∷ index) in
    let far : suc q * length box + r ≡ length row + (q * length box + r) = grind arith in
    ap (λ (n : ℕ). get_or (row ++ rows firsts box) n d) far
    ∙ get_or-append-add row (rows firsts box) (q * length box + r) d
    ∙ get_or-rows firsts box q r d (omega arith) below

-- a box has as many index lists as its slabs say
pub length-box_of : (slabs : List Slab) → length (box_of slabs) ≡ box_len slabs
unfolding box_of box_len product
length-box_of [] = refl
length-box_of (slab ∷ slabs) =
    length-rows (slab_indices slab) (box_of slabs)
    ∙ ap₂ (λ (m n : ℕ). m * n) (length-slab_indices slab) (length-box_of slabs)

-- the index list of an element, by the strides in the first slab and an element of the box of the others
pub index_at-cons : (slab : Slab) (slabs : List Slab) (q r : ℕ) → r < box_len slabs
    → index_at (slab ∷ slabs) (q * box_len slabs + r) ≡ slab_index slab q ∷ index_at slabs r
unfolding index_at
index_at-cons slab slabs q r below =
    ap₂ (λ (i : ℕ) (index : List ℕ). i ∷ index)
    (ap (slab_index slab) (div-mul-add q (box_len slabs) r below))
    (ap (index_at slabs) (mod-mul-add q (box_len slabs) r below))

-- an element of a box, by the strides in the first slab and an element of the box of the others
pub record Split (count width element : ℕ) : Type 0 where
  pub first : element / width < count
  pub second : element % width < width
  pub whole : element / width * width + element % width ≡ element

-- the quotient and the remainder of a number below a product
pub split_of : (count width element : ℕ) → element < count * width → Split count width element
split_of count zero element within = absurd (omega arith)
split_of count (suc width) element within = record {
  first = div_below element (suc width) count (omega arith) within;
  second = mod_below element (suc width) (omega arith);
  whole = div-add-mod' element (suc width);
}

-- the index list of an element of a box is found by division
pub get_or-box_of : (slabs : List Slab) (element : ℕ) (d : List ℕ) → element < box_len slabs
    → get_or (box_of slabs) element d ≡ index_at slabs element
unfolding box_of box_len index_at product
get_or-box_of [] zero d within = refl
get_or-box_of [] (suc element) d within = absurd (omega arith)
get_or-box_of (slab ∷ slabs) element d within =
    let width = box_len slabs in
    let split = split_of (slab_count slab) width element within in
    let count = length-box_of slabs in
    let many = length-slab_indices slab in
    let first : element / width < length (slab_indices slab) =
    subst (λ (n : ℕ). element / width < n) (sym many) split.first in
    let second : element % width < length (box_of slabs) =
    subst (λ (n : ℕ). element % width < n) (sym count) split.second in
    let at : element ≡ element / width * length (box_of slabs) + element % width = sym split.whole
    ∙ ap (λ (n : ℕ). element / width * n + element % width) (sym count) in
    ap (λ (n : ℕ). get_or (rows (slab_indices slab) (box_of slabs)) n d) at
    ∙ get_or-rows (slab_indices slab) (box_of slabs) (element / width) (element % width) d first second
    ∙ ap₂ (λ (i : ℕ) (index : List ℕ). i ∷ index) (get_or-slab_indices slab (element / width) 0 split.first)
    (get_or-box_of slabs (element % width) [] split.second)

-- two elements of a box have two index lists
pub index_at-injective : (slabs : List Slab) (m n : ℕ) → All HasStride slabs
    → m < box_len slabs → n < box_len slabs → index_at slabs m ≡ index_at slabs n → m ≡ n
unfolding box_len index_at product
index_at-injective [] m n some before within same = omega arith
index_at-injective (slab ∷ slabs) m n some before within same =
    let width = box_len slabs in
    let left = split_of (slab_count slab) width m before in
    let right = split_of (slab_count slab) width n within in
    let heads : slab_index slab (m / width) ≡ slab_index slab (n / width) = cc in
    let tails : index_at slabs (m % width) ≡ index_at slabs (n % width) = cc in
    let quotients : m / width ≡ n / width = same_strides slab _ _ (some 0 slab (omega arith)) heads in
    let rests : m % width ≡ n % width =
    index_at-injective slabs _ _ (All-tail HasStride slab slabs some) left.second right.second tails in
    sym left.whole ∙ ap₂ (λ (q r : ℕ). q * width + r) quotients rests ∙ right.whole

-- the index list of an element is picked
pub EachPicks-index_at : (slabs : List Slab) (element : ℕ) → All HasStride slabs → element < box_len slabs
    → EachPicks slabs (index_at slabs element)
unfolding box_len index_at product
EachPicks-index_at [] element some within = tt
EachPicks-index_at (slab ∷ slabs) element some within =
    let split = split_of (slab_count slab) (box_len slabs) element within in (
      Picks-slab_index slab _ (some 0 slab (omega arith)) split.first,
      EachPicks-index_at slabs _
          (All-tail HasStride slab slabs some) split.second,
    )

-- the element whose index list is picked
pub record Placed (slabs : List Slab) (index : List ℕ) : Type 0 where
  pub element : ℕ
  pub within : element < box_len slabs
  pub index_is : index_at slabs element ≡ index

pub placed_of : (slabs : List Slab) (index : List ℕ) → All HasStride slabs → EachPicks slabs index → Placed slabs index
unfolding box_len product index_at
placed_of [] [] some picks = record { element = 0; within = omega arith; index_is = refl }
placed_of [] (i ∷ index) some picks = absurd picks
placed_of (slab ∷ slabs) [] some picks = absurd picks
placed_of (slab ∷ slabs) (i ∷ index) some picks =
    let stride = some 0 slab (omega arith) in
    let first = strides_within slab i stride picks.0 in
    let others = placed_of slabs index (All-tail HasStride slab slabs some) picks.1 in
    record {
      element = picks.0.strides * box_len slabs + others.element;
      within =
          subst (λ (n : ℕ). picks.0.strides * box_len slabs + others.element < n)
          (mul_comm (box_len slabs) (slab_count slab))
          (mul-add-lt picks.0.strides (box_len slabs) others.element (slab_count slab) first others.within);
      index_is = index_at-cons slab slabs picks.0.strides others.element others.within
          ∙ ap₂ (λ (n : ℕ) (l : List ℕ). n ∷ l) (sym picks.0.whole) others.index_is;
    }

-- the index lists of a box are those that are picked
pub Contains-box_of : (slabs : List Slab) (index : List ℕ) → All HasStride slabs
    → Contains (box_of slabs) index ↔ EachPicks slabs index
Contains-box_of slabs index some = (
  λ found.
      let within : found.0 < box_len slabs = subst (λ (n : ℕ). found.0 < n) (length-box_of slabs) found.1 in
      subst (EachPicks slabs) (sym (get_or-box_of slabs found.0 index within) ∙ found.2)
      (EachPicks-index_at slabs found.0 some within),
  λ picks.
      let placed = placed_of slabs index some picks in (
        placed.element,
        subst (λ (n : ℕ). placed.element < n)
            (sym (length-box_of slabs)) placed.within,
        get_or-box_of slabs placed.element index placed.within
            ∙ placed.index_is,
      ),
)

-- the box of whole slabs is all index lists of the shape
pub box_of-whole : (shape : List ℕ) → box_of (map whole_slab shape) ≡ indices_of shape
unfolding box_of indices_of
box_of-whole [] = refl
box_of-whole (size ∷ shape) = ap₂ rows (slab_indices-whole size) (box_of-whole shape)

-- and there are as many as the product of the sizes
pub box_len-whole : (shape : List ℕ) → box_len (map whole_slab shape) ≡ product shape
unfolding box_len product
box_len-whole [] = refl
box_len-whole (size ∷ shape) = ap₂ (λ (m n : ℕ). m * n) (slab_count-whole size) (box_len-whole shape)

-- an index list has an index for each slab
pub length-index_at : (slabs : List Slab) (element : ℕ) → length (index_at slabs element) ≡ length slabs
unfolding index_at
length-index_at [] element = refl
length-index_at (slab ∷ slabs) element = ap suc (length-index_at slabs (element % box_len slabs))

-- the slab of a dimension by its number, or one that is never read
abbrev pub slab_at : List Slab → ℕ → Slab
slab_at slabs at = get_or slabs at (record { start = 0; stride = 0; stop = 0 })
