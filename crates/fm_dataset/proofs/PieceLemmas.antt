-- Elements that lie one after another are a stretch of bytes.
use Rattle.std.proofs.Common.{◌≡◌, ℕ, zero, suc, ◌+◌, ◌-◌, ◌*◌, ◌<◌, ◌≤◌, min, Bool, true, false, cond, List, [], ◌∷◌, ◌++◌, drop, take, length, map, refl, sym, ap, ap₂, ◌∙◌, arith}
use Rattle.std.specs.Prelude.{slice_index}
use Rattle.std.specs.List.{flat_map, range_with_len}
use Rattle.std.proofs.lemmas.Bool.{false≢true}
use Rattle.std.proofs.lemmas.List.{drop-map, length-drop, length-take-le, take-append-drop, take-map}
use Rattle.std.proofs.lemmas.List.Folds.{flat_map-map}
use Rattle.nc_model.specs.Kind.{size_of}
use Rattle.nc_model.specs.Layout.{product, rank_in, indices_of}
use Rattle.nc_layout.proofs.OrderLemmas.{map-rank_in, flat_map_all}
use Rattle.nc_array.proofs.PartLemmas.{elements_at, pieces}
use Rattle.fm_model.specs.declared.proto.Proto.{Proto}
use Rattle.fm_model.specs.declared.proto.ProtoVar.{ProtoVar}
use Rattle.fm_model.specs.declared.row.Row.{Row}
use Rattle.fm_model.specs.Prototype.{lengths_of}
use Rattle.fm_dataset.specs.Kept.{IsBlock}
use Rattle.fm_dataset.specs.Values.{characters, element_of, indices_from, indices_in_row, row_index, row_shape, var_raw}
use Rattle.fm_dataset.proofs.CountLemmas.{pieces_within, rank-append}

-- a range without its first `k` numbers
drop-range : (a n k : ℕ) → drop k (range_with_len a n) ≡ range_with_len (a + k) (n - k)
drop-range a n zero =
    let from : a ≡ a + 0 = omega arith in
    let len : n ≡ n - 0 = omega arith in
    ap₂ range_with_len from len
drop-range a zero (suc k) =
    let none : 0 ≡ 0 - suc k = omega arith in
    ap (range_with_len (a + suc k)) none
drop-range a (suc n) (suc k) =
    let from : a + 1 + k ≡ a + suc k = omega arith in
    let len : n - k ≡ suc n - suc k = omega arith in
    drop-range (a + 1) n k ∙ ap₂ range_with_len from len

take-range : (a n k : ℕ) → take k (range_with_len a n) ≡ range_with_len a (min k n)
take-range a n zero =
    let none : 0 ≡ min 0 n = omega arith in
    ap (range_with_len a) none
take-range a zero (suc k) =
    let none : 0 ≡ min (suc k) 0 = omega arith in
    ap (range_with_len a) none
take-range a (suc n) (suc k) =
    let more : suc (min k n) ≡ min (suc k) (suc n) = omega arith in
    ap (λ ys. a ∷ ys) (take-range (a + 1) n k) ∙ ap (range_with_len a) more

-- the numbers of the index lists from one on
pub ranks_from : (shape : List ℕ) (first most : ℕ)
    → map (rank_in shape) (take most (drop first (indices_of shape)))
    ≡ range_with_len first (min most (product shape - first))
ranks_from shape first most =
    let from : 0 + first ≡ first = omega arith in
    sym (take-map (rank_in shape) most (drop first (indices_of shape)))
    ∙ ap (take most) (sym (drop-map (rank_in shape) first (indices_of shape)) ∙ ap (drop first) (map-rank_in shape)
    ∙ drop-range 0 (product shape) first)
    ∙ take-range (0 + first) (product shape - first) most
    ∙ ap (λ a. range_with_len a (min most (product shape - first))) from

-- elements at the numbers of index lists
pub stretch : (bytes : List ℕ) (begin size first most : ℕ) (shape : List ℕ)
    → flat_map (λ index. take size (drop (begin + size * rank_in shape index) bytes))
    (take most (drop first (indices_of shape)))
    ≡ take (size * min most (product shape - first)) (drop (begin + size * first) bytes)
stretch bytes begin size first most shape =
    sym (flat_map-map (λ r. take size (drop (begin + size * r) bytes)) (rank_in shape)
    (take most (drop first (indices_of shape))))
    ∙ ap (flat_map (λ r. take size (drop (begin + size * r) bytes))) (ranks_from shape first most)
    ∙ pieces bytes begin size first (min most (product shape - first))

-- elements that lie so, whatever picks them
raw_whole : (element : List ℕ → List ℕ) (bytes : List ℕ) (begin size first most : ℕ) (shape : List ℕ)
    → ((index : List ℕ) → element index ≡ take size (drop (begin + size * rank_in shape index) bytes))
    → flat_map element (take most (drop first (indices_of shape)))
    ≡ take (size * min most (product shape - first)) (drop (begin + size * first) bytes)
raw_whole element bytes begin size first most shape each =
    flat_map_all element _ each (take most (drop first (indices_of shape)))
    ∙ stretch bytes begin size first most shape

raw_along : (element : List ℕ → List ℕ) (i : ℕ) (bytes : List ℕ) (begin size first most : ℕ) (shape : List ℕ)
    → ((rest : List ℕ) → element (i ∷ rest) ≡ take size (drop (begin + size * rank_in shape rest) bytes))
    → flat_map element (take most (drop first (map (λ (rest : List ℕ). i ∷ rest) (indices_of shape))))
    ≡ take (size * min most (product shape - first)) (drop (begin + size * first) bytes)
raw_along element i bytes begin size first most shape each =
    ap (flat_map element)
    (ap (take most) (drop-map (λ (rest : List ℕ). i ∷ rest) first (indices_of shape))
    ∙ take-map (λ (rest : List ℕ). i ∷ rest) most (drop first (indices_of shape)))
    ∙ flat_map-map element (λ (rest : List ℕ). i ∷ rest) (take most (drop first (indices_of shape)))
    ∙ raw_whole (λ rest. element (i ∷ rest)) bytes begin size first most shape each

pub other_row : {P : Type 0} (var : ProtoVar) → var.timed ≡ false → var.timed ≡ true → P
other_row var untimed timed = absurd (false≢true (sym untimed ∙ timed))

-- the lengths after the first, without the first few
drop-lengths : (proto : Proto) (n : ℕ) (ids : List ℕ)
    → drop (suc n) (lengths_of proto ids) ≡ drop n (lengths_of proto (drop 1 ids))
drop-lengths proto zero [] = refl
drop-lengths proto (suc n) [] = refl
drop-lengths proto n (id ∷ ids) = refl

-- characters at the index lists that begin with one
text_pieces : (element : List ℕ → List ℕ) (index within shape bytes : List ℕ) (begin first len : ℕ)
    → first ≡ rank_in (take (length within) shape) within → len ≡ product (drop (length within) shape)
    → length within ≡ length (take (length within) shape)
    → ((more : List ℕ) → element (index ++ more) ≡ take 1 (drop (begin + 1 * rank_in shape (within ++ more)) bytes))
    → flat_map (λ more. element (index ++ more)) (indices_of (drop (length within) shape))
    ≡ take (len * 1) (drop (begin + len * first) bytes)
text_pieces element index within shape bytes begin first len first_is len_is long each =
    let front : List ℕ = take (length within) shape in
    let back : List ℕ = drop (length within) shape in
    flat_map_all (λ more. element (index ++ more))
    (λ more. take 1 (drop (begin + len * first + 1 * rank_in back more) bytes))
    (λ more. each more ∙ ap (λ n. take 1 (drop n bytes)) (offset more)) (indices_of back)
    ∙ elements_at bytes (begin + len * first) 1 back
    ∙ ap (λ n. take n (drop (begin + len * first) bytes)) (count len_is)
  where
    offset : (more : List ℕ) → begin + 1 * rank_in shape (within ++ more)
        ≡ begin + len * first + 1 * rank_in (drop (length within) shape) more
    offset more =
        let front : List ℕ = take (length within) shape in
        let back : List ℕ = drop (length within) shape in
        let both : rank_in shape (within ++ more) ≡ rank_in front within * product back + rank_in back more =
        ap (λ s. rank_in s (within ++ more)) (sym (take-append-drop (length within) shape))
        ∙ rank-append front back within more long in
        let known : rank_in shape (within ++ more) ≡ first * len + rank_in back more =
        both ∙ ap₂ (λ a b. a * b + rank_in back more) (sym first_is) (sym len_is) in
        omega (arith, known)

    count : len ≡ product (drop (length within) shape) → 1 * product (drop (length within) shape) ≡ len * 1
    count is = omega (arith, is)

-- some bytes within others
pub length-taken : (bytes : List ℕ) (begin n : ℕ) → begin + n ≤ length bytes → length (take n (drop begin bytes)) ≡ n
length-taken bytes begin n fits =
    let left = length-drop begin bytes in
    length-take-le n (drop begin bytes) (omega (arith, left, fits))

pub length-piece : (bytes : List ℕ) (begin size : ℕ) → begin + size * 1 ≤ length bytes
    → length (take (size * 1) (drop begin bytes)) ≡ size
length-piece bytes begin size fits =
    let taken = length-taken bytes begin (size * 1) fits in
    omega (arith, taken)

-- the number of an index list, and how many there are, over the same dimensions
pub same_rank : (f : ℕ → ℕ) {n : ℕ} {ids dims within index : List ℕ} → n ≡ rank_in (map f ids) within → ids ≡ dims
    → within ≡ index → n ≡ rank_in (map f dims) index
same_rank f is ids_are within_is =
    is ∙ ap₂ (λ (xs ys : List ℕ). rank_in (map f xs) ys) ids_are within_is

pub same_count : (f : ℕ → ℕ) {n : ℕ} {ids dims : List ℕ} → n ≡ product (map f ids) → ids ≡ dims
    → n ≡ product (map f dims)
same_count f is ids_are = is ∙ ap (λ (xs : List ℕ). product (map f xs)) ids_are

-- what the code cuts in two, as lengths
pub front_shape : (f : ℕ → ℕ) {before ids dims within index : List ℕ} → before ≡ take (length within) ids → ids ≡ dims
    → within ≡ index → map f before ≡ take (length index) (map f dims)
front_shape f {dims = dims} {index = index} front same is = rw (front, same, is) (sym (take-map f (length index) dims))

pub back_shape : (f : ℕ → ℕ) {after ids dims within index : List ℕ} → after ≡ drop (length within) ids → ids ≡ dims
    → within ≡ index → map f after ≡ drop (length index) (map f dims)
back_shape f {dims = dims} {index = index} back same is = rw (back, same, is) (sym (drop-map f (length index) dims))

module _ {proto : Proto} {rows : List Row} {var : ProtoVar} {index bytes : List ℕ} {begin : ℕ}
    (block : IsBlock proto rows var index bytes begin) where
  -- an element, or more that follow it, lies within the bytes
  pub elements_fit : {size : ℕ} (first count : ℕ) → size ≡ size_of var.kind
      → first + count ≤ product (row_shape proto var) → begin + size * first + size * count ≤ length bytes
  elements_fit first count size_is few =
      let fits = pieces_within begin (size_of var.kind) first count (product (row_shape proto var)) (length bytes)
      block.within few in
      rw size_is fits

  -- the elements that follow an index list
  pub raw_is : {size first : ℕ} (most : ℕ) → size ≡ size_of var.kind
      → first ≡ rank_in (row_shape proto var) (row_index var index)
      → var_raw proto rows var index most
      ≡ take (size * min most (product (row_shape proto var) - first)) (drop (begin + size * first) bytes)
  unfolding var_raw indices_from indices_in_row
  raw_is most size_is first_is =
      by_case var.timed refl (row_shape proto var) block.each
      ∙ ap₂ (λ s k. take (s * min most (product (row_shape proto var) - k)) (drop (begin + s * k) bytes))
      (sym size_is) (sym first_is)
    where
      by_case : (b : Bool) → var.timed ≡ b → (shape : List ℕ)
          → ((other : List ℕ) → (var.timed ≡ true → slice_index other 0 ≡ slice_index index 0)
          → element_of proto rows var other ≡ take (size_of var.kind)
          (drop (begin + size_of var.kind * rank_in shape (cond b (drop 1 other) other)) bytes))
          → flat_map (element_of proto rows var) (take most (drop (rank_in shape (cond b (drop 1 index) index))
          (cond b (map (λ (rest : List ℕ). slice_index index 0 ∷ rest) (indices_of shape)) (indices_of shape))))
          ≡ take (size_of var.kind * min most (product shape - rank_in shape (cond b (drop 1 index) index)))
          (drop (begin + size_of var.kind * rank_in shape (cond b (drop 1 index) index)) bytes)
      by_case true timed shape each =
          raw_along (element_of proto rows var) (slice_index index 0) bytes begin (size_of var.kind)
          (rank_in shape (drop 1 index)) most shape (λ rest. each (slice_index index 0 ∷ rest) (λ _. refl))
      by_case false untimed shape each =
          raw_whole (element_of proto rows var) bytes begin (size_of var.kind) (rank_in shape index) most shape
          (λ other. each other (other_row var untimed))

  -- the characters at an index list
  pub characters_are : {first len : ℕ} → size_of var.kind ≡ 1 → (var.timed ≡ true → 0 < length index)
      → length (row_index var index) ≡ length (take (length (row_index var index)) (row_shape proto var))
      → first ≡ rank_in (take (length (row_index var index)) (row_shape proto var)) (row_index var index)
      → len ≡ product (drop (length (row_index var index)) (row_shape proto var))
      → characters proto rows var index ≡ take (len * 1) (drop (begin + len * first) bytes)
  unfolding characters
  characters_are {first} {len} small some = by_case var.timed refl index some block.each
    where
      by_case : (b : Bool) → var.timed ≡ b → (index : List ℕ) → (var.timed ≡ true → 0 < length index)
          → ((other : List ℕ) → (var.timed ≡ true → slice_index other 0 ≡ slice_index index 0)
          → element_of proto rows var other ≡ take (size_of var.kind) (drop (begin + size_of var.kind
          * rank_in (lengths_of proto (cond b (drop 1 var.dims) var.dims)) (cond b (drop 1 other) other)) bytes))
          → length (cond b (drop 1 index) index) ≡ length (take (length (cond b (drop 1 index) index))
          (lengths_of proto (cond b (drop 1 var.dims) var.dims)))
          → first ≡ rank_in (take (length (cond b (drop 1 index) index))
          (lengths_of proto (cond b (drop 1 var.dims) var.dims))) (cond b (drop 1 index) index)
          → len ≡ product (drop (length (cond b (drop 1 index) index))
          (lengths_of proto (cond b (drop 1 var.dims) var.dims)))
          → flat_map (λ more. element_of proto rows var (index ++ more))
          (indices_of (drop (length index) (lengths_of proto var.dims)))
          ≡ take (len * 1) (drop (begin + len * first) bytes)
      by_case true timed [] some each long first_is len_is = absurd (let none = some timed in omega arith)
      by_case true timed (i ∷ rest) some each long first_is len_is =
          ap (λ shape. flat_map (λ more. element_of proto rows var (i ∷ (rest ++ more))) (indices_of shape))
          (drop-lengths proto (length rest) var.dims)
          ∙ text_pieces (element_of proto rows var) (i ∷ rest) rest (lengths_of proto (drop 1 var.dims)) bytes begin
          first len first_is len_is long (λ more. rw small at each (i ∷ (rest ++ more)) (λ _. refl))
      by_case false untimed index some each long first_is len_is =
          text_pieces (element_of proto rows var) index index (lengths_of proto var.dims) bytes begin first len
          first_is len_is long (λ more. rw small at each (index ++ more) (other_row var untimed))
