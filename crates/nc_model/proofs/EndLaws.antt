-- Where the elements of a variable end, and how many bytes they are: in a file whose layout has no fault, all of them.
use Rattle.std.proofs.Common.{◌≡◌, ℕ, zero, suc, ◌+◌, ◌-◌, ◌*◌, ◌<◌, ◌≤◌, Bool, true, false, cond, List, [], ◌∷◌, length, map, take, drop, All, None, Option, Some, refl, sym, ap, ap₂, ◌∙◌, arith}
use Rattle.std.specs.Prelude.{slice_index, ◌==◌}
use Rattle.std.specs.List.{flat_map, range_with_len}
use Rattle.std.proofs.Math.Nat.{mul_assoc, mul_comm}
use Rattle.std.proofs.lemmas.Bool.{ltb-false, ne_eqb}
use Rattle.std.proofs.lemmas.List.{length-append, length-drop, length-take}
use Rattle.std.proofs.lemmas.List.Concat.{flat_map-append}
use Rattle.std.proofs.lemmas.List.Elements.{All-nil, All-cons}
use Rattle.std.proofs.lemmas.List.Folds.{flat_map-map}
use Rattle.std.proofs.lemmas.Nat.{mul-le, mul-add-lt}
use Rattle.std.specs.Option.{option_or}
use Rattle.nc_model.specs.declared.fault.LayoutFault.{LayoutFault}
use Rattle.nc_model.specs.declared.fault.LayoutFault.TheVariants.{DataOutside}
use Rattle.nc_model.specs.declared.header.Header.{Header}
use Rattle.nc_model.specs.declared.header.NcVar.{NcVar}
use Rattle.nc_model.specs.Kind.{size_of}
use Rattle.nc_model.specs.Layout.{IsIndex, product, rank_in, is_record_var, shape_of, record_size, offset_of, element, indices_of, elements_of, end_of, is_outside, first_too_large, first_outside, layout_fault}
use Rattle.fm_base.proofs.NumberLemmas.{factors}

last_turn : (m whole rank : ℕ) → rank + 1 ≡ whole → m * whole + rank + 1 ≡ (m + 1) * whole
last_turn m whole rank e = omega arith

-- the last index list has the greatest number
pub rank_in-last : (shape : List ℕ) → 0 < product shape → rank_in shape (map (λ n. n - 1) shape) + 1 ≡ product shape
unfolding rank_in product
rank_in-last [] some = refl
rank_in-last (n ∷ shape) some =
    let parts = factors n (product shape) some in
    let first : 0 < n = parts.0 in
    let back : n - 1 + 1 ≡ n = omega arith in
    last_turn (n - 1) (product shape) (rank_in shape (map (λ m. m - 1) shape)) (rank_in-last shape parts.1)
    ∙ ap (λ m. m * product shape) back

-- the number of an index list is below the number of elements
pub rank_in-lt : (shape index : List ℕ) → IsIndex shape index → rank_in shape index < product shape
unfolding rank_in product
rank_in-lt [] index is = omega arith
rank_in-lt (n ∷ shape) [] is = absurd is
rank_in-lt (n ∷ shape) (i ∷ index) is =
    rw (mul_comm n (product shape)) (mul-add-lt i (product shape) (rank_in shape index) n is.0
    (rank_in-lt shape index is.1))

rank_in-le-last : (shape index : List ℕ) → IsIndex shape index
    → rank_in shape index ≤ rank_in shape (map (λ n. n - 1) shape)
rank_in-le-last shape index is =
    let below = rank_in-lt shape index is in
    let last = rank_in-last shape (omega (arith, below)) in
    omega (arith, below, last)

-- the offset of an element by the lengths of all dimensions
abbrev offset_by : Bool → ℕ → ℕ → ℕ → List ℕ → List ℕ → ℕ
offset_by b begin recsize size shape index =
    cond b (begin + slice_index index 0 * recsize + size * rank_in (cond b (drop 1 shape) shape) (drop 1 index))
    (begin + size * rank_in (cond b (drop 1 shape) shape) index)

offset_by-le : (b : Bool) (begin recsize size : ℕ) (shape index : List ℕ) → IsIndex shape index
    → offset_by b begin recsize size shape index ≤ offset_by b begin recsize size shape (map (λ n. n - 1) shape)
offset_by-le b begin recsize size [] [] is = omega arith
offset_by-le b begin recsize size [] (i ∷ index) is = absurd is
offset_by-le b begin recsize size (n ∷ shape) [] is = absurd is
offset_by-le true begin recsize size (n ∷ shape) (i ∷ index) is =
    let first = is.0 in
    let records = mul-le i recsize (n - 1) recsize (omega arith) (omega arith) in
    let others = mul-le size (rank_in shape index) size (rank_in shape (map (λ m. m - 1) shape)) (omega arith)
    (rank_in-le-last shape index is.1) in
    omega arith
offset_by-le false begin recsize size (n ∷ shape) (i ∷ index) is =
    let all = mul-le size (rank_in (n ∷ shape) (i ∷ index)) size
    (rank_in (n ∷ shape) (map (λ m. m - 1) (n ∷ shape))) (omega arith)
    (rank_in-le-last (n ∷ shape) (i ∷ index) is) in
    omega arith

-- no element ends past the last
pub offset_of-le-end_of : (header : Header) (var : NcVar) (index : List ℕ) → IsIndex (shape_of header var) index
    → offset_of header var index + size_of var.kind ≤ end_of header var
unfolding offset_of
offset_of-le-end_of header var index is =
    let last = offset_by-le (is_record_var header var) var.begin (record_size header) (size_of var.kind)
    (shape_of header var) index is in
    omega arith

-- a variable with an element ends within this length
abbrev pub EndsWithin : Header → ℕ → NcVar → Type 0
EndsWithin header len var = 0 < product (shape_of header var) → end_of header var ≤ len

ends_inside : (header : Header) (len : ℕ) (var : NcVar) → is_outside header len var ≡ false → EndsWithin header len var
ends_inside header len var inside some =
    let has : (product (shape_of header var) == 0)
    ≡ false = ne_eqb (product (shape_of header var)) 0 (λ e. omega arith) in
    ltb-false len (end_of header var) (rw has at inside)

inside_each : (header : Header) (len n : ℕ) (vars : List NcVar) → first_outside header len n vars ≡ None
    → All (EndsWithin header len) vars
unfolding first_outside
inside_each header len n [] e = All-nil (EndsWithin header len)
inside_each header len n (var ∷ vars) e = by_test (is_outside header len var) refl e
    (inside_each header len (n + 1) vars)
  where
    by_test : (b : Bool) → is_outside header len var ≡ b
        → cond b (Some (DataOutside n (end_of header var) len)) (first_outside header len (n + 1) vars) ≡ None
        → (first_outside header len (n + 1) vars ≡ None → All (EndsWithin header len) vars)
        → All (EndsWithin header len) (var ∷ vars)
    by_test true is e more = absurd cc
    by_test false is e more = All-cons (EndsWithin header len) var vars (ends_inside header len var is) (more e)

second_none : (first second : Option LayoutFault) → option_or first second ≡ None → second ≡ None
second_none None second e = e
second_none (Some fault) second e = absurd cc

-- where the layout has no fault, each variable with an element ends within the file
pub ends_within : (header : Header) (len : ℕ) → layout_fault header len ≡ None → All (EndsWithin header len) header.vars
unfolding layout_fault
ends_within header len e =
    inside_each header len 0 header.vars (second_none (first_too_large header 0 header.vars)
    (first_outside header len 0 header.vars) e)

-- one more first index
length_row : (f : List ℕ → List ℕ) (size : ℕ) (shape : List ℕ)
    → ((index : List ℕ) → IsIndex shape index → length (f index) ≡ size)
    → length (flat_map f (indices_of shape)) ≡ size * product shape
unfolding indices_of product
length_row f size [] each = length-append (f []) [] ∙ (let one = each [] tt in omega (arith, one))
length_row f size (n ∷ shape) each = rows (λ g row. length_row g size shape row) 0 n (λ i at below. omega arith)
    ∙ turns n size (product shape)
  where
    turns : (n size whole : ℕ) → n * (size * whole) ≡ size * (n * whole)
    turns n size whole = sym (mul_assoc n size whole) ∙ ap (λ m. m * whole) (mul_comm n size) ∙ mul_assoc size n whole

    rows : ((g : List ℕ → List ℕ) → ((index : List ℕ) → IsIndex shape index → length (g index) ≡ size)
        → length (flat_map g (indices_of shape)) ≡ size * product shape)
        → (a m : ℕ) → ((i : ℕ) → a ≤ i → i < a + m → i < n)
        → length (flat_map f (flat_map (λ (i : ℕ). map (λ (index : List ℕ). i ∷ index) (indices_of shape))
        (range_with_len a m))) ≡ m * (size * product shape)
    rows of_row a zero within = omega arith
    rows of_row a (suc m) within =
        let row = of_row (λ index. f (a ∷ index)) (λ index is. each (a ∷ index)
        (within a (omega arith) (omega arith), is)) in
        let more = rows of_row (a + 1) m (λ i at below. within i (omega arith) (omega arith)) in
        ap length (flat_map-append f (map (λ (index : List ℕ). a ∷ index) (indices_of shape))
        (flat_map (λ (i : ℕ). map (λ (index : List ℕ). i ∷ index) (indices_of shape)) (range_with_len (a + 1) m)))
        ∙ length-append (flat_map f (map (λ (index : List ℕ). a ∷ index) (indices_of shape))) _
        ∙ ap₂ (λ (x y : ℕ). x + y) (ap length (flat_map-map f (λ (index : List ℕ). a ∷ index) (indices_of shape))
        ∙ row) more
        ∙ omega arith

whole_slice : (size at : ℕ) (bytes : List ℕ) → at + size ≤ length bytes → length (take size (drop at bytes)) ≡ size
whole_slice size at bytes within = omega (arith, length-take size (drop at bytes), length-drop at bytes)

-- the elements of a variable are as many bytes as its lengths and its kind say
pub length-elements_of : (bytes : List ℕ) (header : Header) (var : NcVar) → EndsWithin header (length bytes) var
    → length (elements_of bytes header var) ≡ size_of var.kind * product (shape_of header var)
unfolding elements_of element
length-elements_of bytes header var ends = length_row (element bytes header var) (size_of var.kind)
    (shape_of header var)
    (λ index is.
    let below = rank_in-lt (shape_of header var) index is in
    let end = ends (omega (arith, below)) in
    let last = offset_of-le-end_of header var index is in
    whole_slice (size_of var.kind) (offset_of header var index) bytes (omega (arith, end, last)))
