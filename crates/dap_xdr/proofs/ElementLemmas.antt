-- The bytes of numbers from an element on.
use Rattle.std.proofs.Common.{◌≡◌, ℕ, zero, suc, ◌+◌, ◌-◌, ◌*◌, ◌<◌, List, [], ◌∷◌, ◌++◌, length, map, min, take, drop, sym, ap, ap₂, subst, ◌∙◌, arith}
use Rattle.std.specs.List.{flat_map}
use Rattle.std.proofs.Math.Nat.{suc-mul}
use Rattle.std.proofs.Math.Seq.{drop-append-add}
use Rattle.std.proofs.lemmas.Grind.{flat_map-append}
use Rattle.std.proofs.lemmas.List.{drop_all, drop-drop, drop-map, length-append, length-drop, length-map, map-append, take-append-drop}
use Rattle.dap_model.specs.Box.{box_len, box_of, index_at}
use Rattle.dap_model.specs.Xdr.{array_bytes, count_twice, element_bytes, element_len, zeros_after}
use Rattle.dap_model.proofs.BoxLemmas.{length-box_of}
use Rattle.dap_model.proofs.XdrLemmas.{elements_laid, length-element_bytes}
use Rattle.dap_number.specs.Front.{IsFront}
use Rattle.dap_xdr.specs.Portion.{array_of, bits_in, body_of, numbers_from, Portion}
use Rattle.dap_number.specs.Overlay.{overlay}
use Rattle.dap_xdr.specs.Stretch.{AreBytesOf, ArePicked}
use Rattle.dap_number.proofs.FrontLemmas.{front-more, overlay-front}
use Rattle.dap_xdr.proofs.PickedLemmas.{drop-element}

-- the first numbers from an element on, and those after them
pub from-split : (n : Portion) (element count : ℕ)
    → numbers_from n element
    ≡ flat_map (element_bytes n.array.kind) (map (bits_in n) (take count (drop element (box_of n.sent.slabs))))
    ++ flat_map (element_bytes n.array.kind) (map (bits_in n) (drop count (drop element (box_of n.sent.slabs))))
unfolding numbers_from
from-split n element count =
    let f = element_bytes n.array.kind in
    let b = bits_in n in
    let box = drop element (box_of n.sent.slabs) in
    ap (λ (l : List (List ℕ)). flat_map f (map b l)) (sym (take-append-drop count box))
    ∙ ap (flat_map f) (map-append b (take count box) (drop count box))
    ∙ flat_map-append f (map b (take count box)) (map b (drop count box))

-- what is written of numbers that are picked from an element on is a front of all from there on
pub picked-front : (n : Portion) (element skip most count : ℕ) (stored old new : List ℕ)
    → ArePicked n.array.kind (bits_in n) n.sent.slabs element most stored
    → ((numbers : List ℕ) → AreBytesOf n.array.kind numbers stored
    → IsFront (drop skip (flat_map (element_bytes n.array.kind) numbers)) old new count)
    → IsFront (drop skip (numbers_from n element)) old new count
picked-front n element skip most count stored old new picked each =
    subst (λ (l : List ℕ). IsFront (drop skip l) old new count) (sym (from-split n element picked.count))
    (front-more _ _ old new skip count (each _ picked.bytes_are))

-- what is written of one number is a front of all from there on
pub one-front : (n : Portion) (element skip count : ℕ) (old : List ℕ)
    → element < box_len n.sent.slabs
    → count ≡ min (length old)
    (length (element_bytes n.array.kind (bits_in n (index_at n.sent.slabs element))) - skip)
    → IsFront (drop skip (numbers_from n element)) old
    (overlay (drop skip (element_bytes n.array.kind (bits_in n (index_at n.sent.slabs element)))) old) count
unfolding numbers_from
one-front n element skip count old within is =
    let f = element_bytes n.array.kind in
    let b = bits_in n in
    let one = f (b (index_at n.sent.slabs element)) in
    let all : numbers_from n element ≡ one ++ numbers_from n (suc element) =
    ap (λ (l : List (List ℕ)). flat_map f (map b l)) (drop-element n.sent.slabs element within) in
    subst (λ (l : List ℕ). IsFront (drop skip l) old (overlay (drop skip one) old) count) (sym all)
    (front-more one (numbers_from n (suc element)) old (overlay (drop skip one) old) skip count
    (overlay-front (drop skip one) old count
    (is ∙ ap (λ (m : ℕ). min (length old) m) (sym (length-drop skip one)))))

-- n texts of one length are left out by n times the length
pub flat-drop : {A : Type 0} (f : A → List ℕ) (width times : ℕ) → ((x : A) → length (f x) ≡ width) → (xs : List A)
    → drop (times * width) (flat_map f xs) ≡ flat_map f (drop times xs)
flat-drop f width zero each xs =
    let none : zero * width ≡ 0 = omega arith in
    ap (λ (n : ℕ). drop n (flat_map f xs)) none
flat-drop f width (suc times) each [] = drop_all (suc times * width) [] (omega arith)
flat-drop f width (suc times) each (x ∷ xs) =
    let far : suc times * width ≡ length (f x) + times * width = omega (arith, each x, suc-mul times width) in
    ap (λ (n : ℕ). drop n (f x ++ flat_map f xs)) far
    ∙ drop-append-add (f x) (flat_map f xs) (times * width)
    ∙ flat-drop f width times each xs

-- texts of one length
pub flat-length : {A : Type 0} (f : A → List ℕ) (width : ℕ) → ((x : A) → length (f x) ≡ width) → (xs : List A)
    → length (flat_map f xs) ≡ length xs * width
flat-length f width each [] = omega arith
flat-length f width each (x ∷ xs) =
    length-append (f x) (flat_map f xs)
    ∙ ap₂ (λ (m n : ℕ). m + n) (each x) (flat-length f width each xs)
    ∙ omega (arith, suc-mul (length xs) width)

-- the bytes from a later element on are what is left of those from an earlier one
pub from-later : (n : Portion) (element times skip : ℕ)
    → drop (times * element_len n.array.kind + skip) (numbers_from n element)
    ≡ drop skip (numbers_from n (element + times))
unfolding numbers_from
from-later n element times skip =
    let f = element_bytes n.array.kind in
    let b = bits_in n in
    let w = element_len n.array.kind in
    let box = box_of n.sent.slabs in
    let numbers = map b (drop element box) in
    sym (drop-drop skip (times * w) (flat_map f numbers))
    ∙ ap (drop skip) (flat-drop f w times (length-element_bytes n.array.kind) numbers
    ∙ ap (flat_map f) (drop-map b times (drop element box))
    ∙ ap (λ (l : List (List ℕ)). flat_map f (map b l)) (drop-drop times element box))

-- how many bytes there are from an element on
pub length-from : (n : Portion) (element : ℕ)
    → length (numbers_from n element) ≡ (box_len n.sent.slabs - element) * element_len n.array.kind
unfolding numbers_from
length-from n element =
    let box = box_of n.sent.slabs in
    flat-length (element_bytes n.array.kind) (element_len n.array.kind) (length-element_bytes n.array.kind)
    (map (bits_in n) (drop element box))
    ∙ ap (λ (m : ℕ). m * element_len n.array.kind)
    (length-map (drop element box) (bits_in n) ∙ length-drop element box
    ∙ ap (λ (m : ℕ). m - element) (length-box_of n.sent.slabs))

-- an array is its count twice and its body
pub array-body : (n : Portion)
    → array_of n ≡ count_twice (box_len n.sent.slabs) ++ body_of n
unfolding array_of body_of array_bytes numbers_from
array-body n =
    let numbers = map (bits_in n) (box_of n.sent.slabs) in
    let many : length numbers ≡ box_len n.sent.slabs =
    length-map (box_of n.sent.slabs) (bits_in n) ∙ length-box_of n.sent.slabs in
    ap₂ (λ (m : ℕ) (l : List ℕ). count_twice m ++ l) many
    (elements_laid n.array.kind numbers
    ∙ ap (λ (m : ℕ). flat_map (element_bytes n.array.kind) numbers ++ zeros_after (m * element_len n.array.kind)) many)

-- how many bytes all numbers take
pub length-all : (n : Portion)
    → length (numbers_from n 0) ≡ box_len n.sent.slabs * element_len n.array.kind
length-all n =
    let all : box_len n.sent.slabs - 0 ≡ box_len n.sent.slabs = omega arith in
    length-from n 0 ∙ ap (λ (m : ℕ). m * element_len n.array.kind) all
