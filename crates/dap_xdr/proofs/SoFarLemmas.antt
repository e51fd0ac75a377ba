-- What is written of the bytes of numbers so far, and where what is left begins.
use Rattle.std.proofs.Common.{◌≡◌, ◌≢◌, ℕ, ◌+◌, ◌-◌, ◌*◌, ◌/◌, ◌%◌, ◌<◌, ◌≤◌, List, ◌++◌, length, take, drop, refl, sym, zero-add, ap, ap₂, subst, ◌∙◌, arith}
use Rattle.std.proofs.Math.Seq.{drop-append-add, take-add, take-append_seam}
use Rattle.std.proofs.lemmas.List.{take_all, append_assoc, drop_all, drop-drop, length-append, length-drop, length-take-le}
use Rattle.std.proofs.lemmas.Nat.{div-add-mod', mod_below}
use Rattle.std.proofs.Math.Nat.{div-le_of_le-mul, mul-le-mul_right, mul_comm}
use Rattle.dap_model.specs.Box.{box_len}
use Rattle.dap_model.specs.Xdr.{element_len}
use Rattle.dap_model.specs.declared.declaration.DapKind.{DapKind}
use Rattle.dap_model.specs.declared.declaration.DapKind.TheVariants.{Byte, Int16, Int32, Float32, Float64, Text}
use Rattle.dap_xdr.specs.Portion.{numbers_from, Portion}
use Rattle.dap_number.specs.Overlay.{overlay}
use Rattle.dap_xdr.proofs.ElementLemmas.{from-later, length-from}

-- a number takes some bytes
pub element_len-pos : (kind : DapKind) → kind ≢ Text → 0 < element_len kind
unfolding element_len
element_len-pos Byte number = omega arith
element_len-pos Int16 number = omega arith
element_len-pos Int32 number = omega arith
element_len-pos Float32 number = omega arith
element_len-pos Float64 number = omega arith
element_len-pos Text number = absurd (number refl)

-- and at most eight
pub element_len-most : (kind : DapKind) → element_len kind ≤ 8
unfolding element_len
element_len-most Byte = omega arith
element_len-most Int16 = omega arith
element_len-most Int32 = omega arith
element_len-most Float32 = omega arith
element_len-most Float64 = omega arith
element_len-most Text = omega arith

-- `filled` bytes are written over the front of a buffer, and what is left begins within the bytes of a number
pub record SoFar (n : Portion) (from filled element skip : ℕ) (old now : List ℕ) : Type 0 where
  pub below : skip < element_len n.array.kind
  pub fits : filled ≤ length old
  pub within : filled ≤ length (drop from (numbers_from n 0))
  pub left : drop filled (drop from (numbers_from n 0)) ≡ drop skip (numbers_from n element)
  pub now_is : now ≡ take filled (drop from (numbers_from n 0)) ++ drop filled old

pub so-far-first : (n : Portion) (from : ℕ) (old : List ℕ) → n.array.kind ≢ Text
    → SoFar n from 0 (from / element_len n.array.kind) (from % element_len n.array.kind) old old
so-far-first n from old number =
    let w = element_len n.array.kind in
    let spread : from ≡ from / w * w + from % w = sym (div-add-mod' from w) in
    record {
      below = mod_below from w (element_len-pos n.array.kind number);
      fits = omega arith;
      within = omega arith;
      left = ap (λ (m : ℕ). drop m (numbers_from n 0)) spread
          ∙ from-later n 0 (from / w) (from % w)
          ∙ ap (λ (m : ℕ). drop (from % w) (numbers_from n m)) (zero-add (from / w));
      now_is = refl;
    }

-- how many bytes a buffer has of which a front is written
pub so-far-long : (n : Portion) (from filled element skip : ℕ) (old now : List ℕ)
    → SoFar n from filled element skip old now → length now ≡ length old
so-far-long n from filled element skip old now so =
    ap length so.now_is
    ∙ length-append (take filled (drop from (numbers_from n 0))) (drop filled old)
    ∙ omega (
      arith,
      length-take-le filled (drop from (numbers_from n 0)) so.within,
      length-drop filled old,
      so.fits,
    )

-- the next bytes
pub so-far-more : (n : Portion) (from filled element skip count : ℕ) (old now next : List ℕ)
    → n.array.kind ≢ Text → SoFar n from filled element skip old now
    → filled + count ≤ length now
    → count ≤ length (drop skip (numbers_from n element))
    → next ≡ take filled now ++ (take count (drop skip (numbers_from n element)) ++ drop (filled + count) now)
    → SoFar n from (filled + count) (element + (skip + count) / element_len n.array.kind)
    ((skip + count) % element_len n.array.kind) old next
so-far-more n from filled element skip count old now next number so fits within written =
    let w = element_len n.array.kind in
    let all = drop from (numbers_from n 0) in
    let here = numbers_from n element in
    let front = take filled all in
    let long : filled ≡ length front = sym (length-take-le filled all so.within) in
    let spread : skip + count ≡ (skip + count) / w * w + (skip + count) % w = sym (div-add-mod' (skip + count) w) in
    let head : take filled now ≡ front =
    ap₂ take long so.now_is ∙ take-append_seam front (drop filled old) in
    let tail : drop (filled + count) now ≡ drop (filled + count) old =
    ap₂ (λ (m : ℕ) (l : List ℕ). drop (m + count) l) long so.now_is
    ∙ drop-append-add front (drop filled old) count ∙ drop-drop count filled old in
    record {
      below = mod_below (skip + count) w (element_len-pos n.array.kind number);
      fits = omega (arith, fits, so-far-long n from filled element skip old now so);
      within = omega (arith, so.within, within, ap length so.left, length-drop filled all);
      left = sym (drop-drop count filled all) ∙ ap (drop count) so.left ∙ drop-drop count skip here
          ∙ ap (λ (m : ℕ). drop m here) spread
          ∙ from-later n element ((skip + count) / w) ((skip + count) % w);
      now_is = written
          ∙ ap₂ (λ (l r : List ℕ). l ++ (take count (drop skip here) ++ r)) head tail
          ∙ ap (λ (l : List ℕ). front ++ (take count l ++ drop (filled + count) old)) (sym so.left)
          ∙ sym (append_assoc front (take count (drop filled all)) (drop (filled + count) old))
          ∙ ap (λ (l : List ℕ). l ++ drop (filled + count) old) (sym (take-add filled count all));
    }

-- the next element is at most behind the last number
pub so-far-element : (n : Portion) (element skip count : ℕ) → n.array.kind ≢ Text
    → element < box_len n.sent.slabs → skip < element_len n.array.kind
    → count ≤ length (drop skip (numbers_from n element))
    → element + (skip + count) / element_len n.array.kind ≤ box_len n.sent.slabs
so-far-element n element skip count number here below within =
    let w = element_len n.array.kind in
    let long = length-from n element in
    let left = length-drop skip (numbers_from n element) in
    let some : 1 ≤ box_len n.sent.slabs - element = omega (arith, here) in
    let one : 1 * w ≤ (box_len n.sent.slabs - element) * w = mul-le-mul_right w some in
    let few : skip + count ≤ w * (box_len n.sent.slabs - element) =
    subst (λ (m : ℕ). skip + count ≤ m) (mul_comm (box_len n.sent.slabs - element) w)
    (omega (arith, one, within, left, long, below)) in
    let most : (skip + count) / w ≤ box_len n.sent.slabs - element = div-le_of_le-mul w few in
    omega (arith, most, here)

-- where the buffer is full
pub so-far-full : (n : Portion) (from filled element skip : ℕ) (old now : List ℕ)
    → SoFar n from filled element skip old now → length now ≤ filled
    → now ≡ overlay (drop from (numbers_from n 0)) old
unfolding overlay
so-far-full n from filled element skip old now so full =
    let long = so-far-long n from filled element skip old now so in
    let same : filled ≡ length old = omega (arith, long, full, so.fits) in
    so.now_is
    ∙ ap₂ (λ (m : ℕ) (l : List ℕ). take m (drop from (numbers_from n 0)) ++ l) same
    (drop_all filled old (omega (arith, same))
    ∙ sym (drop_all (length (drop from (numbers_from n 0))) old (omega (arith, so.within, same))))

-- where no number is left
pub so-far-all : (n : Portion) (from filled element skip : ℕ) (old now : List ℕ)
    → SoFar n from filled element skip old now → box_len n.sent.slabs ≤ element
    → filled ≡ length (drop from (numbers_from n 0))
so-far-all n from filled element skip old now so past =
    let gone : 0 ≡ box_len n.sent.slabs - element = omega (arith, past) in
    let none : length (numbers_from n element) ≡ 0 =
    length-from n element
    ∙ subst (λ (m : ℕ). m * element_len n.array.kind ≡ 0) gone (omega arith) in
    omega (
      arith,
      ap length so.left,
      length-drop filled (drop from (numbers_from n 0)),
      length-drop skip (numbers_from n element),
      none,
      so.within,
    )

pub so-far-done : (n : Portion) (from filled element skip : ℕ) (old now : List ℕ)
    → SoFar n from filled element skip old now → box_len n.sent.slabs ≤ element
    → now ≡ overlay (drop from (numbers_from n 0)) old
unfolding overlay
so-far-done n from filled element skip old now so past =
    let all = so-far-all n from filled element skip old now so past in
    so.now_is
    ∙ ap₂ (λ (l : List ℕ) (m : ℕ). l ++ drop m old)
    (take_all filled (drop from (numbers_from n 0)) (omega (arith, all))
    ∙ sym (take_all (length old) (drop from (numbers_from n 0)) (omega (arith, all, so.fits)))) all
