-- Bytes written over the front of a buffer.
use Rattle.std.proofs.Common.{◌≡◌, ℕ, ◌+◌, ◌-◌, ◌<◌, ◌≤◌, List, [], ◌++◌, length, min, take, drop, inl, inr, refl, sym, ap, ap₂, subst, ◌∙◌, arith}
use Rattle.std.proofs.Math.Seq.{drop-append-add, drop-append_seam, take-append-add, take-append_seam}
use Rattle.std.proofs.lemmas.List.{append-nil, append_assoc, drop_all, drop-append-le, drop-drop, length-append, length-drop, length-take, length-take-le, take_all, take-append-le}
use Rattle.std.proofs.lemmas.Bool.{cases_lt}
use Rattle.dap_number.specs.Front.{IsFront}
use Rattle.dap_number.specs.Overlay.{overlay, IsPut}

-- what fits of some bytes is a front of them
pub overlay-front : (bytes old : List ℕ) (count : ℕ) → count ≡ min (length old) (length bytes)
    → IsFront bytes old (overlay bytes old) count
unfolding overlay
overlay-front bytes old count is = record {
  fits = omega (arith, is);
  within = omega (arith, is);
  new_is = elim (cases_lt (length bytes) (length old)) [
    | inl high ↦
        let same : length bytes ≡ count = omega (arith, is, high) in
        ap₂ (λ (l : List ℕ) (n : ℕ). l ++ drop n old)
        (take_all (length old) bytes (omega (arith, high)) ∙ sym (take_all count bytes (omega (arith, same)))) same
    | inr low ↦
        let same : length old ≡ count = omega (arith, is, low) in
        ap₂ (λ (n : ℕ) (l : List ℕ). take n bytes ++ l) same
        (drop_all (length bytes) old low ∙ sym (drop_all count old (omega (arith, same))))
  ];
}

-- a front of what is left of some bytes is one of what is left of them with others behind
pub front-more : (bytes more old new : List ℕ) (skip count : ℕ) → IsFront (drop skip bytes) old new count
    → IsFront (drop skip (bytes ++ more)) old new count
front-more bytes more old new skip count front = elim (cases_lt (length bytes) skip) [
  | inl past ↦
      let none : length (drop skip bytes) ≡ 0 = length-drop skip bytes ∙ omega (arith, past) in
      let zero-count : count ≡ 0 = omega (arith, front.within, none) in
      record {
        fits = front.fits;
        within = omega (arith, zero-count);
        new_is = front.new_is ∙ ap₂ (λ (l : List ℕ) (n : ℕ). l ++ drop n old)
            (ap (λ (n : ℕ). take n (drop skip bytes)) zero-count
            ∙ sym (ap (λ (n : ℕ). take n (drop skip (bytes ++ more))) zero-count)) refl;
      }
  | inr within ↦
      let split : drop skip (bytes ++ more) ≡ drop skip bytes ++ more = drop-append-le skip bytes more within in
      record {
        fits = front.fits;
        within = omega (arith, front.within, ap length split, length-append (drop skip bytes) more);
        new_is = front.new_is ∙ ap (λ (l : List ℕ). l ++ drop count old)
            (sym (ap (take count) split ∙ take-append-le count (drop skip bytes) more front.within));
      }
]

-- where nothing is written the buffer stays
pub front-nothing : (bytes old new : List ℕ) (count : ℕ) → IsFront bytes old new count → count ≤ 0 → new ≡ old
front-nothing bytes old new count front none =
    let zero-count : count ≡ 0 = omega (arith, none) in
    front.new_is ∙ ap (λ (n : ℕ). take n bytes ++ drop n old) zero-count

pub ruleset nothing = (front-nothing)

-- what is left of two texts is what is left of the first, and of the second
pub drop-both : (xs ys : List ℕ) (from : ℕ) → drop from (xs ++ ys) ≡ drop from xs ++ drop (from - length xs) ys
drop-both xs ys from = elim (cases_lt (length xs) from) [
  | inl past ↦
      let far : from ≡ length xs + (from - length xs) = omega (arith, past) in
      ap (λ (n : ℕ). drop n (xs ++ ys)) far
      ∙ drop-append-add xs ys (from - length xs)
      ∙ ap (λ (l : List ℕ). l ++ drop (from - length xs) ys) (sym (drop_all from xs (omega (arith, past))))
  | inr within ↦
      let none : 0 ≡ from - length xs = omega (arith, within) in
      drop-append-le from xs ys within
      ∙ ap (λ (n : ℕ). drop from xs ++ drop n ys) none
]

-- a text written behind another, where the first fills the buffer
put-first : (xs ys old mid rest new : List ℕ) (first second : ℕ) → IsPut xs old mid first
    → IsPut ys (drop first mid) rest second → new ≡ take first mid ++ rest → length old ≤ length xs
    → IsPut (xs ++ ys) old new (first + second)
unfolding overlay
put-first xs ys old mid rest new first second one two is low =
    let all : first ≡ length old = omega (arith, one.count_is, low) in
    let none = drop_all (length xs) old low in
    let front : mid ≡ take (length old) xs =
    one.new_is ∙ ap (λ (l : List ℕ). take (length old) xs ++ l) none ∙ append-nil (take (length old) xs) in
    let long : length mid ≡ length old = ap length front ∙ length-take-le (length old) xs low in
    let left : drop first mid ≡ [] = drop_all first mid (omega (arith, all, long)) in
    let nothing : second ≡ 0 = omega (arith, two.count_is, ap length left) in
    let empty : rest ≡ [] =
    two.new_is ∙ ap (overlay ys) left ∙ drop_all (length ys) [] (omega arith) in
    record {
      count_is = omega (arith, all, nothing, low, length-append xs ys);
      new_is = is
          ∙ ap₂ (λ (l r : List ℕ). l ++ r) (take_all first mid (omega (arith, all, long)) ∙ front) empty
          ∙ ap₂ (λ (l r : List ℕ). l ++ r) (sym (take-append-le (length old) xs ys low))
          (sym (drop_all (length (xs ++ ys)) old (omega (arith, low, length-append xs ys))));
    }

-- and where there is room behind it
put-second : (xs ys old mid rest new : List ℕ) (first second : ℕ) → IsPut xs old mid first
    → IsPut ys (drop first mid) rest second → new ≡ take first mid ++ rest → length xs < length old
    → IsPut (xs ++ ys) old new (first + second)
unfolding overlay
put-second xs ys old mid rest new first second one two is high =
    let all : first ≡ length xs = omega (arith, one.count_is, high) in
    let both = length-append xs ys in
    let front : mid ≡ xs ++ drop (length xs) old =
    one.new_is ∙ ap (λ (l : List ℕ). l ++ drop (length xs) old) (take_all (length old) xs (omega (arith, high))) in
    let left : drop first mid ≡ drop (length xs) old =
    ap₂ drop all front ∙ drop-append_seam xs (drop (length xs) old) in
    let room : length (drop first mid) ≡ length old - length xs = ap length left ∙ length-drop (length xs) old in
    let split : length old ≡ length xs + (length old - length xs) = omega (arith, high) in
    record {
      count_is = omega (arith, all, two.count_is, room, high, both);
      new_is = is
          ∙ ap₂ (λ (l r : List ℕ). l ++ r) (ap₂ take all front ∙ take-append_seam xs (drop (length xs) old))
          (two.new_is ∙ ap₂ (λ (n : ℕ) (l : List ℕ). take n ys ++ drop (length ys) l) room left
          ∙ ap (λ (l : List ℕ). take (length old - length xs) ys ++ l) (drop-drop (length ys) (length xs) old))
          ∙ sym (append_assoc xs (take (length old - length xs) ys) (drop (length xs + length ys) old))
          ∙ ap₂ (λ (l : List ℕ) (n : ℕ). l ++ drop n old)
          (sym (ap (λ (n : ℕ). take n (xs ++ ys)) split ∙ take-append-add xs ys (length old - length xs))) (sym both);
    }

pub put-both : (xs ys old mid rest new : List ℕ) (first second : ℕ) → IsPut xs old mid first
    → IsPut ys (drop first mid) rest second → new ≡ take first mid ++ rest
    → IsPut (xs ++ ys) old new (first + second)
put-both xs ys old mid rest new first second one two is = elim (cases_lt (length xs) (length old)) [
  | inl high ↦ put-second xs ys old mid rest new first second one two is high
  | inr low ↦ put-first xs ys old mid rest new first second one two is low
]

-- what is left of a text, written as far as it fits
pub put-left : (bytes old new : List ℕ) (from count : ℕ) → count ≡ min (length old) (length bytes - from)
    → new ≡ overlay (drop from bytes) old → IsPut (drop from bytes) old new count
put-left bytes old new from count is written = record {
  count_is = is ∙ ap (λ (n : ℕ). min (length old) n) (sym (length-drop from bytes));
  new_is = written;
}

-- a text written behind what is left of another
pub put-behind : (xs ys old mid front back rest : List ℕ) (from first second left : ℕ)
    → first ≡ min (length old) (length xs - from) → mid ≡ overlay (drop from xs) old
    → mid ≡ front ++ back → length front ≡ first → left ≡ from - length xs
    → IsPut (drop left ys) back rest second
    → IsPut (drop from (xs ++ ys)) old (front ++ rest) (first + second)
put-behind xs ys old mid front back rest from first second left is written split long same two =
    let head : take first mid ≡ front =
    ap₂ take (sym long) split ∙ take-append_seam front back in
    let tail : back ≡ drop first mid =
    sym (ap₂ drop (sym long) split ∙ drop-append_seam front back) in
    let behind = subst (λ (n : ℕ). IsPut (drop n ys) (drop first mid) rest second) same
    (subst (λ (l : List ℕ). IsPut (drop left ys) l rest second) tail two) in
    subst (λ (l : List ℕ). IsPut l old (front ++ rest) (first + second)) (sym (drop-both xs ys from))
    (put-both (drop from xs) (drop (from - length xs) ys) old mid rest (front ++ rest) first second
    (put-left xs old mid from first is written) behind (ap (λ (l : List ℕ). l ++ rest) (sym head)))

-- what fills the buffer fills it whatever stands behind
pub put-full : (xs more old new : List ℕ) (count : ℕ) → IsPut xs old new count → length old ≤ count
    → IsPut (xs ++ more) old new count
unfolding overlay
put-full xs more old new count put full =
    let long = length-append xs more in
    let low : length old ≤ length xs = omega (arith, put.count_is, full) in
    record {
      count_is = omega (arith, put.count_is, full, long);
      new_is = put.new_is ∙ ap₂ (λ (l r : List ℕ). l ++ r)
          (sym (take-append-le (length old) xs more low))
          (drop_all (length xs) old low ∙ sym (drop_all (length (xs ++ more)) old (omega (arith, low, long))));
    }

-- a buffer keeps its length
pub put-long : (xs old new : List ℕ) (count : ℕ) → IsPut xs old new count → length new ≡ length old
unfolding overlay
put-long xs old new count put =
    ap length put.new_is ∙ length-append (take (length old) xs) (drop (length xs) old)
    ∙ omega (arith, length-take (length old) xs, length-drop (length xs) old)
