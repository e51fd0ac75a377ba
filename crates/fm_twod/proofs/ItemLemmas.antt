-- The bytes of values, one after the other.
use Rattle.std.proofs.Common.{◌≡◌, ℕ, suc, ◌+◌, ◌-◌, ◌<◌, ◌≤◌, List, [], ◌∷◌, ◌++◌, length, min, take, drop, refl, sym, ap, subst, ◌∙◌, arith}
use Rattle.std.specs.List.{flat_map}
use Rattle.std.proofs.Math.Seq.{take-suc}
use Rattle.std.proofs.lemmas.Grind.{flat_map-append}
use Rattle.std.proofs.lemmas.List.{append-nil, drop_all, length-append, length-drop, take_all, take-append-drop}
use Rattle.dap_model.specs.Box.{box_len, box_of, index_at}
use Rattle.dap_model.proofs.BoxLemmas.{get_or-box_of, length-box_of}
use Rattle.dap_number.specs.Overlay.{overlay, IsPut}
use Rattle.dap_number.proofs.FrontLemmas.{drop-both, put-behind, put-full, put-long}
use Rattle.fm_twod.specs.Chosen.{item_of, items_before, items_of, Chosen}

-- the values so far are written, as far as they fit, and `left` bytes are still to be passed over
pub record ItemsSoFar (c : Chosen) (from filled element left : ℕ) (old now : List ℕ) : Type 0 where
  pub put_is : IsPut (drop from (items_before c element)) old now filled
  pub left_is : left ≡ from - length (items_before c element)

-- before the first value there are no bytes
pub items-none : (c : Chosen) → length (items_before c 0) ≡ 0
unfolding items_before
items-none c = refl

-- one value more
pub items-more : (c : Chosen) (element : ℕ) → element < box_len c.sent.slabs
    → items_before c (element + 1) ≡ items_before c element ++ item_of c (index_at c.sent.slabs element)
unfolding items_before
items-more c element within =
    let box = box_of c.sent.slabs in
    let f = item_of c in
    let long : element < length box = subst (λ (m : ℕ). element < m) (sym (length-box_of c.sent.slabs)) within in
    let next : element + 1 ≡ suc element = omega arith in
    let one : take (element + 1) box ≡ take element box ++ index_at c.sent.slabs element ∷ [] =
    ap (λ (m : ℕ). take m box) next ∙ take-suc box element [] long
    ∙ ap (λ (index : List ℕ). take element box ++ index ∷ []) (get_or-box_of c.sent.slabs element [] within) in
    ap (flat_map f) one
    ∙ flat_map-append f (take element box) (index_at c.sent.slabs element ∷ [])
    ∙ ap (λ (l : List ℕ). flat_map f (take element box) ++ l) (append-nil (f (index_at c.sent.slabs element)))

-- the values from an element on
items_behind : Chosen → ℕ → List ℕ
items_behind c element = flat_map (item_of c) (drop element (box_of c.sent.slabs))

-- all values are those before an element and those from there on
items-split : (c : Chosen) (element : ℕ) → items_of c ≡ items_before c element ++ items_behind c element
unfolding items_before items_behind items_of
items-split c element =
    let box = box_of c.sent.slabs in
    ap (flat_map (item_of c)) (sym (take-append-drop element box))
    ∙ flat_map-append (item_of c) (take element box) (drop element box)

-- those before the end are all
pub items-whole : (c : Chosen) (element : ℕ) → box_len c.sent.slabs ≤ element → items_before c element ≡ items_of c
unfolding items_before items_of
items-whole c element past =
    ap (flat_map (item_of c))
    (take_all element (box_of c.sent.slabs)
    (subst (λ (m : ℕ). m ≤ element) (sym (length-box_of c.sent.slabs)) past))

-- before an element on all before it is passed over
pub items-first : (c : Chosen) (element passed : ℕ) (old : List ℕ)
    → ItemsSoFar c (length (items_before c element) + passed) 0 element passed old old
unfolding overlay
items-first c element passed old =
    let before = items_before c element in
    let none : drop (length before + passed) before ≡ [] =
    drop_all (length before + passed) before (omega arith) in
    record {
      put_is = subst (λ (l : List ℕ). IsPut l old old 0) (sym none) (record {
        count_is = omega arith;
        new_is = ap (λ (l : List ℕ). l ++ old) (sym (take_all (length old) [] (omega arith)));
      });
      left_is = omega arith;
    }

-- the next value
pub items-next : (c : Chosen) (from filled element left count len next_left : ℕ)
    (old now front back rest index : List ℕ)
    → ItemsSoFar c from filled element left old now → element < box_len c.sent.slabs
    → index ≡ index_at c.sent.slabs element
    → now ≡ front ++ back → length front ≡ filled → IsPut (drop left (item_of c index)) back rest count
    → len ≡ length (item_of c index) → next_left ≡ left - len
    → ItemsSoFar c from (filled + count) (element + 1) next_left old (front ++ rest)
items-next c from filled element left count len next_left old now front back rest index so within is split long put
    len_is passed =
    let before = items_before c element in
    let item = item_of c index in
    let more : before ++ item ≡ items_before c (element + 1) =
    ap (λ (i : List ℕ). before ++ item_of c i) is ∙ sym (items-more c element within) in
    let many : filled ≡ min (length old) (length before - from) =
    so.put_is.count_is ∙ ap (λ (m : ℕ). min (length old) m) (length-drop from before) in
    record {
      put_is = subst (λ (l : List ℕ). IsPut (drop from l) old (front ++ rest) (filled + count)) more
          (put-behind before item old now front back rest from filled count left many so.put_is.new_is split long
          so.left_is put);
      left_is = omega (arith, passed, len_is, so.left_is, ap length more, length-append before item);
    }

-- where the buffer is full
pub items-full : (c : Chosen) (from filled element left : ℕ) (old now : List ℕ)
    → ItemsSoFar c from filled element left old now → length now ≤ filled
    → IsPut (drop from (items_of c)) old now filled
items-full c from filled element left old now so full =
    subst (λ (l : List ℕ). IsPut l old now filled)
    (sym (ap (drop from) (items-split c element) ∙ drop-both (items_before c element) (items_behind c element) from))
    (put-full (drop from (items_before c element)) _ old now filled so.put_is
    (subst (λ (m : ℕ). m ≤ filled) (put-long _ old now filled so.put_is) full))

-- where no value is left
pub items-done : (c : Chosen) (from filled element left : ℕ) (old now : List ℕ)
    → ItemsSoFar c from filled element left old now → box_len c.sent.slabs ≤ element
    → IsPut (drop from (items_of c)) old now filled
items-done c from filled element left old now so past =
    subst (λ (l : List ℕ). IsPut (drop from l) old now filled) (items-whole c element past) so.put_is
