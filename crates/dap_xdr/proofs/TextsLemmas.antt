-- The bytes of texts, one after the other.
use Rattle.std.proofs.Common.{◌≡◌, ℕ, suc, ◌+◌, ◌-◌, ◌<◌, ◌≤◌, List, [], ◌∷◌, ◌++◌, length, map, min, take, drop, refl, sym, ap, ap₂, subst, ◌∙◌, arith}
use Rattle.std.specs.Int.{w32, to_be_bytes}
use Rattle.std.specs.List.{flat_map}
use Rattle.std.proofs.Math.Seq.{drop-append-add, take-suc}
use Rattle.std.proofs.lemmas.Grind.{flat_map-append}
use Rattle.std.proofs.lemmas.List.{append-nil, drop_all, length-append, length-drop, length-map, map-append, take_all, take-append-drop}
use Rattle.dap_model.specs.Box.{box_len, box_of, index_at}
use Rattle.dap_model.specs.Xdr.{text_bytes, text_len, texts_bytes}
use Rattle.dap_model.proofs.BoxLemmas.{get_or-box_of, length-box_of}
use Rattle.dap_model.proofs.XdrLemmas.{length-text_bytes}
use Rattle.dap_xdr.specs.Marks.{texts_before, IsMark}
use Rattle.dap_number.specs.Overlay.{overlay, IsPut}
use Rattle.dap_xdr.specs.Portion.{text_in, texts_of, Portion}
use Rattle.dap_number.proofs.FrontLemmas.{drop-both, put-behind, put-full, put-long}

-- the texts so far are written, as far as they fit, and `left` bytes are still to be passed over
pub record TextsSoFar (n : Portion) (from filled element left : ℕ) (old now : List ℕ) : Type 0 where
  pub put_is : IsPut (drop from (texts_before n element)) old now filled
  pub left_is : left ≡ from - length (texts_before n element)

-- one text more
pub texts-more : (n : Portion) (element : ℕ) → element < box_len n.sent.slabs
    → texts_before n (element + 1)
    ≡ texts_before n element ++ text_bytes (text_in n (index_at n.sent.slabs element))
unfolding texts_before
texts-more n element within =
    let box = box_of n.sent.slabs in
    let w = text_in n in
    let long : element < length box = subst (λ (m : ℕ). element < m) (sym (length-box_of n.sent.slabs)) within in
    let next : element + 1 ≡ suc element = omega arith in
    let one : take (element + 1) box ≡ take element box ++ index_at n.sent.slabs element ∷ [] =
    ap (λ (m : ℕ). take m box) next ∙ take-suc box element [] long
    ∙ ap (λ (index : List ℕ). take element box ++ index ∷ []) (get_or-box_of n.sent.slabs element [] within) in
    ap (λ (l : List ℕ). to_be_bytes w32 (box_len n.sent.slabs) ++ l)
    (ap (λ (l : List (List ℕ)). flat_map text_bytes (map w l)) one
    ∙ ap (flat_map text_bytes) (map-append w (take element box) (index_at n.sent.slabs element ∷ []))
    ∙ flat_map-append text_bytes (map w (take element box)) (w (index_at n.sent.slabs element) ∷ [])
    ∙ ap (λ (l : List ℕ). flat_map text_bytes (map w (take element box)) ++ l)
    (append-nil (text_bytes (w (index_at n.sent.slabs element)))))

-- the texts from an element on
texts_behind : Portion → ℕ → List ℕ
texts_behind n element = flat_map text_bytes (map (text_in n) (drop element (box_of n.sent.slabs)))

-- all texts are those before an element and those from there on
texts-split : (n : Portion) (element : ℕ)
    → texts_of n ≡ texts_before n element ++ texts_behind n element
unfolding texts_before texts_behind texts_of texts_bytes
texts-split n element =
    let box = box_of n.sent.slabs in
    let w = text_in n in
    let many : length (map w box) ≡ box_len n.sent.slabs = length-map box w ∙ length-box_of n.sent.slabs in
    ap₂ (λ (m : ℕ) (l : List ℕ). to_be_bytes w32 m ++ l) many
    (ap (λ (l : List (List ℕ)). flat_map text_bytes (map w l)) (sym (take-append-drop element box))
    ∙ ap (flat_map text_bytes) (map-append w (take element box) (drop element box))
    ∙ flat_map-append text_bytes (map w (take element box)) (map w (drop element box)))

texts-none : (n : Portion) (element : ℕ) → box_len n.sent.slabs ≤ element
    → texts_behind n element ≡ []
unfolding texts_behind
texts-none n element past =
    ap (λ (l : List (List ℕ)). flat_map text_bytes (map (text_in n) l))
    (drop_all element (box_of n.sent.slabs) (subst (λ (m : ℕ). m ≤ element) (sym (length-box_of n.sent.slabs)) past))

-- those before the end are all
pub texts-whole : (n : Portion) (element : ℕ) → box_len n.sent.slabs ≤ element
    → texts_before n element ≡ texts_of n
texts-whole n element past =
    sym (texts-split n element
    ∙ ap (λ (l : List ℕ). texts_before n element ++ l) (texts-none n element past)
    ∙ append-nil (texts_before n element))

-- the texts behind the count are written behind it
pub texts-start : (n : Portion) (count old mid front back rest : List ℕ) (from first second left : ℕ)
    → count ≡ to_be_bytes w32 (box_len n.sent.slabs)
    → first ≡ min (length old) (length count - from) → mid ≡ overlay (drop from count) old
    → mid ≡ front ++ back → length front ≡ first → left ≡ from - 4
    → IsPut (drop (length (texts_before n 0) + left) (texts_of n)) back rest second
    → IsPut (drop from (texts_of n)) old (front ++ rest) (first + second)
unfolding texts_before
texts-start n count old mid front back rest from first second left is many written split long passed put =
    let none = texts_before n 0 in
    let behind = texts_behind n 0 in
    let all = texts-split n 0 in
    let head : count ≡ none = is ∙ sym (append-nil (to_be_bytes w32 (box_len n.sent.slabs))) in
    let four : 4 ≡ length none = refl in
    let reached : drop (length none + left) (texts_of n) ≡ drop left behind =
    ap (drop (length none + left)) all ∙ drop-append-add none behind left in
    subst (λ (l : List ℕ). IsPut (drop from l) old (front ++ rest) (first + second)) (sym all)
    (put-behind none behind old mid front back rest from first second left
    (many ∙ ap (λ (l : List ℕ). min (length old) (length l - from)) head)
    (written ∙ ap (λ (l : List ℕ). overlay (drop from l) old) head) split long
    (passed ∙ ap (λ (m : ℕ). from - m) four)
    (subst (λ (l : List ℕ). IsPut l back rest second) reached put))

-- what is left behind a mark is what is left of all
pub texts-from-mark : (n : Portion) (element offset from count : ℕ) (old new : List ℕ) → IsMark n element offset
    → offset ≤ from
    → IsPut (drop (length (texts_before n element) + (from - offset)) (texts_of n)) old new count
    → IsPut (drop from (texts_of n)) old new count
texts-from-mark n element offset from count old new mark passed put =
    let whole : length (texts_before n element) + (from - offset) ≡ from = omega (arith, mark.offset_is, passed) in
    subst (λ (m : ℕ). IsPut (drop m (texts_of n)) old new count) whole put

-- where a mark is passed over, all before it is
pub texts-marked : (n : Portion) (from element offset left : ℕ) (old : List ℕ) → IsMark n element offset → offset ≤ from
    → left ≡ from - offset → TextsSoFar n from 0 element left old old
unfolding overlay
texts-marked n from element offset left old mark passed left_is =
    let none : drop from (texts_before n element) ≡ [] =
    drop_all from (texts_before n element) (omega (arith, passed, mark.offset_is)) in
    record {
      put_is = subst (λ (l : List ℕ). IsPut l old old 0) (sym none)
          (record {
            count_is = omega arith;
            new_is = ap (λ (l : List ℕ). l ++ old) (sym (take_all (length old) [] (omega arith)));
          });
      left_is = left_is ∙ ap (λ (m : ℕ). from - m) mark.offset_is;
    }

-- the next text
pub texts-next : (n : Portion) (from filled element left count next_left : ℕ)
    (old now front back rest text : List ℕ)
    → TextsSoFar n from filled element left old now → element < box_len n.sent.slabs
    → text ≡ text_in n (index_at n.sent.slabs element)
    → now ≡ front ++ back → length front ≡ filled → IsPut (drop left (text_bytes text)) back rest count
    → next_left ≡ left - text_len (length text)
    → TextsSoFar n from (filled + count) (element + 1) next_left old (front ++ rest)
texts-next n from filled element left count next_left old now front back rest text so within is split long put
    passed =
    let before = texts_before n element in
    let more : before ++ text_bytes text ≡ texts_before n (element + 1) =
    ap (λ (l : List ℕ). before ++ text_bytes l) is ∙ sym (texts-more n element within) in
    let many : filled ≡ min (length old) (length before - from) =
    so.put_is.count_is ∙ ap (λ (m : ℕ). min (length old) m) (length-drop from before) in
    record {
      put_is = subst (λ (l : List ℕ). IsPut (drop from l) old (front ++ rest) (filled + count)) more
          (put-behind before (text_bytes text) old now front back rest from filled count left many so.put_is.new_is
          split long so.left_is put);
      left_is = omega (
        arith,
        passed,
        so.left_is,
        ap length more,
        length-append before (text_bytes text),
        length-text_bytes text,
      );
    }

-- where the buffer is full
pub texts-full : (n : Portion) (from filled element left : ℕ) (old now : List ℕ)
    → TextsSoFar n from filled element left old now → length now ≤ filled
    → IsPut (drop from (texts_of n)) old now filled
texts-full n from filled element left old now so full =
    let all = texts-split n element in
    subst (λ (l : List ℕ). IsPut l old now filled)
    (sym (ap (drop from) all ∙ drop-both (texts_before n element) (texts_behind n element) from))
    (put-full (drop from (texts_before n element)) _ old now filled so.put_is
    (subst (λ (m : ℕ). m ≤ filled) (put-long _ old now filled so.put_is) full))

-- where no text is left
pub texts-done : (n : Portion) (from filled element left : ℕ) (old now : List ℕ)
    → TextsSoFar n from filled element left old now → box_len n.sent.slabs ≤ element
    → IsPut (drop from (texts_of n)) old now filled
texts-done n from filled element left old now so past =
    subst (λ (l : List ℕ). IsPut (drop from l) old now filled) (texts-whole n element past) so.put_is
