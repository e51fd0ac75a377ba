-- Moving an index list on by carries from its last index leads to the next index list of the box.
use Rattle.std.proofs.Common.{◌≡◌, ℕ, zero, suc, ◌+◌, ◌-◌, ◌*◌, ◌/◌, ◌%◌, ◌<◌, ◌≤◌, List, [], ◌∷◌, ◌++◌, length, get_or, slice_get, Some, None, map, take, drop, refl, sym, ap, ap₂, subst, ◌∙◌, append_assoc, append-nil, add-zero, inl, inr, arith}
use Rattle.std.specs.List.{All}
use Rattle.std.proofs.Math.ListN.{set}
use Rattle.std.proofs.Math.Seq.{drop-cons, take-length, take-suc, set-append_seam}
use Rattle.std.proofs.lemmas.List.{get_or-append-add, length-take-le, take-append-drop, drop_all}
use Rattle.std.proofs.lemmas.List.Elements.{All-tail, All-drop}
use Rattle.std.proofs.lemmas.Nat.{mul-add-lt}
use Rattle.std.proofs.lemmas.Option.{slice_get-get_or, slice_get_past}
use Rattle.std.proofs.lemmas.Bool.{cases_lt}
use Rattle.std.proofs.Math.Nat.{mul-le-mul_right, mul_comm}
use Rattle.nc_model.specs.Layout.{product}
use Rattle.dap_model.specs.declared.projection.Slab.{Slab}
use Rattle.dap_model.specs.Box.{slab_count, slab_index, box_of, box_len, index_at}
use Rattle.dap_model.proofs.BoxLemmas.{index_at-cons, split_of, length-box_of, get_or-box_of, length-index_at, slab_at}
use Rattle.dap_model.proofs.SlabLemmas.{count_cases, Picks-slab_index, strides_within}
use Rattle.dap_slab.specs.Walking.{HasIndex}
use Rattle.dap_slab.proofs.IndexLemmas.{box_len-pos, box_len-append, index_at-append}

-- an index list on its way to the next: its last indices start again, and the first are as they were
pub record Carried (front back : List Slab) (index : List ℕ) (next : ℕ) : Type 0 where
  pub element : ℕ
  pub within : element < box_len front
  pub whole : (element + 1) * box_len back ≡ next
  pub index_is : index ≡ index_at front element ++ index_at back 0

pub Carried-first : (slabs : List Slab) (index : List ℕ) (next : ℕ) → index ≡ index_at slabs (next - 1) → 1 ≤ next
    → next < box_len slabs → Carried slabs [] index next
unfolding box_len product index_at
Carried-first slabs index next same begun more = record {
  element = next - 1;
  within = omega arith;
  whole = omega arith;
  index_is = same ∙ sym (append-nil (index_at slabs (next - 1)));
}

-- where every index has started again, all index lists were given
pub Carried-last : (slabs : List Slab) (index : List ℕ) (next : ℕ) → next < box_len slabs → Carried [] slabs index next
    → ⊥
Carried-last slabs index next more s =
    let one : 1 ≤ s.element + 1 = omega arith in
    let least = mul-le-mul_right (box_len slabs) one in
    omega (arith, s.whole)

-- the last slab whose index hasn't started again, and that index
record AtSlab (front : List Slab) (slab : Slab) (back : List Slab) (index : List ℕ) (next : ℕ) : Type 0 where
  element : ℕ
  strides : ℕ
  within : element < box_len front
  below : strides < slab_count slab
  whole : (element * slab_count slab + (strides + 1)) * box_len back ≡ next
  index_is : index ≡ index_at front element ++ slab_index slab strides ∷ index_at back 0

one_slab : (slab : Slab) (strides : ℕ) → index_at (slab ∷ []) strides ≡ slab_index slab strides ∷ []
unfolding box_len product index_at
one_slab slab strides =
    ap (index_at (slab ∷ [])) (omega arith) ∙ index_at-cons slab [] strides 0 (omega arith)

one_count : (slab : Slab) → box_len (slab ∷ []) ≡ slab_count slab
unfolding box_len product
one_count slab = omega arith

at_slab : (front : List Slab) (slab : Slab) (back : List Slab) (index : List ℕ) (next : ℕ)
    → Carried (front ++ slab ∷ []) back index next → AtSlab front slab back index next
at_slab front slab back index next s =
    let count = slab_count slab in
    let product_is = box_len-append front (slab ∷ []) ∙ ap (λ (n : ℕ). box_len front * n) (one_count slab) in
    let split = split_of (box_len front) count s.element (subst (λ (n : ℕ). s.element < n) product_is s.within) in
    let element = s.element / count in
    let strides = s.element % count in
    let element_is : s.element ≡ element * box_len (slab ∷ []) + strides =
    sym split.whole ∙ ap (λ (n : ℕ). element * n + strides) (sym (one_count slab)) in
    let below : strides < box_len (slab ∷ []) = subst (λ (n : ℕ). strides < n) (sym (one_count slab)) split.second in
    let front_is : index_at (front ++ slab ∷ []) s.element ≡ index_at front element ++ slab_index slab strides ∷ [] =
    ap (index_at (front ++ slab ∷ [])) element_is
    ∙ index_at-append front (slab ∷ []) element strides split.first below
    ∙ ap (λ (l : List ℕ). index_at front element ++ l) (one_slab slab strides) in
    record {
      element = element;
      strides = strides;
      within = split.first;
      below = split.second;
      whole = ap (λ (n : ℕ). n * box_len back) (omega (arith, split.whole)) ∙ s.whole;
      index_is = s.index_is
          ∙ ap (λ (l : List ℕ). l ++ index_at back 0) front_is
          ∙ append_assoc (index_at front element) (slab_index slab strides ∷ []) (index_at back 0);
    }

-- where the slab has a further index, the next index list is found
moved_on : (front : List Slab) (slab : Slab) (back : List Slab) (index : List ℕ) (next : ℕ) → 0 < box_len back
    → (s : AtSlab front slab back index next) → s.strides + 1 < slab_count slab
    → index_at front s.element ++ slab_index slab (s.strides + 1) ∷ index_at back 0
    ≡ index_at (front ++ slab ∷ back) next
unfolding box_len product
moved_on front slab back index next some s further =
    let width = box_len back in
    let count = slab_count slab in
    let inner : (s.strides + 1) * width + 0 < count * width =
    subst (λ (n : ℕ). (s.strides + 1) * width + 0 < n) (mul_comm width count)
    (mul-add-lt (s.strides + 1) width 0 count further some) in
    let apart : (s.element * count + (s.strides + 1)) * width ≡ s.element * (count * width) +
    ((s.strides + 1) * width + 0) =
    grind arith in
    sym (ap (index_at (front ++ slab ∷ back)) (sym s.whole ∙ apart)
    ∙ index_at-append front (slab ∷ back) s.element ((s.strides + 1) * width + 0) s.within inner
    ∙ ap (λ (l : List ℕ). index_at front s.element ++ l) (index_at-cons slab back (s.strides + 1) 0 some))

-- where it has none, it starts again, and the slab before it is next
starts_again : (front : List Slab) (slab : Slab) (back : List Slab) (index : List ℕ) (next : ℕ) → 0 < box_len back
    → (s : AtSlab front slab back index next) → s.strides + 1 ≡ slab_count slab
    → Carried front (slab ∷ back) (index_at front s.element ++ slab.start ∷ index_at back 0) next
unfolding box_len product
starts_again front slab back index next some s last =
    let width = box_len back in
    let count = slab_count slab in
    let apart : (s.element + 1) * (count * width) ≡ (s.element * count + count) * width = grind arith in
    let none : 0 ≡ 0 * width + 0 = omega arith in
    let first : slab_index slab 0 ∷ index_at back 0 ≡ slab.start ∷ index_at back 0 =
    ap (λ (n : ℕ). n ∷ index_at back 0) (omega arith) in
    record {
      element = s.element;
      within = s.within;
      whole = apart ∙ ap (λ (n : ℕ). (s.element * count + n) * width) (sym last) ∙ s.whole;
      index_is =
          ap (λ (l : List ℕ). index_at front s.element ++ l)
          (sym (ap (index_at (slab ∷ back)) none ∙ index_at-cons slab back 0 0 some ∙ first));
    }

-- one turn at a slab: its index lies within it; if a stride further too, that is the next index list, and else the
-- slab starts again
pub record Turn (slabs : List Slab) (index : List ℕ) (next at : ℕ) (slab : Slab) (here : ℕ) : Type 0 where
  pub has : HasIndex slab
  pub low : slab.start ≤ here
  pub high : here ≤ slab.stop
  pub moved : here + slab.stride ≤ slab.stop → set index at (here + slab.stride) ≡ index_at slabs next
  pub again : slab.stop < here + slab.stride
      → Carried (take at slabs) (drop at slabs) (set index at slab.start) next

-- a turn where the slabs are those before one, that one, and those after it
turn_at : (front : List Slab) (slab : Slab) (back : List Slab) (index : List ℕ) (next : ℕ) → HasIndex slab
    → 0 < box_len back
    → AtSlab front slab back index next
    → (here : ℕ) × (get_or index (length front) 0 ≡ here) × (slab.start ≤ here) × (here ≤ slab.stop)
    × (here + slab.stride ≤ slab.stop → set index (length front) (here + slab.stride) ≡ index_at
    (front ++ slab ∷ back) next)
    × (slab.stop < here + slab.stride → Carried front (slab ∷ back) (set index (length front) slab.start) next)
turn_at front slab back index next has some s =
    let here = slab_index slab s.strides in
    let picks = Picks-slab_index slab s.strides has.stride s.below in
    let firsts = index_at front s.element in
    let lasts = index_at back 0 in
    let many : length firsts ≡ length front = length-index_at front s.element in
    let further : slab_index slab (s.strides + 1) ≡ here + slab.stride = grind arith in
    let read : get_or index (length front) 0 ≡ here =
    ap₂ (λ (l : List ℕ) (n : ℕ). get_or l n 0) s.index_is (sym many ∙ sym (add-zero (length firsts)))
    ∙ get_or-append-add firsts (here ∷ lasts) 0 0 in
    let written : (n : ℕ) → set index (length front) n ≡ firsts ++ n ∷ lasts = λ (n : ℕ).
    ap₂ (λ (l : List ℕ) (k : ℕ). set l k n) s.index_is (sym many) ∙ set-append_seam firsts here lasts n in (
      here,
      read,
      picks.from_start,
      picks.to_stop,
      λ fits.
          let high : slab_index slab (s.strides + 1) ≤ slab.stop = omega (arith, further) in
          let below = strides_within slab (slab_index slab (s.strides + 1)) has.stride
          (record {
            from_start = omega
                (arith, further, picks.from_start);
            to_stop = high;
            strides = s.strides + 1;
            whole = refl;
          }) in
          written (here + slab.stride)
          ∙ ap (λ (n : ℕ). firsts ++ n ∷ lasts) (sym further)
          ∙ moved_on front slab back index next some s below,
      λ past.
          let last : s.strides + 1 ≡ slab_count slab = elim (count_cases slab) [
            | inl t ↦
                absurd_or_last slab s.strides has s.below (subst (λ (n : ℕ). slab.stop < n) (sym further) past)
            | inr f ↦ absurd (omega (arith, f.0, has.ordered))
          ] in
          subst (λ (l : List ℕ). Carried front (slab ∷ back) l next) (sym (written slab.start))
          (starts_again front slab back index next some s last),
    ) where
      absurd_or_last : (slab : Slab) (strides : ℕ) → HasIndex slab → strides < slab_count slab
          → slab.stop < slab_index slab (strides + 1) → strides + 1 ≡ slab_count slab
      absurd_or_last slab strides has below past = elim (cases_lt (strides + 1) (slab_count slab)) [
        | inl further ↦ absurd (omega (arith, (Picks-slab_index slab (strides + 1) has.stride further).to_stop))
        | inr last ↦ omega arith
      ]

-- one turn of the loop: where all slabs behind the one at an index have started again, so has it, or it is moved on
pub Turn-carried : (slabs : List Slab) (index : List ℕ) (next at : ℕ) → All HasIndex slabs → at < length slabs
    → Carried (take (suc at) slabs) (drop (suc at) slabs) index next
    → Turn slabs index next at (slab_at slabs at) (get_or index at 0)
Turn-carried slabs index next at each within s =
    let slab = slab_at slabs at in
    let front = take at slabs in
    let back = drop (suc at) slabs in
    let has = each at (record { start = 0; stride = 0; stop = 0 }) within in
    let some = box_len-pos back (All-drop HasIndex (suc at) slabs each) in
    let count : length front ≡ at = length-take-le at slabs (omega arith) in
    let rest : drop at slabs ≡ slab ∷ back = drop-cons slabs at _ within in
    let carried : Carried (front ++ slab ∷ []) back index next =
    subst (λ (l : List Slab). Carried l back index next) (take-suc slabs at _ within) s in
    let whole : front ++ slab ∷ back ≡ slabs =
    ap (λ (l : List Slab). front ++ l) (sym rest) ∙ take-append-drop at slabs in
    let turn = turn_at front slab back index next has some (at_slab front slab back index next carried) in
    let same : get_or index at 0 ≡ turn.0 = ap (λ (n : ℕ). get_or index n 0) (sym count) ∙ turn.1 in
    record {
      has = has;
      low = subst (λ (n : ℕ). slab.start ≤ n) (sym same) turn.2;
      high = subst (λ (n : ℕ). n ≤ slab.stop) (sym same) turn.3;
      moved = λ fits.
          ap₂ (λ (n k : ℕ). set index n (k + slab.stride)) (sym count) same
          ∙ turn.4 (omega (arith, same))
          ∙ ap (λ (l : List Slab). index_at l next) whole;
      again = λ past.
          subst (λ (n : ℕ). Carried front (drop at slabs) (set index n slab.start) next) count
          (subst (λ (l : List Slab). Carried front l (set index (length front) slab.start) next) (sym rest)
          (turn.5 (omega (arith, same))));
    }

-- the same, where the index is one before
pub turn_before : (slabs : List Slab) (index : List ℕ) (next at : ℕ) → All HasIndex slabs → 0 < at → at ≤ length slabs
    → Carried (take at slabs) (drop at slabs) index next
    → Turn slabs index next (at - 1) (slab_at slabs (at - 1)) (get_or index (at - 1) 0)
turn_before slabs index next zero each some within s = absurd (omega arith)
turn_before slabs index next (suc at) each some within s =
    let same : at ≡ suc at - 1 = omega arith in
    subst (λ (n : ℕ). Turn slabs index next n (slab_at slabs n) (get_or index n 0)) same
    (Turn-carried slabs index next at each (omega arith) s)

-- before the first turn no slab has started again
pub Carried-begun : (slabs : List Slab) (index : List ℕ) (next : ℕ) → index ≡ index_at slabs (next - 1) → 1 ≤ next
    → next < box_len slabs → Carried (take (length slabs) slabs) (drop (length slabs) slabs) index next
Carried-begun slabs index next same begun more =
    subst (λ (l : List Slab). Carried l (drop (length slabs) slabs) index next) (sym (take-length slabs))
    (subst (λ (l : List Slab). Carried slabs l index next) (sym (drop_all (length slabs) slabs (omega arith)))
    (Carried-first slabs index next same begun more))

-- the first index list has the start of each slab
pub index_at-first : (slabs : List Slab) → All HasIndex slabs
    → index_at slabs 0 ≡ map (λ (slab : Slab). slab.start) slabs
unfolding index_at
index_at-first [] each = refl
index_at-first (slab ∷ slabs) each =
    let others = All-tail HasIndex slab slabs each in
    let none : 0 ≡ 0 * box_len slabs + 0 = omega arith in
    ap (index_at (slab ∷ slabs)) none
    ∙ index_at-cons slab slabs 0 0 (box_len-pos slabs others)
    ∙ ap₂ (λ (n : ℕ) (l : List ℕ). n ∷ l) (omega arith) (index_at-first slabs others)

-- the index list that was given last stands before those still to come
pub given_last : (slabs : List Slab) (given : ℕ) (index : List ℕ) → 1 ≤ given → given ≤ box_len slabs
    → index ≡ index_at slabs (given - 1) → slice_get (box_of slabs) (given - 1) ≡ Some index
given_last slabs given index begun within same =
    let below : given - 1 < length (box_of slabs) = omega (arith, length-box_of slabs) in
    slice_get-get_or (box_of slabs) (given - 1) [] below
    ∙ ap Some (get_or-box_of slabs (given - 1) [] (omega arith) ∙ sym same)

-- nothing stands behind the last index list
pub all_given : (slabs : List Slab) (given : ℕ) → box_len slabs ≤ given → slice_get (box_of slabs) given ≡ None
all_given slabs given past = slice_get_past (box_of slabs) given (omega (arith, length-box_of slabs))
