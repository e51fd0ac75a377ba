-- The index list of an element, one slab after the other.
use Rattle.std.proofs.Common.{◌≡◌, ℕ, ◌+◌, ◌*◌, ◌/◌, ◌%◌, ◌<◌, ◌≤◌, List, ◌∷◌, ◌++◌, length, set, take, drop, refl, sym, ap, subst, ◌∙◌, arith}
use Rattle.std.proofs.Math.Nat.{div-eq_of_eq-mul_right, le-mul_of_pos_right}
use Rattle.std.proofs.lemmas.List.{drop_more, take_more_set, append_assoc}
use Rattle.nc_model.specs.Layout.{product}
use Rattle.dap_model.specs.declared.projection.Slab.{Slab}
use Rattle.dap_model.specs.Box.{box_len, index_at, slab_count, slab_index, HasStride}
use Rattle.dap_model.proofs.BoxLemmas.{split_of, slab_at}
use Rattle.dap_model.proofs.SlabLemmas.{Picks-slab_index}

-- an index of a slab is at most its stop
pub index-most : (slab : Slab) (strides : ℕ) → HasStride slab → strides < slab_count slab
    → slab.start + strides * slab.stride ≤ slab.stop
index-most slab strides some within = (Picks-slab_index slab strides some within).to_stop

pub ruleset indices = (index-most)

-- one turn: the number of index lists behind a slab, the strides in the slab, and the element behind it
pub record ElementTurn (slabs : List Slab) (at others rest : ℕ) (index : List ℕ) (next : ℕ) : Type 0 where
  pub some : 0 < slab_count (slab_at slabs at)
  pub few : slab_count (slab_at slabs at) ≤ others
  pub positive : 0 < next
  pub same : next ≡ box_len (drop (at + 1) slabs)
  pub strides : rest / next < slab_count (slab_at slabs at)
  pub left : rest % next < next
  pub again : take (at + 1) (set index at (slab_index (slab_at slabs at) (rest / next)))
      ++ index_at (drop (at + 1) slabs) (rest % next)
      ≡ take at index ++ index_at (drop at slabs) rest

pub element_turn : (slabs : List Slab) (at others rest : ℕ) (index : List ℕ) (count : ℕ) → at < length slabs
    → length index ≡ length slabs → others ≡ box_len (drop at slabs) → rest < others
    → count ≡ slab_count (slab_at slabs at)
    → ElementTurn slabs at others rest index (others / count)
unfolding box_len product index_at
element_turn slabs at others rest index count within long same below is =
    let slab = slab_at slabs at in
    let tail = drop (at + 1) slabs in
    let width = box_len tail in
    let split : drop at slabs ≡ slab ∷ tail = drop_more slabs at _ within in
    let whole : others ≡ slab_count slab * width = same ∙ ap box_len split in
    let parts = split_of (slab_count slab) width rest (subst (λ (n : ℕ). rest < n) whole below) in
    let some : 0 < slab_count slab = omega (arith, parts.first) in
    let positive : 0 < width = omega (arith, parts.second) in
    let most = le-mul_of_pos_right (slab_count slab) positive in
    let room : at < length index = omega (arith, long, within) in
    let next : width ≡ others / count =
    sym (ap (λ (n : ℕ). others / n) is ∙ div-eq_of_eq-mul_right some whole) in
    subst (ElementTurn slabs at others rest index) next (record {
      some = some;
      few = omega (arith, most, whole);
      positive = positive;
      same = refl;
      strides = parts.first;
      left = parts.second;
      again =
          ap (λ (l : List ℕ). l ++ index_at tail (rest % width)) (take_more_set index at _ room)
          ∙ append_assoc (take at index) _ _
          ∙ ap (λ (l : List Slab). take at index ++ index_at l rest) (sym split);
    })
