-- The indices of a slab: how many there are, which they are, and that they rise.
use Rattle.std.proofs.Common.{◌≡◌, ◌⊎◌, ℕ, zero, suc, ◌+◌, ◌-◌, ◌*◌, ◌/◌, ◌<◌, ◌≤◌, length, get_or, refl, sym, ap, zero-add, subst, ◌∙◌, arith, inl, inr, ◌↔◌}
use Rattle.std.specs.List.{Contains, range_with_len}
use Rattle.std.specs.List.Sorted.{IsStrictlyIncreasing}
use Rattle.std.proofs.lemmas.Bool.{cond-true, cond-false, ne_eqb}
use Rattle.std.proofs.lemmas.List.FromFn.{length-map-range_with_len, length-range_with_len, get_or-map-range_with_len, get_or-range_with_len}
use Rattle.std.proofs.Math.Nat.{mul-le-mul_right}
use Rattle.std.proofs.lemmas.Bool.Decides.{leb_tells}
use Rattle.std.proofs.lemmas.Grind.{same_number_lists}
use Rattle.std.proofs.lemmas.Nat.{div-add-mod', le-div, same_from_place}
use Rattle.dap_model.specs.declared.projection.Slab.{Slab}
use Rattle.dap_model.specs.Box.{HasStride, slab_count, slab_index, slab_indices, whole_slab, Picks}

pub length-slab_indices : (slab : Slab) → length (slab_indices slab) ≡ slab_count slab
unfolding slab_indices
length-slab_indices slab = length-map-range_with_len (slab_index slab) 0 (slab_count slab)

-- the index that lies some strides past a slab's start
pub get_or-slab_indices : (slab : Slab) (strides d : ℕ) → strides < slab_count slab
    → get_or (slab_indices slab) strides d ≡ slab_index slab strides
unfolding slab_indices
get_or-slab_indices slab strides d within =
    get_or-map-range_with_len (slab_index slab) 0 (slab_count slab) strides strides d within (omega arith)

-- other strides lead to another index
pub same_strides : (slab : Slab) (m n : ℕ) → HasStride slab → slab_index slab m ≡ slab_index slab n → m ≡ n
same_strides slab m n some same =
    let products : m * slab.stride ≡ n * slab.stride = omega arith in
    (same_from_place m 0 n 0 slab.stride (omega arith) (omega arith) (omega arith)).0

-- how many indices there are, by whether the stop is before the start
pub count_cases : (slab : Slab)
    → ((slab.start ≤ slab.stop) × (slab_count slab ≡ (slab.stop - slab.start) / slab.stride + 1))
    ⊎ ((slab.stop < slab.start) × (slab_count slab ≡ 0))
unfolding slab_count
count_cases slab = elim (leb_tells slab.start slab.stop) [
  | inl t ↦ inl (t.1, cond-true _ _ _ t.0)
  | inr f ↦ inr (f.1, cond-false _ _ _ f.0)
]

-- an index of a slab is picked
pub Picks-slab_index : (slab : Slab) (strides : ℕ) → HasStride slab → strides < slab_count slab
    → Picks slab (slab_index slab strides)
Picks-slab_index slab strides some within = elim (count_cases slab) [
  | inl t ↦
      let few : strides ≤ (slab.stop - slab.start) / slab.stride = omega arith in
      let below = mul-le-mul_right slab.stride few in
      let split = div-add-mod' (slab.stop - slab.start) slab.stride in
      let start : slab.start ≤ slab.stop = t.0 in
      record { from_start = omega arith; to_stop = omega arith; strides = strides; whole = refl }
  | inr f ↦ absurd (omega (arith, f.1))
]

-- what a slab picks lies fewer strides past its start than the slab has indices
pub strides_within : (slab : Slab) (index : ℕ) → HasStride slab → (picks : Picks slab index)
    → picks.strides < slab_count slab
strides_within slab index some picks = elim (count_cases slab) [
  | inl t ↦
      let low = picks.from_start in
      let high = picks.to_stop in
      let whole = picks.whole in
      let fits = le-div picks.strides (slab.stop - slab.start) slab.stride (omega arith) (omega arith) in
      omega (arith, t.1)
  | inr f ↦ absurd (omega (arith, picks.from_start, picks.to_stop, f.0))
]

pub Contains-slab_indices : (slab : Slab) (index : ℕ) → HasStride slab
    → Contains (slab_indices slab) index ↔ Picks slab index
Contains-slab_indices slab index some = (
  λ found.
      let within : found.0 < slab_count slab = subst (λ (n : ℕ). found.0 < n) (length-slab_indices slab) found.1 in
      subst (Picks slab) (sym (get_or-slab_indices slab found.0 index within) ∙ found.2)
      (Picks-slab_index slab found.0 some within),
  λ picks.
      let within = strides_within slab index some picks in (
        picks.strides,
        subst (λ (n : ℕ). picks.strides < n)
            (sym (length-slab_indices slab)) within,
        get_or-slab_indices slab picks.strides index within ∙ sym picks.whole,
      ),
)

-- the indices of a slab rise
pub IsStrictlyIncreasing-slab_indices : (slab : Slab) → HasStride slab → IsStrictlyIncreasing (slab_indices slab)
IsStrictlyIncreasing-slab_indices slab some = λ k more.
    let many = length-slab_indices slab in
    let first = get_or-slab_indices slab k 0 (omega arith) in
    let second = get_or-slab_indices slab (k + 1) 0 (omega arith) in
    let step : (k + 1) * slab.stride ≡ k * slab.stride + slab.stride = grind arith in
    omega arith

-- the slab of a dimension with an index
pub whole_slab-some : (last : ℕ) → whole_slab (suc last) ≡ record { start = 0; stride = 1; stop = last }
unfolding whole_slab
whole_slab-some last =
    cond-false _ _ _ (ne_eqb (suc last) 0 (omega arith))
    ∙ ap (λ (n : ℕ). record { start = 0; stride = 1; stop = n }) (omega arith)

-- a whole slab has each index of its dimension
pub slab_count-whole : (size : ℕ) → slab_count (whole_slab size) ≡ size
unfolding slab_count whole_slab
slab_count-whole zero = refl
slab_count-whole (suc n) = grind arith

slab_index-whole : (size strides : ℕ) → strides < size → slab_index (whole_slab size) strides ≡ strides
unfolding whole_slab
slab_index-whole zero strides within = absurd (omega arith)
slab_index-whole (suc n) strides within = grind arith

pub slab_indices-whole : (size : ℕ) → slab_indices (whole_slab size) ≡ range_with_len 0 size
slab_indices-whole size = same_number_lists _ _
    (length-slab_indices (whole_slab size) ∙ slab_count-whole size ∙ sym (length-range_with_len 0 size))
    (λ strides within.
    let below : strides < slab_count (whole_slab size) =
    subst (λ (n : ℕ). strides < n) (length-slab_indices (whole_slab size)) within in
    let inside : strides < size = subst (λ (n : ℕ). strides < n) (slab_count-whole size) below in
    get_or-slab_indices (whole_slab size) strides 0 below ∙ slab_index-whole size strides inside
    ∙ sym (get_or-range_with_len 0 size strides 0 inside ∙ zero-add strides))
