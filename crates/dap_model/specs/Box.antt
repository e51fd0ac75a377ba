-- The elements that slabs pick out of an array (ESE-RFC-004, constraint expressions).
use Rattle.std.specs.Prelude.{◌≡◌, ℕ, ◌+◌, ◌-◌, ◌*◌, ◌/◌, ◌%◌, ◌≤◌, List, [], ◌∷◌, map, nat_le, ◌==◌, if◌then◌else◌}
use Rattle.std.specs.List.{flat_map, range_with_len}
use Rattle.nc_model.specs.Layout.{product}
use Rattle.dap_model.specs.declared.projection.Slab.{Slab}

-- how many indices a slab has: none where its stop is before its start
unfoldable pub slab_count : Slab → ℕ
slab_count slab = if nat_le slab.start slab.stop then (slab.stop - slab.start) / slab.stride + 1 else 0

-- the index that lies some strides past a slab's start
abbrev pub slab_index : Slab → ℕ → ℕ
slab_index slab strides = slab.start + strides * slab.stride

-- the indices of a slab: start, start + stride, and so on while at most stop
unfoldable pub slab_indices : Slab → List ℕ
slab_indices slab = map (slab_index slab) (range_with_len 0 (slab_count slab))

-- all index lists of slabs, in row-major order: the last index varies fastest
unfoldable pub box_of : List Slab → List (List ℕ)
box_of [] = [] ∷ []
box_of (slab ∷ slabs) = flat_map (λ (i : ℕ). map (λ (index : List ℕ). i ∷ index) (box_of slabs)) (slab_indices slab)

-- how many index lists there are
unfoldable pub box_len : List Slab → ℕ
box_len slabs = product (map slab_count slabs)

-- the index list of an element of a box, by division
unfoldable pub index_at : List Slab → ℕ → List ℕ
index_at [] element = []
index_at (slab ∷ slabs) element = slab_index slab (element / box_len slabs) ∷ index_at slabs (element % box_len slabs)

-- the slab of a whole dimension; it has no index where the size is 0
unfoldable pub whole_slab : ℕ → Slab
whole_slab size =
    if size == 0 then record { start = 1; stride = 1; stop = 0 } else record { start = 0; stride = 1; stop = size - 1 }

-- a slab's stride is 1 or more
abbrev pub HasStride : Slab → Type 0
HasStride slab = 1 ≤ slab.stride

-- a slab picks the indices from its start to its stop that lie a whole number of strides from its start
pub record Picks (slab : Slab) (index : ℕ) : Type 0 where
  pub from_start : slab.start ≤ index
  pub to_stop : index ≤ slab.stop
  pub strides : ℕ
  pub whole : index ≡ slab.start + strides * slab.stride

-- each slab picks the index of its dimension
abbrev pub EachPicks : List Slab → List ℕ → Type 0
EachPicks [] [] = Unit {0}
EachPicks (slab ∷ slabs) (i ∷ index) = Picks slab i × EachPicks slabs index
EachPicks slabs index = ⊥
