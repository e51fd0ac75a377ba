-- What contracts see of a walk over the index lists of slabs (ESE-RFC-004, constraint expressions).
use Rattle.std.specs.Prelude.{ℕ, ◌+◌, ◌≤◌, List, nat_lt, if◌then◌else◌}
use Rattle.dap_model.specs.Box.{box_len}
use Rattle.dap_model.specs.declared.projection.Slab.{Slab}

-- a slab has a stride, and its start is an index
pub record HasIndex (slab : Slab) : Type 0 where
  pub stride : 1 ≤ slab.stride
  pub ordered : slab.start ≤ slab.stop

-- the slabs of a walk, and how many of their index lists it has given
pub record Walking : Type 0 where
  pub slabs : List Slab
  pub given : ℕ

-- the walk after it is asked for the next index list: it stays as it is once all were given
abbrev pub after : Walking → Walking
after walk = if nat_lt walk.given (box_len walk.slabs) then record walk { given = walk.given + 1 } else walk
