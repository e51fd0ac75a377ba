-- What a clause picks of a declaration, and the slabs that it gives to each part (ESE-RFC-004, constraint expressions).
use Rattle.std.specs.Prelude.{ℕ, zero, suc, List, [], ◌∷◌, map, take, drop, find, position, Bool, true, false, ◌==◌, if◌then◌else◌, Option, Some, None, slice_get}
use Rattle.std.specs.Option.{option_map_or}
use Rattle.std.specs.Str.{bytes_eq}
use Rattle.nc_model.specs.declared.header.Dim.{Dim}
use Rattle.dap_model.specs.Box.{whole_slab}
use Rattle.dap_model.specs.declared.declaration.Array.{Array}
use Rattle.dap_model.specs.declared.declaration.Decl.{Decl}
use Rattle.dap_model.specs.declared.declaration.Decl.TheVariants.{Plain, Grid, Structure}
use Rattle.dap_model.specs.declared.projection.Clause.{Clause}
use Rattle.dap_model.specs.declared.projection.Slab.{Slab}

-- the name of a declaration
abbrev pub name_of : Decl → List ℕ
name_of (Plain array) = array.name
name_of (Grid name array maps) = name
name_of (Structure name members) = name

-- the parts of a declaration: a Grid's array and then its maps, a Structure's members
abbrev pub parts_of : Decl → List Array
parts_of (Plain array) = array ∷ []
parts_of (Grid name array maps) = array ∷ maps
parts_of (Structure name members) = members

-- the parts that a path may name below a declaration; a plain array has none
abbrev pub named_parts : Decl → List Array
named_parts (Plain array) = []
named_parts (Grid name array maps) = array ∷ maps
named_parts (Structure name members) = members

-- the dimensions of a declaration: a Grid has those of its array, a Structure none
abbrev pub dims_of : Decl → List Dim
dims_of (Plain array) = array.dims
dims_of (Grid name array maps) = array.dims
dims_of (Structure name members) = []

-- the dimensions of a part, by its number
abbrev pub part_dims : Decl → ℕ → List Dim
part_dims decl part = option_map_or (λ array. array.dims) (slice_get (parts_of decl) part) []

-- what a clause picks of a declaration: nothing, all of it, or one part
pub data Picked : Type 0 where
  nothing : Picked
  every : Picked
  only : ℕ → Picked

-- the part of this name, the first one
unfoldable pub picked_part : Decl → List ℕ → Picked
picked_part decl name = option_map_or only (position (λ part. bytes_eq part.name name) (named_parts decl)) nothing

-- what the names of a path after the declaration's pick
abbrev pub picked_below : Decl → List (List ℕ) → Picked
picked_below decl [] = every
picked_below decl (name ∷ []) = picked_part decl name
picked_below decl (name ∷ next ∷ names) = nothing

-- what a path picks of a declaration
unfoldable pub picked_by : Decl → List (List ℕ) → Picked
picked_by decl [] = nothing
picked_by decl (name ∷ names) = if bytes_eq (name_of decl) name then picked_below decl names else nothing

-- whether anything is picked
abbrev pub is_picked : Picked → Bool
is_picked nothing = false
is_picked every = true
is_picked (only part) = true

-- whether all is picked
abbrev pub is_every : Picked → Bool
is_every nothing = false
is_every every = true
is_every (only part) = false

-- the whole of each dimension
unfoldable pub whole_slabs : List Dim → List Slab
whole_slabs dims = map (λ (dim : Dim). whole_slab dim.size) dims

-- these slabs, or the whole of each dimension where there are none
abbrev pub or_whole : List Dim → List Slab → List Slab
or_whole dims [] = whole_slabs dims
or_whole dims (slab ∷ slabs) = slab ∷ slabs

-- what goes to a part of the slabs of a declaration: all to its array, and to each map that of its dimension
abbrev pub spread : List Slab → ℕ → List Slab
spread slabs zero = slabs
spread slabs (suc map) = take 1 (drop map slabs)

-- the slabs for a part, where what is picked has it
abbrev pub slabs_for : Decl → List Slab → ℕ → Picked → Option (List Slab)
slabs_for decl slabs part nothing = None
slabs_for decl slabs part every = Some (or_whole (part_dims decl part) (spread slabs part))
slabs_for decl slabs part (only other) = if other == part then Some (or_whole (part_dims decl part) slabs) else None

-- the slabs that a clause gives to a part of a declaration, if it names the part
unfoldable pub given_by : Decl → Clause → ℕ → Option (List Slab)
given_by decl clause part = slabs_for decl clause.slabs part (picked_by decl clause.path)

-- the dimensions of what a path picks
abbrev pub picked_dims : Decl → Picked → List Dim
picked_dims decl nothing = []
picked_dims decl every = dims_of decl
picked_dims decl (only part) = part_dims decl part

-- the declaration that a path names or names a part of
unfoldable pub decl_named : List Decl → List (List ℕ) → Option Decl
decl_named decls path = find (λ decl. is_picked (picked_by decl path)) decls
