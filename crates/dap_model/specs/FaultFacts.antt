-- What a fault of a clause says of the dataset (ESE-RFC-004, constraint expressions).
use Rattle.std.specs.Prelude.{◌≡◌, ◌≢◌, ◌⊎◌, ℕ, ◌<◌, ◌≤◌, List, [], ◌∷◌, length, slice_get, Contains, Some}
use Rattle.std.specs.List.{join_with_byte}
use Rattle.nc_model.specs.declared.header.Dim.{Dim}
use Rattle.dap_model.specs.Picking.{name_of, named_parts, parts_of, dims_of, given_by}
use Rattle.dap_model.specs.ProjectionFacts.{Names}
use Rattle.dap_model.specs.declared.declaration.Array.{Array}
use Rattle.dap_model.specs.declared.declaration.Decl.{Decl}
use Rattle.dap_model.specs.declared.fault.ProjectFault.{ProjectFault}
use Rattle.dap_model.specs.declared.fault.ProjectFault.TheVariants.{NoSuchVariable, SlabRank, SlabRange, SlabConflict}
use Rattle.dap_model.specs.declared.projection.Clause.{Clause}
use Rattle.dap_model.specs.declared.projection.Slab.{Slab}

-- the path of a clause as it is written: its names with dots between them
abbrev pub written_path : Clause → List ℕ
written_path clause = join_with_byte 46 clause.path

-- the first declaration of a dataset that a path names, or names a part of
pub record IsNamedBy (decls : List Decl) (path : List (List ℕ)) (decl : Decl) : Type 0 where
  pub index : ℕ
  pub decl_is : slice_get decls index ≡ Some decl
  pub names : Names decl path
  pub first : (before : ℕ) (other : Decl) → before < index → slice_get decls before ≡ Some other → Names other path → ⊥

-- the first of some parts that has a name
pub record IsPartNamed (parts : List Array) (name : List ℕ) (part : Array) : Type 0 where
  pub index : ℕ
  pub part_is : slice_get parts index ≡ Some part
  pub name_is : part.name ≡ name
  pub first : (before : ℕ) (other : Array) → before < index → slice_get parts before ≡ Some other → other.name ≢ name

-- the dimensions of what a path names: those of the declaration, or those of its part of a name
abbrev pub HasDims : Decl → List (List ℕ) → List Dim → Type 0
HasDims decl path dims =
    ((path ≡ name_of decl ∷ []) × (dims ≡ dims_of decl))
    ⊎ ((part : Array)
    × (path ≡ name_of decl ∷ part.name ∷ [])
    × IsPartNamed (named_parts decl) part.name part
    × (dims ≡ part.dims))

-- a clause has no slab, or one for each dimension
abbrev pub HasRank : List Dim → Clause → Type 0
HasRank dims clause = (clause.slabs ≡ []) ⊎ (length clause.slabs ≡ length dims)

-- a slab has a stride and an index, and its indices lie below a size
pub record LiesBelow (size : ℕ) (slab : Slab) : Type 0 where
  pub stride : 1 ≤ slab.stride
  pub ordered : slab.start ≤ slab.stop
  pub below : slab.stop < size

-- each slab lies within the dimension at its index
abbrev pub LieWithin : List Dim → List Slab → Type 0
LieWithin dims slabs =
    (index : ℕ) (dim : Dim) (slab : Slab) → slice_get dims index ≡ Some dim → slice_get slabs index ≡ Some slab
    → LiesBelow dim.size slab

-- the slab at an index doesn't lie within its dimension, which has this size, and each before it does
pub record IsFirstOutside (dims : List Dim) (slabs : List Slab) (index size : ℕ) : Type 0 where
  pub dim : Dim
  pub slab : Slab
  pub dim_is : slice_get dims index ≡ Some dim
  pub slab_is : slice_get slabs index ≡ Some slab
  pub size_is : dim.size ≡ size
  pub outside : LiesBelow size slab → ⊥
  pub others : (before : ℕ) (dim : Dim) (slab : Slab) → before < index
      → slice_get dims before ≡ Some dim → slice_get slabs before ≡ Some slab → LiesBelow dim.size slab

-- an earlier clause gives a part of the declaration other slabs than this one does
pub record Conflicts (decl : Decl) (earlier : List Clause) (clause : Clause) : Type 0 where
  pub other : Clause
  pub part : ℕ
  pub first : List Slab
  pub second : List Slab
  pub other_is : Contains earlier other
  pub within : part < length (parts_of decl)
  pub first_is : given_by decl other part ≡ Some first
  pub second_is : given_by decl clause part ≡ Some second
  pub apart : first ≢ second

-- nothing is named
pub record IsUnknown (decls : List Decl) (clause : Clause) (name : List ℕ) : Type 0 where
  pub name_is : name ≡ written_path clause
  pub none : (decl : Decl) → Contains decls decl → Names decl clause.path → ⊥

-- what is named has `rank` dimensions, and `got` slabs stand there
pub record HasOtherRank (decls : List Decl) (clause : Clause) (name : List ℕ) (got rank : ℕ) : Type 0 where
  pub decl : Decl
  pub dims : List Dim
  pub named : IsNamedBy decls clause.path decl
  pub has : HasDims decl clause.path dims
  pub name_is : name ≡ written_path clause
  pub got_is : got ≡ length clause.slabs
  pub rank_is : rank ≡ length dims
  pub some : got ≢ 0
  pub apart : got ≢ rank

-- there are as many slabs as dimensions, and the slab at the index is the first outside
pub record IsOutOfRange (decls : List Decl) (clause : Clause) (name : List ℕ) (index size : ℕ) : Type 0 where
  pub decl : Decl
  pub dims : List Dim
  pub named : IsNamedBy decls clause.path decl
  pub has : HasDims decl clause.path dims
  pub name_is : name ≡ written_path clause
  pub rank : HasRank dims clause
  pub outside : IsFirstOutside dims clause.slabs index size

-- the slabs fit what is named, and an earlier clause gives a part of the declaration other ones
pub record IsInConflict (decls : List Decl) (earlier : List Clause) (clause : Clause) (name : List ℕ) : Type 0 where
  pub decl : Decl
  pub dims : List Dim
  pub named : IsNamedBy decls clause.path decl
  pub has : HasDims decl clause.path dims
  pub name_is : name ≡ name_of decl
  pub rank : HasRank dims clause
  pub range : LieWithin dims clause.slabs
  pub conflict : Conflicts decl earlier clause

-- the slabs fit what is named, and no earlier clause gives a part of the declaration other ones
pub record HasNoClauseFault (decls : List Decl) (earlier : List Clause) (clause : Clause) : Type 0 where
  pub decl : Decl
  pub dims : List Dim
  pub named : IsNamedBy decls clause.path decl
  pub has : HasDims decl clause.path dims
  pub rank : HasRank dims clause
  pub range : LieWithin dims clause.slabs
  pub agrees : Conflicts decl earlier clause → ⊥

-- what a fault of a clause says, by its case
abbrev pub HasClauseFault : List Decl → List Clause → Clause → ProjectFault → Type 0
HasClauseFault decls earlier clause (NoSuchVariable name) = IsUnknown decls clause name
HasClauseFault decls earlier clause (SlabRank name got rank) = HasOtherRank decls clause name got rank
HasClauseFault decls earlier clause (SlabRange name index size) = IsOutOfRange decls clause name index size
HasClauseFault decls earlier clause (SlabConflict name) = IsInConflict decls earlier clause name
