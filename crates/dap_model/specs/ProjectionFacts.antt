-- What a reader wants to know of a projection: which parts are sent, in which order, and that their slabs fit.
use Rattle.std.specs.Prelude.{◌≡◌, ◌≢◌, ◌⊎◌, ℕ, ◌<◌, ◌≤◌, List, [], ◌∷◌, length, map, take, slice_get, AllPairs, Contains, Some, None}
use Rattle.std.specs.List.{AllZip}
use Rattle.nc_model.specs.declared.header.Dim.{Dim}
use Rattle.dap_model.specs.Box.{HasStride}
use Rattle.dap_model.specs.ClauseFaults.{clause_fault}
use Rattle.dap_model.specs.Picking.{name_of, named_parts, parts_of, part_dims, whole_slabs, given_by}
use Rattle.dap_model.specs.Projection.{cut_array}
use Rattle.dap_model.specs.declared.declaration.Array.{Array}
use Rattle.dap_model.specs.declared.declaration.Decl.{Decl}
use Rattle.dap_model.specs.declared.declaration.Decl.TheVariants.{Plain, Grid, Structure}
use Rattle.dap_model.specs.declared.fault.ProjectFault.{ProjectFault}
use Rattle.dap_model.specs.declared.projection.Clause.{Clause}
use Rattle.dap_model.specs.declared.projection.Sent.{Sent}
use Rattle.dap_model.specs.declared.projection.Slab.{Slab}

-- no two declarations have one name
abbrev pub AreNamedApart : List Decl → Type 0
AreNamedApart decls = AllPairs (λ (decl other : Decl). name_of decl ≢ name_of other) decls

-- a path names a declaration, or a part of one that isn't a plain array
abbrev pub Names : Decl → List (List ℕ) → Type 0
Names decl path =
    (path ≡ name_of decl ∷ [])
    ⊎ ((part : Array) × Contains (named_parts decl) part × (path ≡ name_of decl ∷ part.name ∷ []))

-- some clause names the declaration of this name alone, or there is no clause
abbrev pub NamesAlone : List Clause → List ℕ → Type 0
NamesAlone clauses name = (clauses ≡ []) ⊎ ((clause : Clause) × Contains clauses clause × (clause.path ≡ name ∷ []))

-- a Grid with as many maps
pub record IsGridOf (name : List ℕ) (maps : List Array) (sent : Decl) : Type 0 where
  pub array : Array
  pub others : List Array
  pub count : length others ≡ length maps
  pub sent_is : sent ≡ Grid name array others

-- a Grid has one map for each dimension of its array, over that dimension alone
abbrev pub IsGridded : Decl → Type 0
IsGridded (Plain array) = Unit {0}
IsGridded (Grid name array maps) = map (λ (part : Array). part.dims) maps ≡ map (λ (dim : Dim). dim ∷ []) array.dims
IsGridded (Structure name members) = Unit {0}

-- a part stands in an earlier declaration, or earlier in the same one
abbrev pub StandsBefore : Sent → Sent → Type 0
StandsBefore sent other = (sent.decl < other.decl) ⊎ ((sent.decl ≡ other.decl) × (sent.part < other.part))

-- some clause names the part, and gives it these slabs
pub record IsAsked (decls : List Decl) (clauses : List Clause) (sent : Sent) : Type 0 where
  pub decl : Decl
  pub clause : Clause
  pub decl_is : slice_get decls sent.decl ≡ Some decl
  pub within : sent.part < length (parts_of decl)
  pub clause_is : Contains clauses clause
  pub slabs_are : given_by decl clause sent.part ≡ Some sent.slabs

-- a part with the whole of each of its dimensions
pub record IsWhole (decls : List Decl) (sent : Sent) : Type 0 where
  pub decl : Decl
  pub decl_is : slice_get decls sent.decl ≡ Some decl
  pub within : sent.part < length (parts_of decl)
  pub slabs_are : sent.slabs ≡ whole_slabs (part_dims decl sent.part)

-- a slab has a stride, and its indices lie within a dimension
pub record FitsDim (dim : Dim) (slab : Slab) : Type 0 where
  pub stride : HasStride slab
  pub within : slab.start ≤ slab.stop → slab.stop < dim.size

-- a part is sent with one slab for each of its dimensions, which fits it
pub record FitsPart (decls : List Decl) (sent : Sent) : Type 0 where
  pub decl : Decl
  pub decl_is : slice_get decls sent.decl ≡ Some decl
  pub fits : AllZip FitsDim (part_dims decl sent.part) sent.slabs

-- the clause at this index has this fault, and no clause before it has one
pub record IsFirstFault (decls : List Decl) (clauses : List Clause) (fault : ProjectFault) : Type 0 where
  pub index : ℕ
  pub clause : Clause
  pub clause_is : slice_get clauses index ≡ Some clause
  pub fault_is : clause_fault decls (take index clauses) clause ≡ Some fault
  pub none_before : (before : ℕ) (other : Clause) → before < index → slice_get clauses before ≡ Some other
      → clause_fault decls (take before clauses) other ≡ None

-- no clause has a fault
abbrev pub HasNoFault : List Decl → List Clause → Type 0
HasNoFault decls clauses =
    (index : ℕ) (clause : Clause) → slice_get clauses index ≡ Some clause
    → clause_fault decls (take index clauses) clause ≡ None

-- an array that is sent is the part of the dataset with the lengths that the slabs leave
pub record IsCut (decls : List Decl) (array : Array) (sent : Sent) : Type 0 where
  pub decl : Decl
  pub part : Array
  pub decl_is : slice_get decls sent.decl ≡ Some decl
  pub part_is : slice_get (parts_of decl) sent.part ≡ Some part
  pub array_is : array ≡ cut_array sent.slabs part

-- the lengths of an array
abbrev pub array_lengths : Array → List ℕ
array_lengths array = map (λ (dim : Dim). dim.size) array.dims
