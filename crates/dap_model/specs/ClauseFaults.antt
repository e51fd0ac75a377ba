-- What is wrong with a constraint for a dataset: the first fault of the first clause that has one.
use Rattle.std.specs.Prelude.{ℕ, ◌+◌, List, [], ◌∷◌, ◌++◌, length, Bool, false, not, ◌&&◌, ◌||◌, ◌==◌, nat_lt, nat_le, if◌then◌else◌, Option, Some, None}
use Rattle.std.specs.List.{join_with_byte, list_any, range_with_len}
use Rattle.std.specs.Cmp.Lexicographic.{pointwise}
use Rattle.std.specs.Option.{option_or}
use Rattle.nc_model.specs.declared.header.Dim.{Dim}
use Rattle.dap_model.specs.declared.declaration.Decl.{Decl}
use Rattle.dap_model.specs.declared.fault.ProjectFault.{ProjectFault}
use Rattle.dap_model.specs.declared.fault.ProjectFault.TheVariants.{NoSuchVariable, SlabRank, SlabRange, SlabConflict}
use Rattle.dap_model.specs.declared.projection.Clause.{Clause}
use Rattle.dap_model.specs.declared.projection.Slab.{Slab}
use Rattle.dap_model.specs.Picking.{name_of, parts_of, picked_by, given_by, picked_dims, decl_named}

-- a path as it is written, without slabs
abbrev pub path_text : List (List ℕ) → List ℕ
path_text path = join_with_byte 46 path

-- slabs stand there, and not one for each dimension
unfoldable pub rank_fault : List ℕ → List Dim → List Slab → Option ProjectFault
rank_fault name dims slabs =
    if length slabs == 0 || length slabs == length dims then None else Some (SlabRank name (length slabs) (length dims))

-- whether a slab lies within a size
unfoldable pub is_within : ℕ → Slab → Bool
is_within size slab = nat_le 1 slab.stride && nat_le slab.start slab.stop && nat_lt slab.stop size

-- the first slab, from this dimension on, that doesn't lie within the size of its dimension
unfoldable pub range_fault : List ℕ → ℕ → List Dim → List Slab → Option ProjectFault
range_fault name index [] slabs = None
range_fault name index (dim ∷ dims) [] = None
range_fault name index (dim ∷ dims) (slab ∷ slabs) =
    if is_within dim.size slab then range_fault name (index + 1) dims slabs else Some (SlabRange name index dim.size)

-- whether two slabs have the same three numbers
abbrev pub is_same_slab : Slab → Slab → Bool
is_same_slab slab other = slab.start == other.start && slab.stride == other.stride && slab.stop == other.stop

-- whether a part is given slabs twice, and not the same
abbrev pub are_other : Option (List Slab) → Option (List Slab) → Bool
are_other None second = false
are_other (Some first) None = false
are_other (Some first) (Some second) = not (pointwise is_same_slab first second)

-- whether some earlier clause gives other slabs to a part than this one does
abbrev pub differs_at : Decl → List Clause → Clause → ℕ → Bool
differs_at decl earlier clause part =
    list_any (λ (other : Clause). are_other (given_by decl other part) (given_by decl clause part)) earlier

-- an earlier clause gives other slabs to a part that this one names too
unfoldable pub conflict_fault : Decl → List Clause → Clause → Option ProjectFault
conflict_fault decl earlier clause =
    if list_any (differs_at decl earlier clause) (range_with_len 0 (length (parts_of decl)))
    then Some (SlabConflict (name_of decl))
    else None

-- the first fault of a clause on the declaration that it names
unfoldable pub decl_fault : Decl → List Clause → Clause → Option ProjectFault
decl_fault decl earlier clause =
    option_or (rank_fault (path_text clause.path) (picked_dims decl (picked_by decl clause.path)) clause.slabs)
    (option_or (range_fault (path_text clause.path) 0 (picked_dims decl (picked_by decl clause.path)) clause.slabs)
    (conflict_fault decl earlier clause))

-- the first fault of a clause, on the declaration that it names if there is one
abbrev pub fault_in : List Clause → Clause → Option Decl → Option ProjectFault
fault_in earlier clause None = Some (NoSuchVariable (path_text clause.path))
fault_in earlier clause (Some decl) = decl_fault decl earlier clause

-- the first fault of a clause after these
unfoldable pub clause_fault : List Decl → List Clause → Clause → Option ProjectFault
clause_fault decls earlier clause = fault_in earlier clause (decl_named decls clause.path)

-- the fault of the first clause that has one, of those after these
unfoldable pub first_fault : List Decl → List Clause → List Clause → Option ProjectFault
first_fault decls earlier [] = None
first_fault decls earlier (clause ∷ clauses) =
    option_or (clause_fault decls earlier clause) (first_fault decls (earlier ++ clause ∷ []) clauses)
