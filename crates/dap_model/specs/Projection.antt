-- What is sent of a dataset for a constraint (ESE-RFC-004, constraint expressions).
use Rattle.std.specs.Prelude.{ℕ, List, [], ◌∷◌, length, map, filter, Bool, true, Option, Some, None, Result, Ok, Err, slice_get}
use Rattle.std.specs.List.{enumerate_from, filter_map, flat_map, list_any, range_with_len, zip}
use Rattle.std.specs.Option.{option_map}
use Rattle.nc_model.specs.declared.header.Dim.{Dim}
use Rattle.dap_model.specs.Box.{slab_count}
use Rattle.dap_model.specs.declared.declaration.Array.{Array}
use Rattle.dap_model.specs.declared.declaration.Decl.{Decl}
use Rattle.dap_model.specs.declared.declaration.Decl.TheVariants.{Plain, Grid, Structure}
use Rattle.dap_model.specs.declared.fault.ProjectFault.{ProjectFault}
use Rattle.dap_model.specs.declared.projection.Clause.{Clause}
use Rattle.dap_model.specs.declared.projection.Projected.{Projected}
use Rattle.dap_model.specs.declared.projection.Sent.{Sent}
use Rattle.dap_model.specs.declared.projection.Slab.{Slab}
use Rattle.dap_model.specs.ClauseFaults.{first_fault}
use Rattle.dap_model.specs.Picking.{name_of, parts_of, picked_by, is_picked, is_every, given_by}

-- the clause that asks for the whole of a declaration
abbrev pub whole_clause : Decl → Clause
whole_clause decl = record { path = name_of decl ∷ []; slabs = [] }

-- the clauses by which a declaration is sent: where there is none, the one that asks for its whole
abbrev pub clauses_for : List Clause → Decl → List Clause
clauses_for [] decl = whole_clause decl ∷ []
clauses_for (clause ∷ clauses) decl = clause ∷ clauses

-- the slabs with which a part is sent: those of the first clause that names it
unfoldable pub slabs_of : List Clause → Decl → ℕ → Option (List Slab)
slabs_of clauses decl part =
    slice_get (filter_map (λ (each : Clause). given_by decl each part) (clauses_for clauses decl)) 0

-- a part, by the index of its declaration and its own, with its slabs
abbrev pub with_slabs : ℕ → ℕ → List Slab → Sent
with_slabs decl part slabs = record { decl = decl; part = part; slabs = slabs }

-- the parts of a declaration that are sent, by its index in the dataset
unfoldable pub sent_of : List Clause → ℕ × Decl → List Sent
sent_of clauses placed =
    filter_map (λ (part : ℕ). option_map (with_slabs placed.0 part) (slabs_of clauses placed.1 part))
    (range_with_len 0 (length (parts_of placed.1)))

-- a dimension as long as its slab has indices
abbrev pub cut_dim : Dim × Slab → Dim
cut_dim pair = record pair.0 { size = slab_count pair.1 }

-- an array with the lengths that slabs leave
unfoldable pub cut_array : List Slab → Array → Array
cut_array slabs array = record array { dims = map cut_dim (zip array.dims slabs) }

-- the parts of a declaration that are sent, as arrays
unfoldable pub cut_parts : List Clause → Decl → List Array
cut_parts clauses decl =
    filter_map
    (λ (numbered : ℕ × Array).
    option_map (λ (slabs : List Slab). cut_array slabs numbered.1) (slabs_of clauses decl numbered.0))
    (enumerate_from 0 (parts_of decl))

-- whether something of a declaration is sent: some clause picks it or a part of it
unfoldable pub is_sent : List Clause → Decl → Bool
is_sent clauses decl = list_any (λ (each : Clause). is_picked (picked_by decl each.path)) (clauses_for clauses decl)

-- whether some clause picks all of a declaration, so that a Grid stays one
unfoldable pub is_kept : List Clause → Decl → Bool
is_kept clauses decl = list_any (λ (each : Clause). is_every (picked_by decl each.path)) (clauses_for clauses decl)

-- a declaration of these parts: a Grid only where it is kept, and else a Structure
abbrev pub rebuilt : Bool → Decl → List Array → Decl
rebuilt kept (Plain whole) (array ∷ parts) = Plain array
rebuilt true (Grid name whole maps) (array ∷ parts) = Grid name array parts
rebuilt kept decl parts = Structure (name_of decl) parts

-- a declaration as it is sent
unfoldable pub decl_sent : List Clause → Decl → Decl
decl_sent clauses decl = rebuilt (is_kept clauses decl) decl (cut_parts clauses decl)

-- what is sent: declarations and parts in the dataset's order
unfoldable pub all_sent : List Decl → List Clause → Projected
all_sent decls clauses =
    record {
      decls = map (decl_sent clauses) (filter (is_sent clauses) decls);
      sent = flat_map (sent_of clauses) (enumerate_from 0 decls);
    }

-- what is sent, unless there is a fault
abbrev pub unless_fault : Projected → Option ProjectFault → Result Projected ProjectFault
unless_fault projected None = Ok projected
unless_fault projected (Some fault) = Err fault

-- what is sent of a dataset for these clauses, or the first fault of the first clause at fault
unfoldable pub projection_of : List Decl → List Clause → Result Projected ProjectFault
projection_of decls clauses = unless_fault (all_sent decls clauses) (first_fault decls [] clauses)
