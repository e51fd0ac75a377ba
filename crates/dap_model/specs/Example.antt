-- A dataset for the examples: the best view of a collection with three times on a grid of two by two.
use Rattle.std.specs.Prelude.{ℕ, List, [], ◌∷◌, codes, Result}
use Rattle.std.specs.Result.{result_unwrap_or}
use Rattle.nc_model.specs.declared.header.Dim.{Dim}
use Rattle.dap_model.specs.ConstraintReading.{constraint_of}
use Rattle.dap_model.specs.Projection.{projection_of}
use Rattle.dap_model.specs.declared.declaration.Array.{Array}
use Rattle.dap_model.specs.declared.declaration.DapKind.{DapKind}
use Rattle.dap_model.specs.declared.declaration.DapKind.TheVariants.{Int32, Float32}
use Rattle.dap_model.specs.declared.declaration.Decl.{Decl}
use Rattle.dap_model.specs.declared.declaration.Decl.TheVariants.{Plain, Grid}
use Rattle.dap_model.specs.declared.fault.ProjectFault.{ProjectFault}
use Rattle.dap_model.specs.declared.projection.Projected.{Projected}
use Rattle.dap_model.specs.declared.projection.Slab.{Slab}

-- a dimension
abbrev pub dim : List ℕ → ℕ → Dim
dim name size = record { name = name; size = size }

-- an array of a kind, with a name and dimensions
abbrev pub array : DapKind → List ℕ → List Dim → Array
array kind name dims = record { name = name; kind = kind; dims = dims }

-- a coordinate variable: it has the name of its dimension
abbrev pub coordinate : DapKind → List ℕ → ℕ → Array
coordinate kind name size = array kind name (dim name size ∷ [])

-- an array of ten elements
abbrev pub vector : DapKind → List ℕ → Array
vector kind name = array kind name (dim (codes "x") 10 ∷ [])

-- the slab of one index
abbrev pub at : ℕ → Slab
at index = record { start = index; stride = 1; stop = index }

-- the Grid of a temperature, with these lengths
abbrev pub t_grid : ℕ → ℕ → ℕ → Decl
t_grid times lats lons =
    Grid (codes "t")
    (array Float32 (codes "t")
    (dim (codes "time") times ∷ dim (codes "lat") lats ∷ dim (codes "lon") lons ∷ []))
    (coordinate Int32 (codes "time") times
    ∷ coordinate Float32 (codes "lat") lats
    ∷ coordinate Float32 (codes "lon") lons ∷ [])

-- the declarations of the dataset
abbrev pub example_decls : List Decl
example_decls =
    Plain (coordinate Int32 (codes "time") 3)
    ∷ Plain (coordinate Float32 (codes "lat") 2)
    ∷ Plain (coordinate Float32 (codes "lon") 2)
    ∷ t_grid 3 2 2
    ∷ Plain (array Int32 (codes "time_run") (dim (codes "time") 3 ∷ []))
    ∷ Plain (array Int32 (codes "time_offset") (dim (codes "time") 3 ∷ [])) ∷ []

-- what is sent of it for a constraint
abbrev pub example_sent : List ℕ → Result Projected ProjectFault
example_sent text = projection_of example_decls (result_unwrap_or (constraint_of text) [])
