-- The declarations of the two-dimensional view of a collection (ESE-RFC-004, data model; THREDDS Data Server, Forecast
-- Model Run Collections): those of any view, with the runs and the offsets in the place of the axis's dimension.
use Rattle.std.specs.Prelude.{ℕ, List, [], ◌∷◌, ◌++◌, drop, map, Bool, if◌then◌else◌}
use Rattle.nc_model.specs.declared.header.Dim.{Dim}
use Rattle.fm_model.specs.declared.proto.Proto.{Proto}
use Rattle.fm_model.specs.declared.proto.ProtoVar.{ProtoVar}
use Rattle.fm_model.specs.Prototype.{offset_name, run_name}
use Rattle.dap_model.specs.declared.declaration.Array.{Array}
use Rattle.dap_model.specs.declared.declaration.DapKind.TheVariants.{Int32}
use Rattle.dap_model.specs.declared.declaration.Decl.{Decl}
use Rattle.dap_model.specs.declared.declaration.Decl.TheVariants.{Plain}
use Rattle.fm_dataset.specs.Declarations.{array_of}
use Rattle.fm_twod.specs.declared.declare.Sides.{Sides}

-- the dimensions of these numbers of runs and offsets
unfoldable pub sides_of : Proto → ℕ → ℕ → Sides
sides_of proto runs offsets = record {
  run = record { name = run_name proto.axis; size = runs };
  offset = record { name = offset_name proto.axis; size = offsets };
}

-- the dimensions of an array: where it lies along the axis, the runs and the offsets stand in the place of the first
unfoldable pub grid_dims : Sides → Bool → List Dim → List Dim
grid_dims sides timed dims = if timed then sides.run ∷ sides.offset ∷ drop 1 dims else dims

-- an array of a view, by run and offset
unfoldable pub by_sides : Sides → Bool → Array → Array
by_sides sides timed array =
    record { name = array.name; kind = array.kind; dims = grid_dims sides timed array.dims }

-- the array of a variable, by that of a view with this many rows
unfoldable pub grid_array : Sides → Proto → ℕ → ProtoVar → Array
grid_array sides proto count var = by_sides sides var.timed (array_of proto count var)

-- the declaration of a variable: no variable is a Grid here
abbrev pub grid_decl : Sides → Proto → ℕ → ProtoVar → Decl
grid_decl sides proto count var = Plain (grid_array sides proto count var)

-- whole seconds along a dimension of their name
unfoldable pub seconds_along : Dim → Decl
seconds_along dim = Plain (record { name = dim.name; kind = Int32; dims = dim ∷ [] })

-- the declarations: the variables, and then the runs and the offsets
unfoldable pub grid_decls : Sides → Proto → ℕ → List Decl
grid_decls sides proto count = map (grid_decl sides proto count) proto.vars
    ++ seconds_along sides.run ∷ seconds_along sides.offset ∷ []
