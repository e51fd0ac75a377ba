-- Headers of small files.
use Rattle.std.specs.Prelude.{ℕ, List, [], ◌∷◌, ◌++◌, map, codes}
use Rattle.nc_model.specs.declared.header.Attr.{Attr}
use Rattle.nc_model.specs.declared.header.Dim.{Dim}
use Rattle.nc_model.specs.declared.header.Header.{Header}
use Rattle.nc_model.specs.declared.header.NcVar.{NcVar}
use Rattle.nc_model.specs.declared.kind.Kind.TheVariants.{Char, Float, Int, Short}
use Rattle.nc_model.specs.Layout.{shape_of, offset_of, indices_of}

-- the offsets of all elements of a variable, in row-major order
abbrev pub offsets_of : Header → NcVar → List ℕ
offsets_of header var = map (offset_of header var) (indices_of (shape_of header var))

-- a variable of 16-bit numbers with one element in each record
abbrev pub short_at : ℕ → NcVar
short_at begin = record { name = codes "s" ++ begin ∷ []; dims = 0 ∷ []; attrs = []; kind = Short; begin = begin }

-- three records of these variables
abbrev pub three_records : List NcVar → Header
three_records vars =
    record { version = 1; numrecs = 3; dims = record { name = codes "time"; size = 0 } ∷ []; attrs = []; vars = vars }

-- one of them, and two
abbrev pub one_short : Header
one_short = three_records (short_at 100 ∷ [])

abbrev pub two_shorts : Header
two_shorts = three_records (short_at 100 ∷ short_at 104 ∷ [])

-- no record of it
abbrev pub no_record : Header
no_record = record one_short { numrecs = 0 }

-- the records and the points of a grid, with this many latitudes and longitudes
abbrev pub grid_dims : ℕ → ℕ → List Dim
grid_dims lats lons = record { name = codes "time"; size = 0 } ∷ record { name = codes "lat"; size = lats }
    ∷ record { name = codes "lon"; size = lons } ∷ []

-- the attribute that says from when times are counted
abbrev pub units_attr : Attr
units_attr = record { name = codes "units"; kind = Char; values = codes "seconds since 1970-01-01 00:00:00" }

-- the times, whose data begins behind 292 bytes
abbrev pub time_var : NcVar
time_var = record { name = codes "time"; dims = 0 ∷ []; attrs = units_attr ∷ []; kind = Int; begin = 292 }

-- a variable of 32-bit floats without attributes
abbrev pub float_var : List ℕ → List ℕ → ℕ → NcVar
float_var name dims begin = record { name = name; dims = dims; attrs = []; kind = Float; begin = begin }

-- the times, the points of a grid from these dimensions and bytes, and a field from this byte
abbrev pub grid_vars : List ℕ → List ℕ → ℕ → List NcVar
grid_vars lats lons field = time_var ∷ float_var (codes "lat") lats 276 ∷ float_var (codes "lon") lons 284
    ∷ float_var (codes "t") (0 ∷ 1 ∷ 2 ∷ []) field ∷ []

-- a file of 352 bytes: three times on a grid of two by two points
abbrev pub sample : Header
sample = record {
  version = 1;
  numrecs = 3;
  dims = grid_dims 2 2;
  attrs = [];
  vars = grid_vars (1 ∷ []) (2 ∷ []) 296;
}

-- the same, with the field at the end of the first 4 GiB
abbrev pub field_far_away : Header
field_far_away = record sample { vars = grid_vars (1 ∷ []) (2 ∷ []) 0xffff_ffff }

-- the same, with the longest dimension that a file can have
abbrev pub longest : Header
longest = record sample { dims = grid_dims 2 0x7fff_ffff }

-- two such dimensions, no records, and the latitudes and longitudes as variables over the records
abbrev pub longest_field : Header
longest_field = record sample {
  numrecs = 0;
  dims = grid_dims 0x7fff_ffff 0x7fff_ffff;
  vars = grid_vars (0 ∷ []) (0 ∷ []) 296;
}
