-- Small files for worked examples. Instants are seconds from the epoch; 21600 seconds are six hours.
use Rattle.std.specs.Prelude.{ℕ, List, [], ◌∷◌, codes, true, ℤ, pos}
use Rattle.nc_model.specs.declared.header.Attr.{Attr}
use Rattle.nc_model.specs.declared.header.Header.{Header}
use Rattle.nc_model.specs.declared.header.NcVar.{NcVar}
use Rattle.nc_model.specs.declared.kind.Kind.{Kind}
use Rattle.nc_model.specs.declared.kind.Kind.TheVariants.{Char, Int, Float}
use Rattle.nc_model.specs.declared.units.Units.{Units}
use Rattle.fm_model.specs.declared.loaded.Loaded.{Loaded}
use Rattle.fm_model.specs.declared.proto.Proto.{Proto}
use Rattle.fm_model.specs.declared.proto.ProtoVar.{ProtoVar}
use Rattle.fm_model.specs.declared.row.Row.{Row}
use Rattle.fm_model.specs.declared.site.Site.{Site}

-- a file without data
abbrev pub file_of : List ℕ → ℤ → List ℤ → Loaded
file_of name run times = record { name = name; run = run; times = times; content = []; slots = [] }

-- the run of 00Z, with the times 00Z, 06Z and 12Z
abbrev pub midnight : Loaded
midnight = file_of (codes "gfs_0000.nc") (pos 0) (pos 0 ∷ pos 21600 ∷ pos 43200 ∷ [])

-- the run of 06Z, with the times 06Z, 12Z and 18Z
abbrev pub morning : Loaded
morning = file_of (codes "gfs_0600.nc") (pos 21600) (pos 21600 ∷ pos 43200 ∷ pos 64800 ∷ [])

-- the run of 00Z again, under the same name, without 12Z
abbrev pub midnight_again : Loaded
midnight_again = file_of (codes "gfs_0000.nc") (pos 0) (pos 0 ∷ pos 21600 ∷ [])

-- another file of the run of 00Z, with 18Z alone
abbrev pub midnight_part : Loaded
midnight_part = file_of (codes "gfs_0000_part.nc") (pos 0) (pos 64800 ∷ [])

-- the row of a file at an index
abbrev pub row_of : Loaded → ℤ → ℕ → Row
row_of file valid index = record { valid = valid; run = file.run; file = file; index = index }

-- a site whose epoch is 2020-01-01T00:00:00Z
abbrev pub site : Site
site = record { name = codes "gfs"; epoch = pos 1577836800; mark = codes "gfs_" }

-- seconds since 1970-01-01T00:00:00Z
abbrev pub since_1970 : Units
since_1970 = record { per = 1; origin = pos 0 }

-- units of n seconds, counted from the epoch of that site
abbrev pub since_epoch : ℕ → Units
since_epoch per = record { per = per; origin = pos 1577836800 }

-- a variable of times over the first dimension, whose data begins with the bytes
abbrev pub times_var : Kind → List Attr → NcVar
times_var kind attrs = record { name = codes "time"; dims = 0 ∷ []; attrs = attrs; kind = kind; begin = 0 }

-- a header with that variable alone, over n times
abbrev pub times_header : ℕ → NcVar → Header
times_header count var = record {
  version = 1;
  numrecs = 0;
  dims = record { name = codes "time"; size = count }
      ∷ [];
  attrs = [];
  vars = var ∷ [];
}

-- an attribute of characters
abbrev pub text_attr : List ℕ → List ℕ → Attr
text_attr name text = record { name = name; kind = Char; values = text }

-- an attribute of numbers, with their bytes
abbrev pub number_attr : List ℕ → Kind → List ℕ → Attr
number_attr name kind values = record { name = name; kind = kind; values = values }

-- the axis `time` over the record dimension
abbrev pub record_axis : NcVar
record_axis = record { name = codes "time"; dims = 0 ∷ []; attrs = []; kind = Int; begin = 292 }

-- a field of this kind over dimensions of these numbers
abbrev pub field_var : Kind → List ℕ → NcVar
field_var kind dims = record { name = codes "t"; dims = dims; attrs = []; kind = kind; begin = 296 }

-- a header with three records, two dimensions of length 2, that axis, and these variables
abbrev pub field_header : List NcVar → Header
field_header vars = record {
  version = 1;
  numrecs = 3;
  dims = record { name = codes "time"; size = 0 } ∷ record { name = codes "lat"; size = 2 }
      ∷ record { name = codes "lon"; size = 2 } ∷ [];
  attrs = [];
  vars = record_axis ∷ vars;
}

-- that field as a prototype has it
abbrev pub proto_field : ProtoVar
proto_field = record { name = codes "t"; kind = Float; dims = 0 ∷ 1 ∷ 2 ∷ []; attrs = []; timed = true; fixed = [] }

-- that field with these attributes, in a file and in a prototype
abbrev pub packed_var : List Attr → NcVar
packed_var attrs = record (field_var Float (0 ∷ 1 ∷ 2 ∷ [])) { attrs = attrs }

abbrev pub packed_field : List Attr → ProtoVar
packed_field attrs = record proto_field { attrs = attrs }

-- the prototype of a header with that field
abbrev pub field_proto : Proto
field_proto = record {
  site = site;
  axis = codes "time";
  dims = record { name = codes "time"; size = 3 } ∷ record { name = codes "lat"; size = 2 }
      ∷ record { name = codes "lon"; size = 2 } ∷ [];
  attrs = [];
  vars = record { name = codes "time"; kind = Int; dims = 0 ∷ []; attrs = []; timed = true; fixed = [] } ∷ proto_field
      ∷ [];
}

-- a variable of whole numbers over dimensions of these numbers
abbrev pub number_var : List ℕ → List ℕ → NcVar
number_var name dims = record { name = name; dims = dims; attrs = []; kind = Int; begin = 0 }

-- a variable with the standard name of a reference time
abbrev pub run_var : List ℕ → NcVar
run_var dims = record (number_var (codes "run") dims) {
  attrs = text_attr (codes "standard_name")
      (codes "forecast_reference_time") ∷ [];
}

-- a variable of characters
abbrev pub flag_var : List ℕ → NcVar
flag_var dims = record (number_var (codes "flag") dims) { kind = Char }

-- a variable over its own dimension with the standard name `time`
abbrev pub valid_var : NcVar
valid_var = record (number_var (codes "valid") (0 ∷ [])) {
  attrs = text_attr (codes "standard_name") (codes "time")
      ∷ [];
}

-- a header with a dimension of this name and length 2, and one variable
abbrev pub header_of : List ℕ → NcVar → Header
header_of name var = record {
  version = 1;
  numrecs = 0;
  dims = record { name = name; size = 2 }
      ∷ [];
  attrs = [];
  vars = var ∷ [];
}

-- a time axis over two times, a dimension of this name and length, and one more variable
abbrev pub header_with : List ℕ → ℕ → NcVar → Header
header_with name size var = record {
  version = 1;
  numrecs = 0;
  dims = record { name = codes "time"; size = 2 } ∷ record { name = name; size = size } ∷ [];
  attrs = [];
  vars = times_var Int [] ∷ var ∷ [];
}
