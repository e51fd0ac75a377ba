-- What a made file is taken for, and what a prototype keeps of it.
use Rattle.std.specs.Prelude.{ℕ, zero, suc, ◌*◌, List, [], ◌∷◌, ◌++◌, codes, true, false, ℤ, pos}
use Rattle.nc_model.specs.declared.header.Attr.{Attr}
use Rattle.nc_model.specs.declared.header.Header.{Header}
use Rattle.nc_model.specs.declared.header.NcVar.{NcVar}
use Rattle.nc_model.specs.declared.kind.Kind.TheVariants.{Char, Int, Float}
use Rattle.nc_model.specs.declared.units.Units.{Units}
use Rattle.fm_model.specs.declared.loaded.Loaded.{Loaded}
use Rattle.fm_model.specs.declared.loaded.Slot.{Slot}
use Rattle.fm_model.specs.declared.proto.Proto.{Proto}
use Rattle.fm_model.specs.declared.proto.ProtoVar.{ProtoVar}
use Rattle.fm_model.specs.declared.site.Site.{Site}
use Rattle.fm_gen.specs.File.{made_file}
use Rattle.fm_gen.specs.Values.{steps_text, time_of}

-- the units of the times
abbrev pub units_attr : Attr
units_attr = record { name = codes "units"; kind = Char; values = codes "seconds since 2020-01-01 00:00:00" }

-- seconds since 2020-01-01T00:00:00Z
abbrev pub made_units : Units
made_units = record { per = 1; origin = pos 1577836800 }

-- the times: one in each record
abbrev pub time_var : NcVar
time_var = record { name = codes "time"; dims = 0 ∷ []; attrs = units_attr ∷ []; kind = Int; begin = 340 }

-- the latitudes and the longitudes
abbrev pub lat_var : NcVar
lat_var = record { name = codes "lat"; dims = 1 ∷ []; attrs = []; kind = Int; begin = 276 }

abbrev pub lon_var : NcVar
lon_var = record { name = codes "lon"; dims = 2 ∷ []; attrs = []; kind = Int; begin = 308 }

-- the values
abbrev pub v_var : NcVar
v_var = record { name = codes "v"; dims = 0 ∷ 1 ∷ 2 ∷ []; attrs = []; kind = Float; begin = 344 }

-- the header of each made file
abbrev pub made_header : Header
made_header = record {
  version = 1;
  numrecs = 65;
  dims = record { name = codes "time"; size = 0 } ∷ record { name = codes "lat"; size = 8 }
      ∷ record { name = codes "lon"; size = 8 } ∷ [];
  attrs = [];
  vars = time_var ∷ lat_var ∷ lon_var ∷ v_var ∷ [];
}

-- a variable along the axis, as a prototype keeps it
abbrev pub timed_of : NcVar → ProtoVar
timed_of var =
    record { name = var.name; kind = var.kind; dims = var.dims; attrs = var.attrs; timed = true; fixed = [] }

-- a variable without time with these elements
abbrev pub fixed_of : NcVar → List ℕ → ProtoVar
fixed_of var elements =
    record { name = var.name; kind = var.kind; dims = var.dims; attrs = var.attrs; timed = false; fixed = elements }

-- the prototype of a file with that header and these latitudes and longitudes
abbrev pub proto_with : Site → List ℕ → List ℕ → Proto
proto_with site lat lon = record {
  site = site;
  axis = codes "time";
  dims = record { name = codes "time"; size = 65 } ∷ record { name = codes "lat"; size = 8 }
      ∷ record { name = codes "lon"; size = 8 } ∷ [];
  attrs = [];
  vars = timed_of time_var ∷ fixed_of lat_var lat ∷ fixed_of lon_var lon ∷ timed_of v_var ∷ [];
}

-- the prototype that each made file is at a site
abbrev pub made_proto : Site → Proto
made_proto site = proto_with site (steps_text 8) (steps_text 8)

-- the first n times of file k
unfoldable pub times_of : ℕ → ℕ → List ℤ
times_of k zero = []
times_of k (suc n) = times_of k n ++ pos (time_of k n) ∷ []

-- where the data of the values lies
abbrev pub v_slot : Slot
v_slot = record { begin = 344; step = 260 }

-- what file k is taken for under a name: its run is its first time, and it has 65 times
abbrev pub made_loaded : List ℕ → ℕ → ℕ → Loaded
made_loaded name seed k = record {
  name = name;
  run = pos (21600 * k);
  times = times_of k 65;
  content = made_file seed k;
  slots = v_slot ∷ [];
}
