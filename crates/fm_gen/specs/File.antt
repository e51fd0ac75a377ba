-- A made file: a CDF-1 file of 65 times on a grid of 8 latitudes and 8 longitudes.
use Rattle.std.specs.Prelude.{ℕ, List, [], ◌∷◌, ◌++◌, codes}
use Rattle.nc_model.specs.declared.kind.Kind.TheVariants.{Int, Float}
use Rattle.nc_model.specs.Format.{DIMENSION_TAG, VARIABLE_TAG, ATTRIBUTE_TAG}
use Rattle.nc_model.specs.Kind.{code_of}
use Rattle.fm_gen.specs.Fields.{word, tagged, no_list, attr_text, dim_text, var_front, var_end}
use Rattle.fm_gen.specs.Values.{records_text, steps_text}

-- the dimensions: the times, which are records, the latitudes and the longitudes
unfoldable pub dims_text : List ℕ
dims_text = tagged DIMENSION_TAG 3 ++ dim_text (codes "time") 0 ++ dim_text (codes "lat") 8
    ++ dim_text (codes "lon") 8

-- the time: whole numbers of seconds, one in each record
unfoldable pub time_text : List ℕ
time_text = var_front (codes "time") (0 ∷ []) ++ tagged ATTRIBUTE_TAG 1
    ++ attr_text (codes "units") (codes "seconds since 2020-01-01 00:00:00") ++ var_end (code_of Int) 4 340

-- the latitudes and the longitudes: whole numbers
unfoldable pub lat_text : List ℕ
lat_text = var_front (codes "lat") (1 ∷ []) ++ no_list ++ var_end (code_of Int) 32 276

unfoldable pub lon_text : List ℕ
lon_text = var_front (codes "lon") (2 ∷ []) ++ no_list ++ var_end (code_of Int) 32 308

-- the values: a float at each time, latitude and longitude
unfoldable pub v_text : List ℕ
v_text = var_front (codes "v") (0 ∷ 1 ∷ 2 ∷ []) ++ no_list ++ var_end (code_of Float) 256 344

-- the four variables
unfoldable pub vars_text : List ℕ
vars_text = tagged VARIABLE_TAG 4 ++ time_text ++ lat_text ++ lon_text ++ v_text

-- the header, of 276 bytes and with 65 records
unfoldable pub header_text : List ℕ
header_text = codes "CDF" ++ 1 ∷ [] ++ word 65 ++ dims_text ++ no_list ++ vars_text

-- file k that is made from a seed: the header, the latitudes and the longitudes from 0 to 7, and the records
unfoldable pub made_file : ℕ → ℕ → List ℕ
made_file seed k = header_text ++ steps_text 8 ++ steps_text 8 ++ records_text seed k 65
