-- The netCDF file of what is sent of a dataset, or why it can't be written as one.
use Rattle.std.specs.Prelude.{ℕ, List, [], ◌++◌, length, nat_lt, if◌then◌else◌, Result, Ok, Err}
use Rattle.std.specs.List.{flat_map}
use Rattle.fm_base.specs.Chain.{◌>>=◌, ◌>>◌}
use Rattle.nc_model.specs.declared.header.Dim.{Dim}
use Rattle.fm_model.specs.declared.limit.TheConstants.{MAX_FILE_BYTES}
use Rattle.dap_model.specs.declared.projection.Sent.{Sent}
use Rattle.fm_dataset.specs.Values.{Shown}
use Rattle.dap_xdr.specs.Datasets.{content_of}
use Rattle.nc_writer.specs.declared.fault.WriteFault.{WriteFault}
use Rattle.nc_writer.specs.declared.fault.WriteFault.TheVariants.{FileTooLong}
use Rattle.nc_writer.specs.declared.variable.Variable.{Variable}
use Rattle.nc_writer.specs.Data.{data_bytes}
use Rattle.nc_writer.specs.Dims.{dims_from, names_free}
use Rattle.nc_writer.specs.Header.{front_of}
use Rattle.nc_writer.specs.Variables.{variables_from}

-- a header that stands ready, and the variables of a dataset whose data follows it
pub record File : Type 0 where
  pub front : List ℕ
  pub shown : Shown
  pub variables : List Variable

-- the data of some variables
unfoldable pub all_data : Shown → List Variable → List ℕ
all_data shown variables = flat_map (data_bytes (content_of shown)) variables

-- the bytes of a file
unfoldable pub bytes_of : File → List ℕ
bytes_of file = file.front ++ all_data file.shown file.variables

-- a file within the limit
unfoldable pub within_limit : File → Result File WriteFault
within_limit file =
    if nat_lt MAX_FILE_BYTES (length (bytes_of file))
    then Err (FileTooLong (length (bytes_of file)) MAX_FILE_BYTES)
    else Ok file

-- the file of variables with these dimensions
abbrev pub file_of : Shown → ℕ → List Dim → List Variable → File
file_of shown version dims variables =
    record { front = front_of shown version dims variables; shown = shown; variables = variables }

-- the netCDF file of what is sent, or the first fault: a name with two lists of slabs, a dimension with two sizes, a
-- dimension of characters whose name is another's, a file over the limit
unfoldable pub netcdf_of : Shown → List Sent → ℕ → Result File WriteFault
netcdf_of shown sent version = do
  variables ← variables_from (content_of shown) [] sent
  dims ← dims_from [] variables
  names_free variables variables
  within_limit (file_of shown version dims variables)
