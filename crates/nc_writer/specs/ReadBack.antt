-- What a reader finds in a file that was written: the header's and the layout's definitions read it back.
use Rattle.std.specs.Prelude.{◌≡◌, ℕ, [], length, slice_get, false, None, Ok, Some}
use Rattle.std.specs.List.{AllByRecursion, AllZip}
use Rattle.nc_model.specs.declared.header.Dim.{Dim}
use Rattle.nc_model.specs.declared.header.Header.{Header}
use Rattle.nc_model.specs.declared.header.NcVar.{NcVar}
use Rattle.nc_model.specs.Format.{is_record_dim}
use Rattle.nc_model.specs.Layout.{elements_of, layout_fault}
use Rattle.nc_model.specs.Spelling.{HeaderOf}
use Rattle.dap_xdr.specs.Datasets.{content_of}
use Rattle.nc_writer.specs.declared.variable.Variable.{Variable}
use Rattle.nc_writer.specs.Attributes.{attributes_of}
use Rattle.nc_writer.specs.Data.{file_kind, values_of}
use Rattle.nc_writer.specs.Dims.{dims_from}
use Rattle.nc_writer.specs.File.{bytes_of, File}
use Rattle.nc_writer.specs.Header.{header_of}

-- the dimension of this number is this one
abbrev pub IsDimOf : Header → Dim → ℕ → Type 0
IsDimOf header dim id = slice_get header.dims id ≡ Some dim

-- a variable of a header is one that was written: it has its name, attributes, kind and dimensions, and the elements
-- are the values
pub record IsRead (file : File) (header : Header) (variable : Variable) (var : NcVar) : Type 0 where
  pub name_is : var.name ≡ variable.name
  pub attrs_are : var.attrs ≡ attributes_of file.shown variable.name
  pub kind_is : var.kind ≡ file_kind variable.kind
  pub dims_are : AllZip (IsDimOf header) variable.dims var.dims
  pub elements_are : elements_of (bytes_of file) header var ≡ values_of (content_of file.shown) variable

-- the bytes of a file begin with the header of its variables, in this version, which is sound; its data lies within
-- them, there are no records, the attributes are the prototype's, the dimensions are those of the variables in the
-- order of their first use, and the variables are those that were written
pub record ReadsBack (version : ℕ) (file : File) : Type 0 where
  pub header : Header
  pub header_is : header ≡ header_of file.shown version header.dims file.variables
  pub read : HeaderOf (bytes_of file) header
  pub layout : layout_fault header (length (bytes_of file)) ≡ None
  pub dims_are : dims_from [] file.variables ≡ Ok header.dims
  pub no_records : AllByRecursion (λ (dim : Dim). is_record_dim dim ≡ false) header.dims
  pub attrs_are : header.attrs ≡ file.shown.proto.attrs
  pub vars : AllZip (IsRead file header) file.variables header.vars
