-- The parts of a header from one field on.
use Rattle.std.specs.Prelude.{ℕ, ◌*◌, List}
use Rattle.fm_base.specs.Parser.{◌>>=◌, pure}
use Rattle.nc_model.specs.declared.header.Attr.{Attr}
use Rattle.nc_model.specs.declared.header.Header.{Header}
use Rattle.nc_model.specs.declared.header.NcVar.{NcVar}
use Rattle.nc_model.specs.Format.{ATTRIBUTE_TAG, DIMENSION_TAG, VARIABLE_TAG}
use Rattle.nc_model.specs.Kind.{size_of}
use Rattle.nc_model.specs.Reading.{HeaderParser, attr_at, begin_at, count, dim_at, field, kind_at, list_at, padded, var_at}

-- what follows the name of an attribute
unfoldable pub attr_from : List ℕ → HeaderParser Attr
attr_from name = do
  kind ← kind_at
  n ← count
  values ← padded (n * size_of kind)
  pure (record { name = name; kind = kind; values = values })

-- what follows the attributes of a variable with this name, these dimensions and attributes
unfoldable pub var_from : ℕ → List ℕ → List ℕ → List Attr → HeaderParser NcVar
var_from version name ids attrs = do
  kind ← kind_at
  size ← field 4
  begin ← begin_at version
  pure (record { name = name; dims = ids; attrs = attrs; kind = kind; begin = begin })

-- the lists of a header of this version with this many records
unfoldable pub header_from : ℕ → ℕ → HeaderParser Header
header_from version numrecs = do
  dims ← list_at DIMENSION_TAG dim_at
  attrs ← list_at ATTRIBUTE_TAG attr_at
  vars ← list_at VARIABLE_TAG (var_at version dims)
  pure (record { version = version; numrecs = numrecs; dims = dims; attrs = attrs; vars = vars })
