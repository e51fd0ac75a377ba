-- Which dimensions a file of a view has: those of its variables, in the order of their first use.
use Rattle.std.specs.Prelude.{ℕ, List, [], ◌∷◌, ◌++◌, length, find, Bool, false, true, ◌&&◌, ◌==◌, nat_lt, Option, Some, None, Result, Ok, Err}
use Rattle.std.specs.List.{list_any, position_or_len}
use Rattle.std.specs.Option.{option_map}
use Rattle.std.specs.Str.{bytes_eq}
use Rattle.fm_base.specs.Chain.{Check, ◌>>=◌, ◌>>◌, refuse_if}
use Rattle.nc_model.specs.declared.header.Dim.{Dim}
use Rattle.nc_writer.specs.declared.fault.WriteFault.{WriteFault}
use Rattle.nc_writer.specs.declared.fault.WriteFault.TheVariants.{SizesDiffer, NameTaken}
use Rattle.nc_writer.specs.declared.variable.Variable.{Variable}
use Rattle.nc_writer.specs.Variables.{characters_name, is_text}

-- whether a dimension has this name
abbrev pub is_named : List ℕ → Dim → Bool
is_named name dim = bytes_eq dim.name name

-- the number of the first dimension of this name, or how many there are
abbrev pub dim_number : List Dim → List ℕ → ℕ
dim_number dims name = position_or_len (is_named name) dims

-- whether the dimension of a name has this size, where there is one
unfoldable pub has_size : List Dim → List ℕ → ℕ → Option Bool
has_size found name size = option_map (λ (dim : Dim). dim.size == size) (find (is_named name) found)

-- one dimension more: one of a name that stands already adds nothing, and has to have the same size
abbrev pub add_known : List Dim → Dim → Option Bool → Result (List Dim) WriteFault
add_known found dim None = Ok (found ++ dim ∷ [])
add_known found dim (Some true) = Ok found
add_known found dim (Some false) = Err (SizesDiffer dim.name)

unfoldable pub add_dim : List Dim → Dim → Result (List Dim) WriteFault
add_dim found dim = add_known found dim (has_size found dim.name dim.size)

unfoldable pub add_dims : List Dim → List Dim → Result (List Dim) WriteFault
add_dims found [] = Ok found
add_dims found (dim ∷ more) = add_dim found dim >>= λ next. add_dims next more

-- the dimensions of variables, after those that were found; or the first name that stands with two sizes
unfoldable pub dims_from : List Dim → List Variable → Result (List Dim) WriteFault
dims_from found [] = Ok found
dims_from found (variable ∷ more) = add_dims found variable.dims >>= λ next. dims_from next more

-- whether a variable has a dimension of this name before that of its characters
abbrev pub declares : List ℕ → Variable → Bool
declares name variable = nat_lt (dim_number variable.dims name) (length variable.sent.slabs)

-- whether the dimension of a variable's characters has the name of another dimension of some variables
unfoldable pub is_taken : List Variable → Variable → Bool
is_taken all variable =
    is_text variable.kind && list_any (declares (characters_name variable.name)) all

-- the dimension of a variable's characters has a name of its own
abbrev pub name_free : List Variable → Variable → Check WriteFault
name_free all variable = refuse_if (is_taken all variable) (NameTaken (characters_name variable.name))

-- the dimension of the characters of each of these variables has a name of its own among those of all variables
unfoldable pub names_free : List Variable → List Variable → Check WriteFault
names_free all [] = Ok tt
names_free all (variable ∷ more) = name_free all variable >> names_free all more
