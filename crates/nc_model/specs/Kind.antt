-- The six kinds of values (NetCDF Classic Format Specification, nc_type).
use Rattle.std.specs.Prelude.{ℕ}
use Rattle.nc_model.specs.declared.kind.Kind.{Kind}
use Rattle.nc_model.specs.declared.kind.Kind.TheVariants.{Byte, Char, Short, Int, Float, Double}

-- how many bytes a value takes
abbrev pub size_of : Kind → ℕ
size_of Byte = 1
size_of Char = 1
size_of Short = 2
size_of Int = 4
size_of Float = 4
size_of Double = 8

-- the number that stands for a kind in a file
abbrev pub code_of : Kind → ℕ
code_of Byte = 1
code_of Char = 2
code_of Short = 3
code_of Int = 4
code_of Float = 5
code_of Double = 6
