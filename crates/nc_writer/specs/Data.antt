-- The data of a variable of a file: its values in row-major order, each as the format has it (NetCDF Classic Format
-- Specification, "The Format in Detail").
use Rattle.std.specs.Prelude.{ℕ, ◌-◌, ◌*◌, List, ◌++◌, length, take, drop, replicate, if◌then◌else◌}
use Rattle.std.specs.List.{flat_map}
use Rattle.nc_model.specs.declared.kind.Kind.{Kind}
use Rattle.nc_model.specs.declared.kind.Kind.TheVariants as kinds
use Rattle.nc_model.specs.Format.{padded_len}
use Rattle.nc_model.specs.Kind.{size_of}
use Rattle.dap_model.specs.declared.declaration.DapKind.{DapKind}
use Rattle.dap_model.specs.declared.declaration.DapKind.TheVariants.{Byte, Int16, Int32, Float32, Float64, Text}
use Rattle.dap_model.specs.Box.{box_len, box_of}
use Rattle.dap_model.specs.Xdr.{zeros_after}
use Rattle.dap_xdr.specs.Content.{Content}
use Rattle.dap_xdr.specs.Stretch.{stored_bytes}
use Rattle.nc_writer.specs.declared.variable.Variable.{Variable}
use Rattle.nc_writer.specs.Variables.{is_text}

-- the kind that values have in a file: the one that they were sent for
unfoldable pub file_kind : DapKind → Kind
file_kind Byte = kinds.Byte
file_kind Int16 = kinds.Short
file_kind Int32 = kinds.Int
file_kind Float32 = kinds.Float
file_kind Float64 = kinds.Double
file_kind Text = kinds.Char

-- a text in a field of this width: zero bytes stand behind it
unfoldable pub filled : ℕ → List ℕ → List ℕ
filled width text = take width text ++ replicate (width - length text) 0

-- a number by its bits, or a text
unfoldable pub value_bytes : DapKind → ℕ → ℕ → List ℕ → List ℕ
value_bytes kind width bits text = if is_text kind then filled width text else stored_bytes kind bits

-- how many bytes a value takes
unfoldable pub value_len : DapKind → ℕ → ℕ
value_len kind width = if is_text kind then width else size_of (file_kind kind)

-- the value of a variable at an index list of its part
unfoldable pub value_at : Content → Variable → List ℕ → List ℕ
value_at content variable index = value_bytes variable.kind variable.width
    (content.bits variable.sent.decl variable.sent.part index)
    (content.text variable.sent.decl variable.sent.part index)

-- some values of a variable, from an element on
unfoldable pub values_in : Content → Variable → ℕ → ℕ → List ℕ
values_in content variable element count =
    flat_map (value_at content variable) (take count (drop element (box_of variable.sent.slabs)))

-- all values of a variable
unfoldable pub values_of : Content → Variable → List ℕ
values_of content variable = flat_map (value_at content variable) (box_of variable.sent.slabs)

-- how many bytes they take
unfoldable pub values_len : Variable → ℕ
values_len variable = box_len variable.sent.slabs * value_len variable.kind variable.width

-- the data of a variable: its values, and zero bytes up to a multiple of four
unfoldable pub data_bytes : Content → Variable → List ℕ
data_bytes content variable = values_of content variable ++ zeros_after (values_len variable)

-- how many bytes the data takes (vsize)
unfoldable pub data_len : Variable → ℕ
data_len variable = padded_len (values_len variable)
