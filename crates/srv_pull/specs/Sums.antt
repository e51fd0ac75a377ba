-- What a message comes to: how many values it has, the sum of its numbers, and the line that says so.
use Rattle.std.specs.Prelude.{ℕ, ◌%◌, ◌^◌, List, ◌++◌, length, codes, decimal, sum, sum_by}
use Rattle.dap_client.specs.declared.message.Column.{Column}
use Rattle.dap_client.specs.declared.message.Column.TheVariants.{Numbers, Texts}
use Rattle.dap_client.specs.declared.message.Message.{Message}

-- how many values a column has
abbrev pub count_in : Column → ℕ
count_in (Numbers bits) = length bits
count_in (Texts words) = length words

-- the sum of the bits of the numbers in a column
abbrev pub bits_in : Column → ℕ
bits_in (Numbers bits) = sum bits
bits_in (Texts words) = 0

-- how many values a message has
unfoldable pub value_count : Message → ℕ
value_count message = sum_by count_in message.columns

-- the sum of the bits of all its numbers, modulo 2^32
unfoldable pub bits_sum : Message → ℕ
bits_sum message = sum_by bits_in message.columns % 2 ^ 32

-- the line of a message
unfoldable pub message_line : Message → List ℕ
message_line message =
    codes "label " ++ message.label
    ++ codes " parts " ++ decimal (length message.columns)
    ++ codes " values " ++ decimal (value_count message)
    ++ codes " sum " ++ decimal (bits_sum message) ++ codes "\n"
