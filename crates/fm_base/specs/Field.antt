-- Numbers at an offset of some bytes.
use Rattle.std.specs.Prelude.{ℕ, ◌+◌, List, length, take, drop, nat_lt, if◌then◌else◌, Option, Some, None}
use Rattle.std.specs.Int.{Width, byte_len, from_be_bytes}

-- the number there, the most significant byte first, where it lies in the bytes
abbrev pub field_at : Width → List ℕ → ℕ → Option ℕ
field_at w bytes at = if nat_lt (length bytes) (at + byte_len w) then None
    else Some (from_be_bytes w (take (byte_len w) (drop at bytes)))
