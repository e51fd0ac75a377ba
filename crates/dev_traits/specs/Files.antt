-- What files hold, and what a read finds.
use Rattle.std.specs.Prelude.{⊤, ℕ, ◌≤◌, ◌<◌, List, length, nat_lt, if◌then◌else◌}
use Rattle.std.specs.Prelude.{Option, Some, None}
use Rattle.dev_traits.specs.declared.files.Found.{Found}
use Rattle.dev_traits.specs.declared.files.Found.TheVariants.{Content, Absent, TooLong}

-- what a read with a limit finds where a path holds this
abbrev pub found_of : ℕ → Option (List ℕ) → Found
found_of limit None = Absent
found_of limit (Some bytes) = if nat_lt limit (length bytes) then TooLong (length bytes) else Content bytes

-- A content has at most `limit` bytes, and a length that was too long is greater.
abbrev pub KeepsLimit : ℕ → Found → Type 0
KeepsLimit limit (Content bytes) = length bytes ≤ limit
KeepsLimit limit Absent = ⊤
KeepsLimit limit (TooLong len) = limit < len
