-- When files changed last.
use Rattle.std.specs.Prelude.{Bool, ◌&&◌, ◌||◌, int_lt}
use Rattle.std.specs.Ordering.{int_eq}
use Rattle.dev_folder.specs.declared.stamp.Stamp.{Stamp}

-- whether a file changed later than another
abbrev pub is_later : Stamp → Stamp → Bool
is_later stamp other = int_lt other.seconds stamp.seconds
    || (int_eq stamp.seconds other.seconds && int_lt other.nanos stamp.nanos)
