-- What a sink holds.
use Rattle.std.specs.Prelude.{ℕ, List, ◌++◌, Option, Some, None}

-- the sink after these bytes were appended
abbrev pub after_append : List ℕ → Option (List ℕ) → Option (List ℕ)
after_append bytes None = None
after_append bytes (Some all) = Some (all ++ bytes)
