-- How many links a dialer in memory has, and how many are out.
use Rattle.std.specs.Prelude.{ℕ, Bool, true, false, Option, Some, None}

-- how many links it has to give
abbrev pub links_left : {L : Type 0} → Option L → ℕ
links_left None = 0
links_left (Some link) = 1

-- how many of its links are out
abbrev pub links_out : Bool → ℕ
links_out false = 0
links_out true = 1
