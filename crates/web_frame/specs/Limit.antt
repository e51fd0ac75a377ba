-- How much a head may be.
use Rattle.std.specs.Prelude.{ℕ}

-- the most bytes of a head, with the empty lines before it and the one that ends it
abbrev pub MAX_HEAD : ℕ
MAX_HEAD = 16384

-- the most header lines of a head
abbrev pub MAX_FIELDS : ℕ
MAX_FIELDS = 64
