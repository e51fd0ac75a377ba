-- Bytes that no header begins.
use Rattle.std.specs.Prelude.{ℕ, List}
use Rattle.nc_model.specs.declared.header.Header.{Header}
use Rattle.nc_model.specs.Spelling.{HeaderOf}

-- the bytes begin with a spelling of no sound header
abbrev pub HasNoHeader : List ℕ → Type 0
HasNoHeader bytes = (header : Header) → ¬ (HeaderOf bytes header)
