-- Bytes written over the front of a buffer.
use Rattle.std.specs.Prelude.{◌≡◌, ℕ, List, ◌++◌, min, take, drop, length}

-- the buffer with as many of these bytes over its front as fit
unfoldable pub overlay : List ℕ → List ℕ → List ℕ
overlay bytes old = take (length old) bytes ++ drop (length bytes) old

-- `count` bytes are written over the front of the buffer: as many of these as fit
pub record IsPut (bytes old new : List ℕ) (count : ℕ) : Type 0 where
  pub count_is : count ≡ min (length old) (length bytes)
  pub new_is : new ≡ overlay bytes old
