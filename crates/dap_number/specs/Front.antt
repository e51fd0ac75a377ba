-- The front of some bytes, written over the front of a buffer.
use Rattle.std.specs.Prelude.{◌≡◌, ℕ, ◌≤◌, List, [], ◌∷◌, ◌++◌, take, drop, length}
use Rattle.std.specs.Int.{w16, from_be_bytes}
use Rattle.dap_model.specs.Xdr.{number_bytes}
use Rattle.dap_model.specs.declared.declaration.DapKind.TheVariants.{Int16}

-- the first `count` of these bytes stand over the front of the buffer
pub record IsFront (bytes old new : List ℕ) (count : ℕ) : Type 0 where
  pub fits : count ≤ length old
  pub within : count ≤ length bytes
  pub new_is : new ≡ take count bytes ++ drop count old

-- numbers of two bytes, each in four
unfoldable pub widened_bytes : List ℕ → List ℕ
widened_bytes [] = []
widened_bytes (high ∷ []) = []
widened_bytes (high ∷ low ∷ bytes) =
    number_bytes Int16 (from_be_bytes w16 (high ∷ low ∷ [])) ++ widened_bytes bytes
