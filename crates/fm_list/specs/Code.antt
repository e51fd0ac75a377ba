-- The codes of names, by which the files of a name are looked up.
use Rattle.std.specs.Prelude.{ℕ, ◌+◌, ◌*◌, ◌%◌, List, [], ◌∷◌, ℤ, pos}

-- the code of bytes that follow others of this code
unfoldable pub code_from : ℕ → List ℕ → ℕ
code_from code [] = code
code_from code (byte ∷ bytes) = code_from ((code * 1_048_583 + byte) % 67_108_864) bytes

-- the code of a name
unfoldable pub code_of : List ℕ → ℤ
code_of name = pos (code_from 0 name)
