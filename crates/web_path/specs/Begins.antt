-- Whether a list of bytes begins with another, byte by byte.
use Rattle.std.specs.Prelude.{ℕ, ◌==◌, Bool, true, false, ◌&&◌, List, [], ◌∷◌}

abbrev pub begins : List ℕ → List ℕ → Bool
begins [] text = true
begins (byte ∷ front) [] = false
begins (byte ∷ front) (next ∷ text) = (next == byte) && begins front text
