-- Two lists of one length.
use Rattle.std.specs.Prelude.{List, [], ◌∷◌, Option}
use Rattle.std.specs.List.{cons_option}

-- what is made of some of the pairs, in order
abbrev pub pick : {A B R : Type 0} → (A → B → Option R) → List A → List B → List R
pick made [] ys = []
pick made (x ∷ xs) [] = []
pick made (x ∷ xs) (y ∷ ys) = cons_option (made x y) (pick made xs ys)
