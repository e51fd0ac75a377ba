-- Two lists as one.
use Rattle.std.specs.Prelude.{List, [], ◌∷◌}
use Rattle.srv_many.specs.declared.several.Several.{Several}

-- the items of two lists in pairs
abbrev pub rows : {A B : Type 0} → List A → List B → List (Several A B)
rows [] others = []
rows (first ∷ more) [] = []
rows (first ∷ more) (other ∷ others) = record { first = first; others = other } ∷ rows more others
