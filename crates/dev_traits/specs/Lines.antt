-- The lines of a journal that a device was told.
use Rattle.std.specs.Prelude.{◌≡◌, ◌⊎◌, ℕ, List, [], ◌∷◌, ◌++◌, Option, Some, None, IfSome, IsSomeAnd}

-- the lines that were told, where none was lost
abbrev pub Told : Type 0
Told = Option (List (List ℕ))

-- the lines with one more behind them
abbrev pub with_line : List ℕ → Told → Told
with_line line None = None
with_line line (Some lines) = Some (lines ++ line ∷ [])

-- A line was told behind the others, or it was lost.
abbrev pub Notes : List ℕ → Told → Told → Type 0
Notes line told told' = (told' ≡ with_line line told) ⊎ (told' ≡ None)

-- Where no line was lost, these were told behind the others, in order.
abbrev pub Tells : List (List ℕ) → Told → Told → Type 0
Tells lines told told' = IfSome told' (λ all. IsSomeAnd told (λ before. all ≡ before ++ lines))
