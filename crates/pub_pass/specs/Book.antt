-- The book of a log: one list of operations that only grows, with one word that holds its length.
use Rattle.std.specs.Prelude.{ℕ, ◌≡◌, ◌==◌, true, List, [], ◌∷◌, ◌++◌, length, MatchBool}
use Rattle.logbook.specs.Pages.{Cell, Step, View, Book, Named}
use Rattle.fm_model.specs.declared.op.Op.{Op}

-- the first word is the length of the log. A book has two words, of which this one leaves the second at 0
pub record Counts (cells : List Cell) (log : List Op) : Type 0 where
  pub words : cells ≡ (length log, true) ∷ (0, true) ∷ []

-- the word of a book that holds the length of the log
abbrev pub length_word : Book → Named
length_word book = record { tracked = true; key = 0; book = book }

-- the operation was added to all that had been seen; or the log was longer than that
abbrev pub Adds : Step Op → View Op ℕ → ℕ → View Op ℕ → Type 0
Adds step before found after =
    MatchBool (found == step.old) (after.0 ≡ before.0 ++ step.ask ∷ []) (length after.0 ≡ found)
