-- The offset at which a text of units goes wrong, stated by the texts that spell units.
use Rattle.std.specs.Prelude.{◌≡◌, ◌⊎◌, ℕ, suc, ◌<◌, ◌≤◌, List, ◌++◌, length, take, replicate, false, IsTrue, None}
use Rattle.std.specs.Char.{is_ascii_alphabetic}
use Rattle.std.specs.List.{list_all}
use Rattle.nc_model.specs.UnitsRanges.{EndsRun, OutUnits}
use Rattle.nc_model.specs.UnitsReading.{Written, seconds_per}
use Rattle.nc_model.specs.UnitsSpelling.{SpellsUnits}

-- some text of the form of units begins with the first `count` bytes of this text
pub record IsBegun (count : ℕ) (text : List ℕ) : Type 0 where
  pub other : List ℕ
  pub units : Written
  pub within : count ≤ length text
  pub spelled : SpellsUnits false other units
  pub same : take count other ≡ take count text

-- no text of the form of units begins with the first `count` bytes of this text; where it has fewer, it is none itself
abbrev pub GoesNowhere : ℕ → List ℕ → Type 0
GoesNowhere count text =
    (other : List ℕ) (units : Written) → SpellsUnits false other units → take count other ≡ take count text → ⊥

-- The form of units ends at this offset: some text of the form goes on up to there, and none with the byte, or the end,
-- that this text has there.
pub record EndsForm (offset : ℕ) (text : List ℕ) : Type 0 where
  pub begun : IsBegun offset text
  pub nowhere : GoesNowhere (suc offset) text

-- Only spaces stand before this offset, and a word from there on. The word is whole, and names no unit.
pub record IsWrongUnit (offset : ℕ) (text : List ℕ) : Type 0 where
  pub word : List ℕ
  pub more : List ℕ
  pub some : 0 < length word
  pub letters : IsTrue (list_all is_ascii_alphabetic word)
  pub ends : EndsRun is_ascii_alphabetic more
  pub unknown : seconds_per word ≡ None
  pub text_is : text ≡ replicate offset 32 ++ (word ++ more)

-- a text goes wrong at this offset: its form ends there, or a value there is out of its range
abbrev pub GoesWrong : ℕ → List ℕ → Type 0
GoesWrong offset text = EndsForm offset text ⊎ OutUnits offset text

-- a text goes wrong at this offset, and at none before it
pub record GoesWrongFirst (offset : ℕ) (text : List ℕ) : Type 0 where
  pub wrong : GoesWrong offset text
  pub first : (before : ℕ) → before < offset → ¬ GoesWrong before text
