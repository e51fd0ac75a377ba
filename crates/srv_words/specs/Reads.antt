-- What a call returns that reads words, and steps that each need what the one before gave.
use Rattle.std.specs.Prelude.{◌≡◌, Bool, Option, Some, None, Result, Ok, Err, if◌then◌else◌}
use Rattle.fm_base.specs.declared.fail.Fail.{Fail}
use Rattle.fm_base.specs.declared.fail.Fail.TheVariants as fails
use Rattle.srv_words.specs.declared.job.BadWords.{BadWords}

-- the result is the value that there is, or bad words where there is none, unless memory ran out
abbrev pub Reads : {A : Type 0} → Option A → Result A (Fail BadWords) → Type 0
Reads outcome (Ok value) = outcome ≡ Some value
Reads outcome (Err fails.NoMemory) = Unit {0}
Reads outcome (Err (fails.Fault bad)) = outcome ≡ None

-- a value, and then a step that counts on it
infixl 10 ◌>>=◌
abbrev pub ◌>>=◌ : {A B : Type 0} → Option A → (A → Option B) → Option B
(Some value) >>= next = next value
None >>= next = None

-- the value, where the test passes
abbrev pub if_so : {A : Type 0} → Bool → A → Option A
if_so test value = if test then Some value else None
