-- Parsers over bytes, and how they are put together. The fault that a parser ends with is a type of its own.
use Rattle.std.specs.Prelude.{ℕ, Bool, if◌then◌else◌, Option, Some, None, Result, Ok, Err}
use Rattle.fm_base.specs.Input.{Input}

-- what reading a part comes to: its value and the input after it, or the first fault
abbrev pub Outcome : Type 0 → Type 0 → Type 0
Outcome A E = Result (A × Input) E

abbrev pub Parser : Type 0 → Type 0 → Type 0
Parser A E = Input → Outcome A E

-- a parser that goes on from what was read
abbrev pub and_then : {A B E : Type 0} → Outcome A E → (A → Parser B E) → Outcome B E
and_then (Ok read) next = next read.0 read.1
and_then (Err fault) next = Err fault

-- one parser, and then another that may count on its value
infixl 10 ◌>>=◌
abbrev pub ◌>>=◌ : {A B E : Type 0} → Parser A E → (A → Parser B E) → Parser B E
p >>= next = λ i. and_then (p i) next

-- nothing is read
abbrev pub pure : {A E : Type 0} → A → Parser A E
pure value = λ i. Ok (value, i)

-- there is a fault
abbrev pub refuse : {A E : Type 0} → E → Parser A E
refuse fault = λ i. Err fault

-- a parser by its offset
abbrev pub located : {A E : Type 0} → (ℕ → Parser A E) → Parser A E
located f = λ i. f i.at i

-- the value, unless the test passes
abbrev pub unless : {A E : Type 0} → Bool → E → A → Parser A E
unless bad fault value = λ i. if bad then Err fault else Ok (value, i)

-- the value, if there is one
abbrev pub known : {A E : Type 0} → E → Option A → Parser A E
known fault None = refuse fault
known fault (Some value) = pure value

-- the value that was read, without the remaining input
abbrev pub value_of : {A E : Type 0} → Outcome A E → Result A E
value_of (Ok read) = Ok read.0
value_of (Err fault) = Err fault
