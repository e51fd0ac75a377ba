-- What a call that may run out of memory returns.
use Rattle.std.specs.Prelude.{◌≡◌, Result, Ok, Err}
use Rattle.fm_base.specs.declared.fail.Fail.{Fail}
use Rattle.fm_base.specs.declared.fail.Fail.TheVariants as fails

-- the result is the value or the fault of this outcome, unless memory ran out
abbrev pub Answers : {A E : Type 0} → Result A E → Result A (Fail E) → Type 0
Answers outcome (Ok value) = outcome ≡ Ok value
Answers outcome (Err fails.NoMemory) = Unit {0}
Answers outcome (Err (fails.Fault fault)) = outcome ≡ Err fault

-- the result's value, seen so, or its fault, is that of this outcome, unless memory ran out
abbrev pub AnswersAs : {X A E : Type 0} → (X → A) → Result A E → Result X (Fail E) → Type 0
AnswersAs view outcome (Ok value) = outcome ≡ Ok (view value)
AnswersAs view outcome (Err fails.NoMemory) = Unit {0}
AnswersAs view outcome (Err (fails.Fault fault)) = outcome ≡ Err fault

-- the result is this value, unless memory ran out
abbrev pub IsReadAs : {A E : Type 0} → A → Result A (Fail E) → Type 0
IsReadAs value (Ok found) = found ≡ value
IsReadAs value (Err fail) = fail ≡ fails.NoMemory

-- the fact holds where the result is a fault of the input
abbrev pub OnFault : {A E : Type 0} → Result A (Fail E) → Type 0 → Type 0
OnFault (Ok found) P = Unit {0}
OnFault (Err fails.NoMemory) P = Unit {0}
OnFault (Err (fails.Fault fault)) P = P

-- the fact holds of the result's fault, if it has one
abbrev pub ForFault : {A E : Type 0} → Result A (Fail E) → (E → Type 0) → Type 0
ForFault (Ok value) P = Unit {0}
ForFault (Err fails.NoMemory) P = Unit {0}
ForFault (Err (fails.Fault fault)) P = P fault

-- the result is a fault, of which the fact holds
abbrev pub IsFaultAnd : {A E : Type 0} → Result A (Fail E) → (E → Type 0) → Type 0
IsFaultAnd (Ok value) P = ⊥
IsFaultAnd (Err fails.NoMemory) P = ⊥
IsFaultAnd (Err (fails.Fault fault)) P = P fault

-- the later result is the earlier one, with its fault in words that this relation gives it
abbrev pub Renames : {A D E : Type 0} → (D → E → Type 0) → Result A (Fail D) → Result A (Fail E) → Type 0
Renames names (Ok value) later = later ≡ Ok value
Renames names (Err fails.NoMemory) later = later ≡ Err fails.NoMemory
Renames names (Err (fails.Fault fault)) later = IsFaultAnd later (names fault)
