-- Steps one after the other: each is taken where those before it have no fault, and the first fault stands.
use Rattle.std.specs.Prelude.{Bool, Option, Some, None, Result, Ok, Err, if◌then◌else◌}

-- a step that only decides whether there is a fault
abbrev pub Check : Type 0 → Type 0
Check E = Result (Unit {0}) E

-- a step, and then one that counts on its value
infixl 10 ◌>>=◌
abbrev pub ◌>>=◌ : {A B E : Type 0} → Result A E → (A → Result B E) → Result B E
(Ok value) >>= next = next value
(Err fault) >>= next = Err fault

-- a check, and then a step
infixl 10 ◌>>◌
abbrev pub ◌>>◌ : {B E : Type 0} → Check E → Result B E → Result B E
(Ok passed) >> next = next
(Err fault) >> next = Err fault

-- the fault, if there is one
abbrev pub refuse : {E : Type 0} → Option E → Check E
refuse None = Ok tt
refuse (Some fault) = Err fault

-- the fault, where the test passes
abbrev pub refuse_if : {E : Type 0} → Bool → E → Check E
refuse_if bad fault = if bad then Err fault else Ok tt

-- a fault in the words of the whole chain
abbrev pub fault_as : {A D E : Type 0} → (D → E) → Result A D → Result A E
fault_as name (Ok value) = Ok value
fault_as name (Err fault) = Err (name fault)
