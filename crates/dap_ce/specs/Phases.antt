-- Where the reader of a constraint stands, as a state of the machine that reads constraints byte by byte.
use Rattle.std.specs.Prelude.{◌≡◌, ℕ, Bool, true, false, Option, Some, None, ◌^◌, ◌<◌, ◌≤◌, List, [], ◌∷◌, ◌++◌, drop}
use Rattle.dap_model.specs.ConstraintReading.{Begun, State, before_name, in_name, before_number, in_number, after_slab}
use Rattle.dap_ce.specs.declared.phase.Numbers.{Numbers}
use Rattle.dap_ce.specs.declared.phase.Numbers.TheVariants.{Zero, One, Two}
use Rattle.dap_ce.specs.declared.phase.Phase.{Phase}
use Rattle.dap_ce.specs.declared.phase.Phase.TheVariants.{BeforeName, InName, BeforeNumber, InNumber, AfterSlab}
use Rattle.dap_ce.specs.declared.reader.Reader.{Reader}

-- the numbers of a slab before the next
abbrev pub numbers_of : Numbers → List ℕ
numbers_of Zero = []
numbers_of (One first) = first ∷ []
numbers_of (Two first second) = first ∷ second ∷ []

-- these numbers and one more
abbrev pub and_number : List ℕ → ℕ → List ℕ
and_number numbers last = numbers ++ last ∷ []

-- the state of the machine, after the text that is read; the bytes of a name stand in that text
abbrev pub state_in : Begun → List ℕ → Phase → State
state_in begun read BeforeName = before_name begun
state_in begun read (InName from) = in_name begun (drop from read)
state_in begun read (BeforeNumber numbers) = before_number begun (numbers_of numbers)
state_in begun read (InNumber numbers count value) = in_number begun (numbers_of numbers) count value
state_in begun read AfterSlab = after_slab begun

-- the clauses, the path and the slabs that are read
abbrev pub begun_of : Reader → Begun
begun_of reader = record { clauses = reader.clauses; path = reader.path; slabs = reader.slabs }

-- the state of the machine where a reader stands, after the text that is read
abbrev pub state_of : Reader → List ℕ → State
state_of reader read = state_in (begun_of reader) read reader.phase

-- a name begins in the text that is read, of which this many bytes are read; a number has at most 18 digits
abbrev pub Fits : ℕ → Phase → Type 0
Fits at BeforeName = Unit {0}
Fits at (InName from) = from ≤ at
Fits at (BeforeNumber numbers) = Unit {0}
Fits at (InNumber numbers count value) = (count ≤ 18) × (value < 10 ^ count)
Fits at AfterSlab = Unit {0}

-- a byte leads on to a state, or no constraint goes on with it
abbrev pub LeadsTo : Option State → State → Bool → Type 0
LeadsTo next state true = next ≡ Some state
LeadsTo next state false = next ≡ None
