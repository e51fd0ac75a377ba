-- Reading a constraint byte by byte, with the offset of its fault.
use Rattle.std.specs.Prelude.{ℕ, ◌+◌, ◌-◌, ◌*◌, List, [], ◌∷◌, ◌++◌, length, Bool, true, false, ◌&&◌, ◌==◌, nat_lt, if◌then◌else◌, Option, Some, None, Result, Ok, Err}
use Rattle.std.specs.Char.{is_ascii_digit}
use Rattle.std.specs.Option.{option_map, option_map_or}
use Rattle.fm_base.specs.Name.{is_name_byte}
use Rattle.dap_model.specs.Constraint.{slab_of}
use Rattle.dap_model.specs.declared.fault.CeFault.{CeFault}
use Rattle.dap_model.specs.declared.fault.CeFault.TheVariants.{BadConstraint, Selection}
use Rattle.dap_model.specs.declared.projection.Clause.{Clause}
use Rattle.dap_model.specs.declared.projection.Slab.{Slab}

-- the clauses before, and the path and the slabs of a clause as far as it is read
pub record Begun : Type 0 where
  pub clauses : List Clause
  pub path : List (List ℕ)
  pub slabs : List Slab

-- where reading stands: at the front of the text; at the first byte of a name; in a name; at the first digit of a
-- number of a slab, after these numbers; in a number, with how many digits it has and its value; at the end of a slab
pub data State : Type 0 where
  front : State
  before_name : Begun → State
  in_name : Begun → List ℕ → State
  before_number : Begun → List ℕ → State
  in_number : Begun → List ℕ → ℕ → ℕ → State
  after_slab : Begun → State

-- nothing is read yet
abbrev pub fresh : Begun
fresh = record { clauses = []; path = []; slabs = [] }

-- one more name in the path
abbrev pub with_name : Begun → List ℕ → Begun
with_name begun name = record begun { path = begun.path ++ name ∷ [] }

-- one more slab
abbrev pub with_slab : Begun → Slab → Begun
with_slab begun slab = record begun { slabs = begun.slabs ++ slab ∷ [] }

-- the clause that is read last, as far as it is read
abbrev pub last_clause : Begun → Clause
last_clause begun = record { path = begun.path; slabs = begun.slabs }

-- the clauses with the last one
abbrev pub clauses_of : Begun → List Clause
clauses_of begun = begun.clauses ++ last_clause begun ∷ []

-- the front of the next clause
abbrev pub next_clause : Begun → Begun
next_clause begun = record { clauses = clauses_of begun; path = []; slabs = [] }

-- after a clause that may end here: a slab or the next clause
unfoldable pub step_on : Begun → ℕ → Option State
step_on begun byte =
    if byte == 91 then Some (before_number begun [])
    else (if byte == 44 then Some (before_name (next_clause begun)) else None)

-- the first byte of a name
unfoldable pub step_to_name : Begun → ℕ → Option State
step_to_name begun byte = if is_name_byte byte then Some (in_name begun (byte ∷ [])) else None

-- a byte after some of a name: more of it, a dot, or what may follow a clause
unfoldable pub step_name : Begun → List ℕ → ℕ → Option State
step_name begun name byte =
    if is_name_byte byte then Some (in_name begun (name ++ byte ∷ []))
    else (if byte == 46 then Some (before_name (with_name begun name)) else step_on (with_name begun name) byte)

-- the end of a slab of these numbers
abbrev pub step_close : Begun → List ℕ → Option State
step_close begun numbers = option_map (λ slab. after_slab (with_slab begun slab)) (slab_of numbers)

-- a byte after some of a number: more of it, a colon if a number may follow, or the end of the slab
unfoldable pub step_number : Begun → List ℕ → ℕ → ℕ → ℕ → Option State
step_number begun numbers count value byte =
    if is_ascii_digit byte && nat_lt count 18
    then Some (in_number begun numbers (count + 1) (value * 10 + (byte - 48)))
    else (if byte == 58 && nat_lt (length numbers) 2
    then Some (before_number begun (numbers ++ value ∷ []))
    else (if byte == 93 then step_close begun (numbers ++ value ∷ []) else None))

-- where reading stands after one more byte; `None` where no constraint begins so
unfoldable pub step : State → ℕ → Option State
step front byte = step_to_name fresh byte
step (before_name begun) byte = step_to_name begun byte
step (in_name begun name) byte = step_name begun name byte
step (before_number begun numbers) byte =
    if is_ascii_digit byte then Some (in_number begun numbers 1 (byte - 48)) else None
step (in_number begun numbers count value) byte = step_number begun numbers count value byte
step (after_slab begun) byte = step_on begun byte

-- the clauses, where a constraint may end here
unfoldable pub clauses_at : State → Option (List Clause)
clauses_at front = Some []
clauses_at (before_name begun) = None
clauses_at (in_name begun name) = Some (clauses_of (with_name begun name))
clauses_at (before_number begun numbers) = None
clauses_at (in_number begun numbers count value) = None
clauses_at (after_slab begun) = Some (clauses_of begun)

-- whether a constraint may end here
abbrev pub may_end : State → Bool
may_end state = option_map_or (λ clauses. true) (clauses_at state) false

-- the fault of a byte at an offset, after which no constraint goes on
abbrev pub fault_at : State → ℕ → ℕ → CeFault
fault_at state at byte = if byte == 38 && may_end state then Selection at else BadConstraint at

-- the clauses at the end of a text, which is this long
abbrev pub ended_at : ℕ → Option (List Clause) → Result (List Clause) CeFault
ended_at at None = Err (BadConstraint at)
ended_at at (Some clauses) = Ok clauses

-- what the rest of a text gives from an offset on
unfoldable pub read_from : State → ℕ → List ℕ → Result (List Clause) CeFault
read_from state at [] = ended_at at (clauses_at state)
read_from state at (byte ∷ rest) =
    option_map_or (λ next. read_from next (at + 1) rest) (step state byte) (Err (fault_at state at byte))

-- the clauses of a text, or its fault
unfoldable pub constraint_of : List ℕ → Result (List Clause) CeFault
constraint_of text = read_from front 0 text
