-- Which texts are constraints, and what they ask for (ESE-RFC-004, constraint expressions, projections alone): paths of
-- names with slabs, as `time[0:2:6],t.lat`.
use Rattle.std.specs.Prelude.{◌≡◌, ◌⊎◌, ℕ, ◌<◌, ◌≤◌, List, [], ◌∷◌, ◌++◌, length, take, slice_get, IsTrue, Option, Some, None}
use Rattle.std.specs.Char.{is_ascii_digit}
use Rattle.std.specs.List.{list_all}
use Rattle.fm_base.specs.Name.{is_name_byte}
use Rattle.nc_model.specs.Spelling.{Spelled}
use Rattle.nc_model.specs.Stamp.{number_of}
use Rattle.dap_model.specs.declared.fault.CeFault.{CeFault}
use Rattle.dap_model.specs.declared.fault.CeFault.TheVariants.{BadConstraint, Selection}
use Rattle.dap_model.specs.declared.projection.Clause.{Clause}
use Rattle.dap_model.specs.declared.projection.Slab.{Slab}

-- one item or more, with this byte between each two
abbrev pub Separated : {A : Type 0} → ℕ → (List ℕ → A → Type 0) → List ℕ → List A → Type 0
Separated byte S text [] = ⊥
Separated byte S text (item ∷ []) = S text item
Separated byte S text (item ∷ next ∷ items) =
    (first : List ℕ) × (others : List ℕ) × S first item × Separated byte S others (next ∷ items)
    × (text ≡ first ++ byte ∷ others)

-- a name: one byte or more of those that names have
pub record SpellsName (text : List ℕ) (name : List ℕ) : Type 0 where
  pub bytes : IsTrue (list_all is_name_byte text)
  pub some : 0 < length text
  pub name_is : name ≡ text

-- a number of 1 to 18 decimal digits
pub record SpellsNumber (text : List ℕ) (number : ℕ) : Type 0 where
  pub digits : IsTrue (list_all is_ascii_digit text)
  pub some : 0 < length text
  pub few : length text ≤ 18
  pub value : number ≡ number_of text

-- the slab that one, two or three numbers give: one index, a range, or a range with its stride in the middle
unfoldable pub slab_of : List ℕ → Option Slab
slab_of (index ∷ []) = Some (record { start = index; stride = 1; stop = index })
slab_of (start ∷ stop ∷ []) = Some (record { start = start; stride = 1; stop = stop })
slab_of (start ∷ stride ∷ stop ∷ []) = Some (record { start = start; stride = stride; stop = stop })
slab_of numbers = None

-- a slab: `[4]`, `[0:6]` or `[0:2:6]`
pub record SpellsSlab (text : List ℕ) (slab : Slab) : Type 0 where
  pub inner : List ℕ
  pub numbers : List ℕ
  pub each : Separated 58 SpellsNumber inner numbers
  pub slab_is : slab_of numbers ≡ Some slab
  pub text_is : text ≡ 91 ∷ (inner ++ 93 ∷ [])

-- a clause: names with dots between them, and slabs
pub record SpellsClause (text : List ℕ) (clause : Clause) : Type 0 where
  pub path_text : List ℕ
  pub slabs_text : List ℕ
  pub path_is : Separated 46 SpellsName path_text clause.path
  pub slabs_is : Spelled SpellsSlab slabs_text clause.slabs
  pub text_is : text ≡ path_text ++ slabs_text

-- a constraint: nothing, or clauses with commas between them
abbrev pub Constrains : List ℕ → List Clause → Type 0
Constrains text clauses = ((text ≡ []) × (clauses ≡ [])) ⊎ Separated 44 SpellsClause text clauses

-- some constraint begins with this text
pub record BeginsConstraint (text : List ℕ) : Type 0 where
  pub rest : List ℕ
  pub clauses : List Clause
  pub spelled : Constrains (text ++ rest) clauses

-- the text before the offset is a constraint, and `&` stands there
pub record IsSelection (text : List ℕ) (at : ℕ) : Type 0 where
  pub clauses : List Clause
  pub before : Constrains (take at text) clauses
  pub mark : slice_get text at ≡ Some 38

-- the text is no constraint and has no selection, and the offset is the greatest up to which some constraint begins so
pub record IsBadConstraint (text : List ℕ) (at : ℕ) : Type 0 where
  pub no_constraint : (clauses : List Clause) → Constrains text clauses → ⊥
  pub no_selection : (offset : ℕ) → IsSelection text offset → ⊥
  pub within : at ≤ length text
  pub begun : BeginsConstraint (take at text)
  pub greatest : (more : ℕ) → at < more → more ≤ length text → BeginsConstraint (take more text) → ⊥

-- what is wrong with a text, and where
abbrev pub HasFault : List ℕ → CeFault → Type 0
HasFault text (BadConstraint at) = IsBadConstraint text at
HasFault text (Selection at) = IsSelection text at
