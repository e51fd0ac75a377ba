-- What the text is that leads reading to a state.
use Rattle.std.proofs.Common.{◌≡◌, ℕ, ◌≤◌, Bool, true, false, cond, List, [], ◌∷◌, ◌++◌, length, Option, Some, refl, sym, subst, ◌∙◌, inl, inr}
use Rattle.std.proofs.lemmas.Bool.{cases_Bool, cond-true, cond-false}
use Rattle.std.proofs.lemmas.Option.{same_Some}
use Rattle.dap_model.specs.Constraint.{SpellsName, SpellsNumber, SpellsClause}
use Rattle.dap_model.specs.ConstraintReading.{Begun, State, front, before_name, in_name, before_number, in_number, after_slab, fresh, last_clause}
use Rattle.dap_model.proofs.SeparatedLemmas.{Followed}

-- clauses with commas, and names with dots
pub record BeforeName (text : List ℕ) (begun : Begun) : Type 0 where
  pub clauses_text : List ℕ
  pub path_text : List ℕ
  pub clauses : Followed 44 SpellsClause clauses_text begun.clauses
  pub path : Followed 46 SpellsName path_text begun.path
  pub none : begun.slabs ≡ []
  pub text_is : text ≡ clauses_text ++ path_text

-- the same, and some of a name
pub record InName (text : List ℕ) (begun : Begun) (name : List ℕ) : Type 0 where
  pub before : List ℕ
  pub leads : BeforeName before begun
  pub spelled : SpellsName name name
  pub text_is : text ≡ before ++ name

-- clauses with commas, and a clause
pub record AfterClause (text : List ℕ) (begun : Begun) : Type 0 where
  pub clauses_text : List ℕ
  pub clause_text : List ℕ
  pub clauses : Followed 44 SpellsClause clauses_text begun.clauses
  pub clause : SpellsClause clause_text (last_clause begun)
  pub text_is : text ≡ clauses_text ++ clause_text

-- the same, an opening bracket, and numbers with colons
pub record BeforeNumber (text : List ℕ) (begun : Begun) (numbers : List ℕ) : Type 0 where
  pub before : List ℕ
  pub inner : List ℕ
  pub leads : AfterClause before begun
  pub each : Followed 58 SpellsNumber inner numbers
  pub few : length numbers ≤ 2
  pub text_is : text ≡ before ++ 91 ∷ inner

-- the same, and some of a number
pub record InNumber (text : List ℕ) (begun : Begun) (numbers : List ℕ) (count value : ℕ) : Type 0 where
  pub before : List ℕ
  pub digits : List ℕ
  pub leads : BeforeNumber before begun numbers
  pub spelled : SpellsNumber digits value
  pub count_is : count ≡ length digits
  pub text_is : text ≡ before ++ digits

abbrev pub Leads : List ℕ → State → Type 0
Leads text front = text ≡ []
Leads text (before_name begun) = BeforeName text begun
Leads text (in_name begun name) = InName text begun name
Leads text (before_number begun numbers) = BeforeNumber text begun numbers
Leads text (in_number begun numbers count value) = InNumber text begun numbers count value
Leads text (after_slab begun) = AfterClause text begun

-- which way a choice went
pub choose : {A P : Type 0} (b : Bool) (x y : Option A) (z : A) → cond b x y ≡ Some z → (b ≡ true → x ≡ Some z → P)
    → (b ≡ false → y ≡ Some z → P) → P
choose b x y z h then otherwise = elim (cases_Bool b) [
  | inl t ↦ then t (sym (cond-true b x y t) ∙ h)
  | inr f ↦ otherwise f (sym (cond-false b x y f) ∙ h)
]

pub reached : (text : List ℕ) (state next : State) → Some state ≡ Some next → Leads text state → Leads text next
reached text state next same leads = subst (Leads text) (same_Some state next same) leads

pub BeforeName-fresh : BeforeName [] fresh
BeforeName-fresh =
    record { clauses_text = []; path_text = []; clauses = refl; path = refl; none = refl; text_is = refl }
