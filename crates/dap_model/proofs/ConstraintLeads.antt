-- One byte more leads on, and where a constraint may end, the text is one.
use Rattle.std.proofs.Common.{◌≡◌, ℕ, List, [], ◌∷◌, ◌++◌, Some, sym, subst, inl, inr}
use Rattle.std.proofs.lemmas.Option.{none-some, same_Some}
use Rattle.dap_model.specs.declared.projection.Clause.{Clause}
use Rattle.dap_model.specs.Constraint.{Separated, SpellsClause, Constrains}
use Rattle.dap_model.specs.ConstraintReading.{Begun, State, front, before_name, in_name, before_number, in_number, after_slab, fresh, with_name, last_clause, clauses_of, step, clauses_at}
use Rattle.dap_model.proofs.SeparatedLemmas.{Separated-last}
use Rattle.dap_model.proofs.ConstraintNames.{to_name, AfterClause-in_name, on_clause, on_name}
use Rattle.dap_model.proofs.ConstraintNumbers.{first_digit, on_number}
use Rattle.dap_model.proofs.ConstraintStates.{BeforeName, AfterClause, Leads, choose, reached, BeforeName-fresh}

-- one byte more
pub Leads-step : (text : List ℕ) (state : State) (byte : ℕ) (next : State) → Leads text state
    → step state byte ≡ Some next → Leads (text ++ byte ∷ []) next
unfolding step
Leads-step text front byte next s h =
    to_name text fresh byte next (subst (λ (l : List ℕ). BeforeName l fresh) (sym s) BeforeName-fresh) h
Leads-step text (before_name begun) byte next s h = to_name text begun byte next s h
Leads-step text (in_name begun name) byte next s h = on_name text begun name byte next s h
Leads-step text (before_number begun numbers) byte next s h = choose _ _ _ next h
    (λ passes same. reached _ _ next same (first_digit text begun numbers byte s passes))
    (λ other same. absurd (none-some next same))
Leads-step text (in_number begun numbers count value) byte next s h =
    on_number text begun numbers count value byte next s h
Leads-step text (after_slab begun) byte next s h = on_clause text begun byte next s h

ended : (text : List ℕ) (begun : Begun) (clauses : List Clause) → AfterClause text begun
    → Some (clauses_of begun) ≡ Some clauses → Constrains text clauses
ended text begun clauses s same =
    let whole =
    Separated-last 44 SpellsClause s.clauses_text s.clause_text begun.clauses (last_clause begun) s.clauses s.clause in
    inr (subst (λ (l : List ℕ). Separated 44 SpellsClause l clauses) (sym s.text_is)
    (subst (λ (each : List Clause). Separated 44 SpellsClause (s.clauses_text ++ s.clause_text) each)
    (same_Some _ _ same) whole))

-- where a constraint may end, the text is one
pub Constrains-from_leads : (text : List ℕ) (state : State) (clauses : List Clause) → Leads text state
    → clauses_at state ≡ Some clauses → Constrains text clauses
unfolding clauses_at
Constrains-from_leads text front clauses s h = inl (s, sym (same_Some _ _ h))
Constrains-from_leads text (before_name begun) clauses s h = absurd (none-some clauses h)
Constrains-from_leads text (in_name begun name) clauses s h =
    ended text (with_name begun name) clauses (AfterClause-in_name text begun name s) h
Constrains-from_leads text (before_number begun numbers) clauses s h = absurd (none-some clauses h)
Constrains-from_leads text (in_number begun numbers count value) clauses s h = absurd (none-some clauses h)
Constrains-from_leads text (after_slab begun) clauses s h = ended text begun clauses s h
