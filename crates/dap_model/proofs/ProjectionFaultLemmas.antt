-- The first fault of a projection, and what holds where there is none.
use Rattle.std.proofs.Common.{◌≡◌, ℕ, zero, suc, ◌<◌, List, [], ◌∷◌, ◌++◌, take, slice_get, Option, Some, None, refl, sym, ap, ap₂, subst, ◌∙◌, append_assoc, append-nil, inl, inr, arith}
use Rattle.std.proofs.lemmas.Bool.{cases_order}
use Rattle.std.proofs.lemmas.Option.{none-some, same_Some}
use Rattle.std.specs.Option.{option_or}
use Rattle.fm_base.proofs.OptionLemmas.{first_some, cases_Option}
use Rattle.dap_model.specs.declared.declaration.Decl.{Decl}
use Rattle.dap_model.specs.declared.fault.ProjectFault.{ProjectFault}
use Rattle.dap_model.specs.declared.projection.Clause.{Clause}
use Rattle.dap_model.specs.ClauseFaults.{clause_fault, first_fault}
use Rattle.dap_model.specs.ProjectionFacts.{HasNoFault, IsFirstFault}

pub first_none : {A : Type 0} (first second : Option A) → first ≡ None → option_or first second ≡ second
first_none first second e = ap (λ o. option_or o second) e

pub both_none : {A : Type 0} (first second : Option A) → option_or first second ≡ None
    → (first ≡ None) × (second ≡ None)
both_none None second e = (refl, e)
both_none (Some a) second e = absurd (none-some a (sym e))

-- the first of some clauses that has a fault, after these
record FirstAfter (decls : List Decl) (earlier clauses : List Clause) (fault : ProjectFault) : Type 0 where
  index : ℕ
  clause : Clause
  clause_is : slice_get clauses index ≡ Some clause
  fault_is : clause_fault decls (earlier ++ take index clauses) clause ≡ Some fault
  none_before : (before : ℕ) (other : Clause) → before < index → slice_get clauses before ≡ Some other
      → clause_fault decls (earlier ++ take before clauses) other ≡ None

moved : (decls : List Decl) (earlier : List Clause) (clause : Clause) (clauses : List Clause) (other : Clause)
    (index : ℕ)
    → clause_fault decls ((earlier ++ clause ∷ []) ++ take index clauses) other ≡ clause_fault decls
    (earlier ++ take (suc index) (clause ∷ clauses)) other
moved decls earlier clause clauses other index =
    ap (λ (l : List Clause). clause_fault decls l other) (append_assoc earlier (clause ∷ []) (take index clauses))

here : (decls : List Decl) (earlier : List Clause) (clause : Clause) (clauses : List Clause)
    → clause_fault decls (earlier ++ take 0 (clause ∷ clauses)) clause ≡ clause_fault decls earlier clause
here decls earlier clause clauses = ap (λ (l : List Clause). clause_fault decls l clause) (append-nil earlier)

-- no fault in front, and none before an index behind it
clear : (decls : List Decl) (earlier : List Clause) (clause : Clause) (clauses : List Clause) (index : ℕ)
    → clause_fault decls earlier clause ≡ None
    → ((before : ℕ) (other : Clause) → before < index → slice_get clauses before ≡ Some other → clause_fault decls
    ((earlier ++ clause ∷ []) ++ take before clauses) other ≡ None)
    → (before : ℕ) (other : Clause) → before < suc index → slice_get (clause ∷ clauses) before ≡ Some other
    → clause_fault decls (earlier ++ take before (clause ∷ clauses)) other ≡ None
clear decls earlier clause clauses index none each zero other below is =
    subst (λ (c : Clause). clause_fault decls (earlier ++ []) c ≡ None) (same_Some clause other is)
    (here decls earlier clause clauses ∙ none)
clear decls earlier clause clauses index none each (suc before) other below is =
    sym (moved decls earlier clause clauses other before) ∙ each before other (omega arith) is

first_fault-found : (decls : List Decl) (earlier clauses : List Clause) (fault : ProjectFault)
    → first_fault decls earlier clauses ≡ Some fault → FirstAfter decls earlier clauses fault
unfolding first_fault
first_fault-found decls earlier [] fault e = absurd (none-some fault e)
first_fault-found decls earlier (clause ∷ clauses) fault e = elim (cases_Option (clause_fault decls earlier clause)) [
  | inl none ↦
      let s = first_fault-found decls (earlier ++ clause ∷ []) clauses fault (sym (first_none _ _ none) ∙ e) in
      record {
        index = suc s.index;
        clause = s.clause;
        clause_is = s.clause_is;
        fault_is = sym (moved decls earlier clause clauses s.clause s.index) ∙ s.fault_is;
        none_before = clear decls earlier clause clauses s.index none s.none_before;
      }
  | inr some ↦ record {
    index = 0;
    clause = clause;
    clause_is = refl;
    fault_is =
        here decls earlier clause clauses ∙ some.1 ∙ ap Some (same_Some _ _ (sym (first_some _ _ some.0 some.1) ∙ e));
    none_before = λ before other below is. absurd (omega arith);
  }
]

pub IsFirstFault-first_fault : (decls : List Decl) (clauses : List Clause) (fault : ProjectFault)
    → first_fault decls [] clauses ≡ Some fault → IsFirstFault decls clauses fault
IsFirstFault-first_fault decls clauses fault e =
    let s = first_fault-found decls [] clauses fault e in
    record {
      index = s.index;
      clause = s.clause;
      clause_is = s.clause_is;
      fault_is = s.fault_is;
      none_before = s.none_before;
    }

-- no clause has a fault after those before it
abbrev pub NoneAfter : List Decl → List Clause → List Clause → Type 0
NoneAfter decls earlier clauses =
    (index : ℕ) (clause : Clause) → slice_get clauses index ≡ Some clause
    → clause_fault decls (earlier ++ take index clauses) clause ≡ None

pub none_after : (decls : List Decl) (earlier clauses : List Clause) → first_fault decls earlier clauses ≡ None
    → NoneAfter decls earlier clauses
unfolding first_fault
none_after decls earlier [] e index clause is = absurd (none-some clause is)
none_after decls earlier (first ∷ clauses) e index clause is =
    let parts = both_none _ _ e in
    let others = none_after decls (earlier ++ first ∷ []) clauses parts.1 in
    clear decls earlier first clauses index parts.0 (λ before other below is. others before other is) index clause
    (omega arith) is

-- two first faults are one
same_first : (decls : List Decl) (clauses : List Clause) (fault other : ProjectFault) → IsFirstFault decls clauses fault
    → IsFirstFault decls clauses other → fault ≡ other
same_first decls clauses fault other s t = elim (cases_order s.index t.index) [
  | inl same ↦
      let clause : s.clause ≡ t.clause = same_Some _ _ (sym s.clause_is ∙ ap (slice_get clauses) same ∙ t.clause_is) in
      same_Some _ _ (sym s.fault_is ∙ ap₂ (λ (n : ℕ) (c : Clause). clause_fault decls (take n clauses) c) same clause
      ∙ t.fault_is)
  | inr apart ↦ elim apart [
    | inl below ↦ absurd (none-some fault (sym (t.none_before s.index s.clause below s.clause_is) ∙ s.fault_is))
    | inr above ↦ absurd (none-some other (sym (s.none_before t.index t.clause above t.clause_is) ∙ t.fault_is))
  ]
]

-- the first fault of some clauses is the one that they have
pub first_fault-is : (decls : List Decl) (clauses : List Clause) (fault : ProjectFault)
    → IsFirstFault decls clauses fault → first_fault decls [] clauses ≡ Some fault
first_fault-is decls clauses fault s = elim (cases_Option (first_fault decls [] clauses)) [
  | inl none ↦
      absurd (none-some fault (sym (none_after decls [] clauses none s.index s.clause s.clause_is) ∙ s.fault_is))
  | inr some ↦
      let t = IsFirstFault-first_fault decls clauses some.0 some.1 in
      some.1 ∙ ap Some (same_first decls clauses some.0 fault t s)
]

-- where no clause has a fault there is no first one
pub no_first_fault : (decls : List Decl) (clauses : List Clause) → HasNoFault decls clauses
    → first_fault decls [] clauses ≡ None
no_first_fault decls clauses none = elim (cases_Option (first_fault decls [] clauses)) [
  | inl without ↦ without
  | inr some ↦
      let s = IsFirstFault-first_fault decls clauses some.0 some.1 in
      absurd (none-some some.0 (sym (none s.index s.clause s.clause_is) ∙ s.fault_is))
]
