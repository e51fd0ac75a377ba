-- One byte more at the front of a name, in a name, or after a clause.
use Rattle.std.proofs.Common.{◌≡◌, ℕ, true, List, [], ◌∷◌, ◌++◌, Some, refl, sym, ap, ap₂, subst, ◌∙◌, append_assoc, append-nil, arith}
use Rattle.std.proofs.lemmas.Bool.{and_from, eqb-true}
use Rattle.std.proofs.lemmas.List.{length-append}
use Rattle.std.proofs.lemmas.List.Folds.{list_all-append}
use Rattle.std.proofs.lemmas.Option.{none-some}
use Rattle.nc_model.specs.Spelling.{Spelled}
use Rattle.dap_model.specs.declared.projection.Slab.{Slab}
use Rattle.fm_base.specs.Name.{is_name_byte}
use Rattle.dap_model.specs.Constraint.{SpellsName, SpellsSlab, SpellsClause}
use Rattle.dap_model.specs.ConstraintReading.{Begun, State, in_name, with_name, last_clause, step_on, step_to_name, step_name}
use Rattle.dap_model.proofs.SeparatedLemmas.{Followed-push, Separated-last}
use Rattle.dap_model.proofs.ConstraintStates.{BeforeName, InName, AfterClause, Leads, choose, reached}

pub to_name : (text : List ℕ) (begun : Begun) (byte : ℕ) (next : State) → BeforeName text begun
    → step_to_name begun byte ≡ Some next → Leads (text ++ byte ∷ []) next
unfolding step_to_name
to_name text begun byte next leads h = choose _ _ _ next h
    (λ passes same. reached _ (in_name begun (byte ∷ [])) next same (record {
      before = text;
      leads = leads;
      spelled = record { bytes = and_from _ _ passes refl; some = omega arith; name_is = refl };
      text_is = refl;
    }))
    (λ other same. absurd (none-some next same))

-- a name may end a clause
pub AfterClause-in_name : (text : List ℕ) (begun : Begun) (name : List ℕ) → InName text begun name
    → AfterClause text (with_name begun name)
AfterClause-in_name text begun name s = record {
  clauses_text = s.leads.clauses_text;
  clause_text = s.leads.path_text ++ name;
  clauses = s.leads.clauses;
  clause = record {
    path_text = s.leads.path_text ++ name;
    slabs_text = [];
    path_is = Separated-last 46 SpellsName s.leads.path_text name begun.path name s.leads.path s.spelled;
    slabs_is = subst (λ (slabs : List Slab). Spelled SpellsSlab [] slabs) (sym s.leads.none) refl;
    text_is = sym (append-nil (s.leads.path_text ++ name));
  };
  text_is =
      s.text_is ∙ ap (λ (l : List ℕ). l ++ name) s.leads.text_is
      ∙ append_assoc s.leads.clauses_text s.leads.path_text name;
}

pub on_clause : (text : List ℕ) (begun : Begun) (byte : ℕ) (next : State) → AfterClause text begun
    → step_on begun byte ≡ Some next → Leads (text ++ byte ∷ []) next
unfolding step_on
on_clause text begun byte next s h = choose _ _ _ next h
    (λ passes same.
    let bracket = eqb-true byte 91 passes in
    reached _ _ next same
    (record {
      before = text;
      inner = [];
      leads = s;
      each = refl;
      few = omega arith;
      text_is = ap
          (λ (b : ℕ). text ++ b ∷ []) bracket;
    }))
    (λ other rest. choose _ _ _ next rest
    (λ passes same.
    let comma = eqb-true byte 44 passes in
    let clauses = s.clauses_text ++ s.clause_text in
    reached _ _ next same (record {
      clauses_text = clauses ++ 44 ∷ [];
      path_text = [];
      clauses =
          Followed-push 44 SpellsClause s.clauses_text s.clause_text begun.clauses
          (last_clause begun) s.clauses s.clause;
      path = refl;
      none = refl;
      text_is = ap₂ (λ (l : List ℕ) (b : ℕ). l ++ b ∷ []) s.text_is comma ∙ sym (append-nil (clauses ++ 44 ∷ []));
    }))
    (λ other same. absurd (none-some next same)))

-- one byte more of a name
longer_name : (name : List ℕ) (byte : ℕ) → SpellsName name name → is_name_byte byte ≡ true
    → SpellsName (name ++ byte ∷ []) (name ++ byte ∷ [])
longer_name name byte s passes = record {
  bytes = list_all-append is_name_byte name (byte ∷ []) ∙ and_from _ _ s.bytes (and_from _ _ passes refl);
  some = omega (arith, length-append name (byte ∷ []));
  name_is = refl;
}

pub on_name : (text : List ℕ) (begun : Begun) (name : List ℕ) (byte : ℕ) (next : State) → InName text begun name
    → step_name begun name byte ≡ Some next → Leads (text ++ byte ∷ []) next
unfolding step_name
on_name text begun name byte next s h =
    let whole : text ≡ s.leads.clauses_text ++ (s.leads.path_text ++ name) =
    s.text_is ∙ ap (λ (l : List ℕ). l ++ name) s.leads.text_is
    ∙ append_assoc s.leads.clauses_text s.leads.path_text name in
    choose _ _ _ next h
    (λ passes same. reached _ (in_name begun (name ++ byte ∷ [])) next same (record {
      before = s.before;
      leads = s.leads;
      spelled = longer_name name byte s.spelled passes;
      text_is = ap (λ (l : List ℕ). l ++ byte ∷ []) s.text_is ∙ append_assoc s.before name (byte ∷ []);
    }))
    (λ other rest. choose _ _ _ next rest
    (λ passes same.
    let dot = eqb-true byte 46 passes in
    reached _ _ next same (record {
      clauses_text = s.leads.clauses_text;
      path_text = (s.leads.path_text ++ name) ++ 46 ∷ [];
      clauses = s.leads.clauses;
      path = Followed-push 46 SpellsName s.leads.path_text name begun.path name s.leads.path s.spelled;
      none = s.leads.none;
      text_is =
          ap₂ (λ (l : List ℕ) (b : ℕ). l ++ b ∷ []) whole dot
          ∙ append_assoc s.leads.clauses_text (s.leads.path_text ++ name) (46 ∷ []);
    }))
    (λ other last. on_clause text (with_name begun name) byte next (AfterClause-in_name text begun name s) last))
