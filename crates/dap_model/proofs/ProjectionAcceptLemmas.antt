-- A projection is accepted where there is no first fault.
use Rattle.std.proofs.Common.{◌≡◌, List, [], Option, Some, None, Ok, Err, refl, ap}
use Rattle.std.specs.Result.{IsOk, is_ok}
use Rattle.std.proofs.lemmas.Bool.{false≢true}
use Rattle.dap_model.specs.declared.declaration.Decl.{Decl}
use Rattle.dap_model.specs.declared.fault.ProjectFault.{ProjectFault}
use Rattle.dap_model.specs.declared.projection.Clause.{Clause}
use Rattle.dap_model.specs.declared.projection.Projected.{Projected}
use Rattle.dap_model.specs.ClauseFaults.{first_fault}
use Rattle.dap_model.specs.Projection.{all_sent, unless_fault, projection_of}
use Rattle.dap_model.proofs.ProjectionAgreeLemmas.{Faultless}

-- an accepted projection has no fault and is what is sent
pub record Accepted (decls : List Decl) (clauses : List Clause) (projected : Projected) : Type 0 where
  pub faultless : Faultless decls [] clauses
  pub all : all_sent decls clauses ≡ projected

accepted_from : (first : Projected) (fault : Option ProjectFault) (projected : Projected)
    → unless_fault first fault ≡ Ok projected → (fault ≡ None) × (first ≡ projected)
accepted_from first None projected e = (refl, cc)
accepted_from first (Some fault) projected e = absurd (cc)

-- a projection that has no fault is accepted
pub Accepted-projection_of : (decls : List Decl) (clauses : List Clause) (projected : Projected)
    → projection_of decls clauses ≡ Ok projected → Accepted decls clauses projected
unfolding projection_of
Accepted-projection_of decls clauses projected e =
    let parts = accepted_from (all_sent decls clauses) (first_fault decls [] clauses) projected e in
    record { faultless = parts.0; all = parts.1 }

refused_from : (first : Projected) (o : Option ProjectFault) (fault : ProjectFault) → unless_fault first o ≡ Err fault
    → o ≡ Some fault
refused_from first None fault e = absurd (cc)
refused_from first (Some other) fault e = cc

pub first_fault-refused : (decls : List Decl) (clauses : List Clause) (fault : ProjectFault)
    → projection_of decls clauses ≡ Err fault → first_fault decls [] clauses ≡ Some fault
unfolding projection_of
first_fault-refused decls clauses fault e = refused_from (all_sent decls clauses) (first_fault decls [] clauses) fault e

pub refused-first_fault : (decls : List Decl) (clauses : List Clause) (fault : ProjectFault)
    → first_fault decls [] clauses ≡ Some fault → projection_of decls clauses ≡ Err fault
unfolding projection_of
refused-first_fault decls clauses fault e = ap (unless_fault (all_sent decls clauses)) e

none_if_ok : (first : Projected) (o : Option ProjectFault) → IsOk (unless_fault first o) → o ≡ None
none_if_ok first None ok = refl
none_if_ok first (Some fault) ok = absurd (false≢true ok)

pub faultless_if_ok : (decls : List Decl) (clauses : List Clause) → IsOk (projection_of decls clauses)
    → first_fault decls [] clauses ≡ None
unfolding projection_of
faultless_if_ok decls clauses ok = none_if_ok (all_sent decls clauses) (first_fault decls [] clauses) ok

pub ok_if_faultless : (decls : List Decl) (clauses : List Clause) → first_fault decls [] clauses ≡ None
    → IsOk (projection_of decls clauses)
unfolding projection_of
ok_if_faultless decls clauses none =
    ap (λ (o : Option ProjectFault). is_ok (unless_fault (all_sent decls clauses) o)) none
