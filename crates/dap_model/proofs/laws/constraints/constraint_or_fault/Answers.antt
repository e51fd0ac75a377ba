-- A text is a constraint or has a fault, and never both.
use Rattle.std.proofs.Common.{◌≡◌, List, ℕ, Result, Ok, Err, refl}
use Rattle.std.specs.Prelude.{MatchResult}
use Rattle.dap_model.specs.declared.fault.CeFault.{CeFault}
use Rattle.dap_model.specs.declared.projection.Clause.{Clause}
use Rattle.dap_model.specs.Constraint.{Constrains, HasFault}
use Rattle.dap_model.specs.ConstraintReading.{constraint_of}
use Rattle.dap_model.proofs.ConstraintFaultLemmas.{constraint_of-constrains, constrains_from_constraint_of, constraint_of-fault, HasFault-constraint_of}
use Rattle.dap_model.proofs.laws.constraints.constraint_or_fault.Goals as goal

matched : (text : List ℕ) (outcome : Result (List Clause) CeFault) → constraint_of text ≡ outcome
    → MatchResult outcome (λ read. Constrains text read) (λ found. HasFault text found)
matched text (Ok clauses) e = constrains_from_constraint_of text clauses e
matched text (Err fault) e = HasFault-constraint_of text fault e

pub returns : goal.returns
returns c =
    let text = c.args.text.now in
    record {
      either = matched text (constraint_of text) refl;
      never_both = λ s t.
          let first = constraint_of-constrains text c.args.clauses.now s in
          let second = constraint_of-fault text c.args.fault t in
          cc;
    }
